use Rattle.std.proofs.Common.{ℕ, slice_index}
use Rattle.senior_hold.specs.Arcs.{position_of}
use Rattle.senior_hold.proofs.Lists.{pushed_gets, pushed_count}
use Rattle.senior_hold.proofs.arcs.positions_of.Goals as goal

pub loop-place-preserved : goal.loop-place-preserved
loop-place-preserved c = record {
  count = pushed_count _ _ _ _ c.in_ok-push.ensures.items c.loop-place.invariant.count;
  each = pushed_gets (λ (k : ℕ). position_of c.args.basin.now (slice_index c.args.order.now k)) _ _ _ _
      c.in_ok-push.ensures.items c.loop-place.invariant.count c.loop-place.invariant.each c.position_of.ensures;
}
