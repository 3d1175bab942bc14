use Rattle.std.proofs.Common.{◌<◌, ◌^◌, ◌∙◌, sym, ap, arith, length}
use Rattle.std.specs.Prelude.{slice_index}
use Rattle.finite_sums.proofs.Totals.{total_where_start, total_where_most}
use Rattle.water_model.specs.History.{is_zone_of}
use Rattle.month_terms.proofs.Adds.{zone_more, no_zone_more, zone_within}
use Rattle.water_model.proofs.Lists.{no_numbers}
use Rattle.month_terms.proofs.closing.close_zones.Goals as goal
use Rattle.month_terms.proofs.closing.close_zones.Goals.{in-Zone, in_default}

pub loop-right-init : goal.loop-right-init
loop-right-init c = λ v.
    ap (λ xs. slice_index xs v) (c.fill.ensures.after (λ y h. h)) ∙ (no_numbers _ v
    ∙ sym (total_where_start (λ r. is_zone_of c.args.basin.now r v) (λ r. slice_index c.args.take.now r)))

pub add_at-requires-clause-position : goal.add_at-requires-clause-position
add_at-requires-clause-position c =
    let within =
    zone_within c.args.basin.now c.loop-right.right c.in-Zone.reservoir c.in-Zone.level c.index.result.now
    c.requires.basin c.index.ensures c.in-Zone.is in
    omega (arith, within, c.loop-right.auto.closing, c.fill.ensures.len, c.requires.closing)

pub add_at-requires-clause-small : goal.add_at-requires-clause-small
add_at-requires-clause-small c =
    let below : c.loop-right.right < length c.args.basin.now.rights =
    omega (arith, c.loop-right-test.true, c.len-right-end.ensures) in
    let sum =
    total_where_most c.loop-right.right (10 ^ 9) (λ r. is_zone_of c.args.basin.now r c.in-Zone.reservoir)
    (λ r. slice_index c.args.take.now r)
    (λ k l. c.requires.small k (omega arith)) in
    omega (
      arith,
      below,
      sum,
      c.loop-right.invariant c.in-Zone.reservoir,
      c.requires.small c.loop-right.right below,
      c.requires.basin.bounded.rights,
    )

pub loop-right-preserved : goal.loop-right-preserved
loop-right-preserved c = λ v. elim c.match-index.branch [
  | in-Zone w ↦ ap (λ xs. slice_index xs v) w.closing-is ∙ (w.add_at.ensures.each v
      ∙ zone_more c.args.basin.now c.args.take.now c.loop-right.closing c.loop-right.right v w.in-Zone.reservoir
      w.in-Zone.level _ c.index.result.now c.index.ensures w.in-Zone.is (c.loop-right.invariant v))
  | in_default w ↦ ap (λ xs. slice_index xs v) w.closing-is
      ∙ no_zone_more c.args.basin.now c.args.take.now c.loop-right.right v _ c.index.result.now
      c.index.ensures w.in_default.not-Zone (c.loop-right.invariant v)
]
