use Rattle.std.proofs.Common.{◌≡◌, ◌+◌, ◌<◌, sym, ap, subst, arith, refl, length, slice_index, List, ℕ}
use Rattle.finite_sums.proofs.Totals.{count_at_most}
use Rattle.senior_hold.specs.MonthNetwork.{takes, out_arc}
use Rattle.senior_hold.specs.Spilled.{spilled}
use Rattle.senior_hold.specs.Arcs.{AreAmountsOf}
use Rattle.senior_hold.proofs.Numbers.{numbers_out}
use Rattle.senior_hold.proofs.SpilledArcs.{spilled_arcs, spilled_outlet, spilled_count, spill_is}
use Rattle.senior_hold.proofs.amounts.lay_spills.Goals as goal

pub overflow_add-into : goal.overflow_add-into
overflow_add-into c = omega (
  arith,
  c.requires.arcs.spill,
  c.requires.valid.bounded.links,
  c.requires.valid.bounded.rights,
  count_at_most (length c.args.basin.now.rights) (λ r. takes c.args.basin.now r),
  c.loop-node-test.true,
  c.len-node-end.ensures,
  c.requires.valid.bounded.nodes,
)

pub offset_bounds-into-first : goal.offset_bounds-into-first
offset_bounds-into-first c =
    omega (
      arith,
      c.requires.arcs.spill,
      c.requires.valid.bounded.links,
      c.requires.valid.bounded.rights,
      count_at_most (length c.args.basin.now.rights) (λ r. takes c.args.basin.now r),
      c.loop-node-test.true,
      c.len-node-end.ensures,
      c.requires.valid.bounded.nodes,
    )

pub bounds-into-first : goal.bounds-into-first
bounds-into-first c =
    omega (
      arith,
      c.requires.arcs.spill,
      c.requires.into,
      c.loop-node.auto.into,
      spilled_arcs c.args.basin.now,
      c.loop-node-test.true,
      c.len-node-end.ensures,
    )

pub loop-node-init : goal.loop-node-init
loop-node-init c = λ p is h. record {
  on_links = h.on_links;
  on_takes = h.on_takes;
  on_outs = λ n l o. absurd (omega arith);
}

pub loop-node-preserved : goal.loop-node-preserved
loop-node-preserved c = λ p is h.
    let inside : c.loop-node.node < length c.args.basin.now.nodes =
    omega (arith, c.loop-node-test.true, c.len-node-end.ensures) in
    let place : c.args.arcs.now.spill + c.loop-node.node ≡ out_arc (spilled c.args.basin.now) c.loop-node.node =
    omega (arith, c.requires.arcs.spill, spill_is c.args.basin.now c.loop-node.node (omega arith)) in
    numbers_out (spilled c.args.basin.now) p c.loop-node.into _ c.loop-node.node
    (slice_index c.args.out.now c.loop-node.node) (c.args.arcs.now.spill + c.loop-node.node)
    (omega (arith, inside, spilled_count c.args.basin.now)) (spilled_outlet c.args.basin.now c.loop-node.node inside)
    place
    (omega (
      arith,
      c.requires.arcs.spill,
      c.requires.into,
      c.loop-node.auto.into,
      spilled_arcs c.args.basin.now,
      inside,
    ))
    refl (ap (λ (xs : List ℕ). slice_index xs c.loop-node.node) (sym is)) (c.loop-node.invariant p is h)

pub returns : goal.returns
returns c = λ p is h.
    let b = c.args.basin.now in
    let all : c.loop-node.node ≡ length (spilled b).nodes =
    omega (arith, c.loop-node-test.false, c.len-node-end.ensures, c.loop-node.auto.node-end, spilled_count b) in
    subst (AreAmountsOf (spilled b) p (slice_index c.loop-node.into) (length b.links) (length b.rights)) all
    (c.loop-node.invariant p is h)
