use Rattle.std.proofs.Common.{◌≡◌, ◌∙◌, ◌<◌, ap, sym, subst, arith, true, false, length, slice_index, List, ℕ, ◌+◌}
use Rattle.senior_hold.specs.MonthNetwork.{takes}
use Rattle.senior_hold.proofs.Numbers.{right_arc_read, takes_arc, takes_arc_in, numbers_take, numbers_skip}
use Rattle.senior_hold.proofs.amounts.lay_takes.Goals as goal
use Rattle.senior_hold.specs.Arcs.{AreAmountsOf}
use Rattle.senior_hold.proofs.amounts.lay_takes.Goals.{then-is_taker, else-is_taker}

pub loop-right-init : goal.loop-right-init
loop-right-init c = λ p is h. h

pub bounds-into-index : goal.bounds-into-index
bounds-into-index c =
    let inside : c.loop-right.right < length c.args.basin.now.rights =
    omega (arith, c.loop-right-test.true, c.len-right-end.ensures) in
    let t : takes c.args.basin.now c.loop-right.right ≡ true = sym c.is_taker.ensures ∙ c.if-is_taker.true in
    omega (
      arith,
      takes_arc_in c.args.basin.now c.loop-right.right _ c.requires.valid inside t
          (right_arc_read c.args.basin.now c.args.arcs.now c.loop-right.right _ c.requires.arcs inside
          c.index.ensures),
      c.requires.into,
      c.loop-right.auto.into,
    )

pub loop-right-preserved : goal.loop-right-preserved
loop-right-preserved c = λ p is h. elim c.if-is_taker.branch [
  | then-is_taker w ↦ (let inside : c.loop-right.right < length c.args.basin.now.rights = omega (
    arith,
    c.loop-right-test.true,
    c.len-right-end.ensures,
  ) in
      let t : takes c.args.basin.now c.loop-right.right ≡ true = sym c.is_taker.ensures ∙ w.if-is_taker.true in
      let arc = right_arc_read c.args.basin.now c.args.arcs.now c.loop-right.right _ c.requires.arcs inside
      w.index.ensures in
      numbers_take c.args.basin.now p c.loop-right.into c.if-is_taker.into c.loop-right.right
      (slice_index c.args.take.now c.loop-right.right) _ inside t
      (arc ∙ takes_arc c.args.basin.now c.loop-right.right c.requires.valid inside t)
      (omega (
        arith,
        takes_arc_in c.args.basin.now c.loop-right.right _ c.requires.valid inside t arc,
        c.requires.into,
        c.loop-right.auto.into,
      ))
      w.into-is (ap (λ (xs : List ℕ). slice_index xs c.loop-right.right) (sym is))
      (c.loop-right.invariant p is h))
  | else-is_taker w ↦ (let t : takes c.args.basin.now c.loop-right.right ≡ false = sym c.is_taker.ensures
      ∙ w.if-is_taker.false in
      subst (λ (xs : List ℕ). AreAmountsOf c.args.basin.now p (slice_index xs)
      (length c.args.basin.now.links) (c.loop-right.right + 1) 0) (sym w.into-is)
      (numbers_skip c.args.basin.now p (slice_index c.loop-right.into) c.loop-right.right t
      (c.loop-right.invariant p is h)))
]
