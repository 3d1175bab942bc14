use Rattle.std.proofs.Common.{◌≡◌, ◌∙◌, ◌<◌, ap, sym, arith, true, false, length}
use Rattle.circulation.specs.Contents.{flow_of}
use Rattle.finite_sums.specs.Sums.{when}
use Rattle.senior_hold.specs.MonthNetwork.{takes, take_arc}
use Rattle.senior_hold.proofs.Numbers.{right_arc_read, list_is, one_more_is, takes_arc, takes_arc_in}
use Rattle.senior_hold.proofs.amounts.read_takes.Goals as goal
use Rattle.senior_hold.proofs.amounts.read_takes.Goals.{then-is_taker, else-is_taker}

pub flow-requires : goal.flow-requires
flow-requires c =
    let inside : c.loop-right.right < length c.args.basin.now.rights =
    omega (arith, c.loop-right-test.true, c.len-right-end.ensures) in
    let t : takes c.args.basin.now c.loop-right.right ≡ true = sym c.is_taker.ensures ∙ c.if-is_taker.true in
    omega (
      arith,
      takes_arc_in c.args.basin.now c.loop-right.right _ c.requires.valid inside t
          (right_arc_read c.args.basin.now c.args.arcs.now c.loop-right.right _ c.requires.arcs inside c.index.ensures),
      c.requires.inside,
    )

pub loop-right-preserved : goal.loop-right-preserved
loop-right-preserved c =
    one_more_is c.loop-right.into c.loop-right.right c.if-is_taker.into _ (omega arith)
    (elim c.if-is_taker.branch [
      | then-is_taker w ↦ (
          let inside : c.loop-right.right < length c.args.basin.now.rights =
          omega (arith, c.loop-right-test.true, c.len-right-end.ensures) in
          let t : takes c.args.basin.now c.loop-right.right ≡ true = sym c.is_taker.ensures ∙ w.if-is_taker.true in
          w.into-is ∙ w.flow.ensures.amount ∙ ap (flow_of c.args.circ.now)
          (right_arc_read c.args.basin.now c.args.arcs.now c.loop-right.right _ c.requires.arcs inside w.index.ensures
          ∙ takes_arc c.args.basin.now c.loop-right.right c.requires.valid inside t)
          ∙ sym (ap (λ s. when s (flow_of c.args.circ.now (take_arc c.args.basin.now c.loop-right.right))) t))
      | else-is_taker w ↦ (
          let f : takes c.args.basin.now c.loop-right.right ≡ false = sym c.is_taker.ensures ∙ w.if-is_taker.false in
          w.into-is ∙ sym (ap (λ s. when s (flow_of c.args.circ.now (take_arc c.args.basin.now c.loop-right.right))) f))
    ])
    c.loop-right.invariant

pub returns : goal.returns
returns c = list_is _ c.loop-right.right _ c.loop-right.into (c.loop-right.auto.into
    ∙ c.requires.into) (omega (arith, c.loop-right-test.false, c.len-right-end.ensures)) c.loop-right.invariant

pub is_taker-requires-clause-valid : goal.is_taker-requires-clause-valid
is_taker-requires-clause-valid c = c.requires.valid

pub is_taker-requires-clause-arcs : goal.is_taker-requires-clause-arcs
is_taker-requires-clause-arcs c = c.requires.arcs

pub is_taker-requires-clause-right : goal.is_taker-requires-clause-right
is_taker-requires-clause-right c = omega (arith, c.loop-right-test.true, c.len-right-end.ensures)
