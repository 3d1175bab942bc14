use Rattle.std.proofs.Common.{arith, refl}
use Rattle.circulation.specs.Contents.{network, flow_of}
use Rattle.circulation.proofs.Cuts.{tight-greatest}
use Rattle.augment.proofs.Raises.{flow_over}
use Rattle.augment.proofs.raise.Goals as goal

pub returns-then-flow-want-clause-greatest : goal.returns-then-flow-want-clause-greatest
returns-then-flow-want-clause-greatest g c = λ _ h flow.
    let less = c.if-flow-want.true in
    let seen = c.flow.ensures.amount in
    let cut = c.run_phases.ensures.cut (omega (arith, less, seen)) in
    tight-greatest (network c.args.circ.now) c.args.arc _ (flow_of c.run_phases.new.circ) h c.requires.arc cut.tight
    flow

pub returns-then-flow-want-clause-exact : goal.returns-then-flow-want-clause-exact
returns-then-flow-want-clause-exact g c = λ _.
    let less = c.if-flow-want.true in
    let seen = c.flow.ensures.amount in (
      λ e. absurd (cc),
      λ h. absurd (omega (
        arith,
        returns-then-flow-want-clause-greatest g c refl h.0 h.1.0,
        h.1.1,
        less,
        seen,
      )),
    )

pub returns-else-flow-want-clause-exact : goal.returns-else-flow-want-clause-exact
returns-else-flow-want-clause-exact g c = λ _.
    let flow = flow_over c.args.circ.now c.run_phases.ensures.rest c.run_phases.ensures.kept in
    let limit = c.run_phases.ensures.limit in
    let full = c.if-flow-want.false in
    (λ _. (flow_of c.run_phases.new.circ, (flow, omega (arith, limit, full, c.flow.ensures.amount))), λ _. refl)
