use Rattle.std.proofs.Common.{refl, arith, ap, sym, subst, ◌∙◌}
use Rattle.circulation.specs.Contents.{Contents, arcs, flow_of, held_contents, IsCirculation}
use Rattle.circulation.proofs.Lent.{lent, hold_fits, held_is, held_kept}
use Rattle.circulation.proofs.circulation_mut.CirculationMut.hold.Goals as goal

pub overflow_sub-self-then-amount-held : goal.overflow_sub-self-then-amount-held
overflow_sub-self-then-amount-held c =
    hold_fits c.args.arc c.args.amount (lent c.self.invariant refl)
    (omega (arith, c.requires.arc, ap arcs c.self.view_is))
    (omega (arith, c.requires.kept, ap (λ (d : Contents). flow_of d c.args.arc) c.self.view_is))

pub returns-then-amount-held-clause-held : goal.returns-then-amount-held-clause-held
returns-then-amount-held-clause-held c =
    let held = held_is c.args.arc c.args.amount (lent c.self.invariant refl)
    (omega (arith, c.requires.arc, ap arcs c.self.view_is)) c.if-amount-held.true
    (omega (arith, c.requires.kept, ap (λ (d : Contents). flow_of d c.args.arc) c.self.view_is)) in
    held.0 ∙ ap (λ (d : Contents). held_contents d c.args.arc c.args.amount) c.self.view_is

pub returns-then-amount-held-clause-kept : goal.returns-then-amount-held-clause-kept
returns-then-amount-held-clause-kept c =
    subst IsCirculation (sym (returns-then-amount-held-clause-held c)) (held_kept c.args.arc c.args.amount
    (subst IsCirculation c.self.view_is c.self.invariant.circulation) c.requires.arc c.requires.kept)

pub invariant_of-self : goal.invariant_of-self
invariant_of-self c =
    let held = held_is c.args.arc c.args.amount (lent c.self.invariant refl)
    (omega (arith, c.requires.arc, ap arcs c.self.view_is)) c.if-amount-held.true
    (omega (arith, c.requires.kept, ap (λ (d : Contents). flow_of d c.args.arc) c.self.view_is)) in
    record {
      circulation = returns-then-amount-held-clause-kept c;
      small = c.self.invariant.small;
      rooms = held.1;
    }
