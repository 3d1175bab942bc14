use Rattle.std.proofs.Common.{refl, arith, ap, sym, subst, ◌∙◌, slice_index}
use Rattle.circulation.specs.Contents.{Contents, arcs, flow_of, bounded_contents, IsCirculation}
use Rattle.circulation.proofs.Lent.{lent, arc_inside, flow_fits, bounded_is, bounded_kept}
use Rattle.circulation.proofs.circulation_mut.CirculationMut.bound.Goals as goal

pub overflow_add-flow-2 : goal.overflow_add-flow-2
overflow_add-flow-2 c =
    let fits = flow_fits c.args.arc (lent c.self.invariant refl) (omega (arith, c.requires.arc, ap arcs c.self.view_is)) in
    omega (arith, fits)

pub overflow_sub-self : goal.overflow_sub-self
overflow_sub-self c =
    let rooms = lent c.self.invariant c.self.view_is in
    omega (
      arith,
      rooms.are.fall c.args.arc (arc_inside c.args.arc rooms c.requires.arc),
      ap (λ (d : Contents). slice_index d.lower c.args.arc) c.self.view_is,
      c.requires.kept,
    )

pub returns-clause-bounded : goal.returns-clause-bounded
returns-clause-bounded c =
    (bounded_is c.args.arc c.args.most (lent c.self.invariant refl)
    (omega (arith, c.requires.arc, ap arcs c.self.view_is))
    (omega (arith, c.requires.kept, ap (λ (d : Contents). flow_of d c.args.arc) c.self.view_is))).0
    ∙ ap (λ (d : Contents). bounded_contents d c.args.arc c.args.most) c.self.view_is

pub returns-clause-kept : goal.returns-clause-kept
returns-clause-kept c =
    subst IsCirculation (sym (returns-clause-bounded c)) (bounded_kept c.args.arc c.args.most
    (subst IsCirculation c.self.view_is c.self.invariant.circulation) c.requires.arc c.requires.kept c.requires.small)

pub invariant_of-self : goal.invariant_of-self
invariant_of-self c = record {
  circulation = returns-clause-kept c;
  small = c.self.invariant.small;
  rooms = (bounded_is c.args.arc c.args.most (lent c.self.invariant refl)
      (omega (arith, c.requires.arc, ap arcs c.self.view_is))
      (omega (arith, c.requires.kept, ap (λ (d : Contents). flow_of d c.args.arc) c.self.view_is))).1;
}
