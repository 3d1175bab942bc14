use Rattle.std.proofs.Common.{ap, refl, slice_index, arith}
use Rattle.circulation.specs.Contents.{Contents, arcs}
use Rattle.circulation.proofs.Lent.{lent, arc_inside, flow_fits}
use Rattle.circulation.proofs.circulation_mut.CirculationMut.flow.Goals as goal

pub overflow_add-result-2 : goal.overflow_add-result-2
overflow_add-result-2 c =
    let fits = flow_fits c.args.arc (lent c.self.invariant refl) (omega (arith, c.requires, ap arcs c.self.view_is)) in
    omega (arith, fits)

pub returns-clause-amount : goal.returns-clause-amount
returns-clause-amount c =
    let rooms = lent c.self.invariant c.self.view_is in
    omega (
      arith,
      rooms.are.fall c.args.arc (arc_inside c.args.arc rooms c.requires),
      ap (λ (d : Contents). slice_index d.lower c.args.arc) c.self.view_is,
    )
