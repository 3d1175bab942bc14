use Rattle.circulation.proofs.Lent.{lent, arc_inside}
use Rattle.circulation.proofs.circulation_mut.CirculationMut.room.Goals as goal

pub returns-then-forward-clause-rise : goal.returns-then-forward-clause-rise
returns-then-forward-clause-rise c = λ _.
    let rooms = lent c.self.invariant c.self.view_is in
    rooms.are.rise c.args.arc (arc_inside c.args.arc rooms c.requires)

pub returns-else-forward-clause-fall : goal.returns-else-forward-clause-fall
returns-else-forward-clause-fall c = λ _.
    let rooms = lent c.self.invariant c.self.view_is in
    rooms.are.fall c.args.arc (arc_inside c.args.arc rooms c.requires)
