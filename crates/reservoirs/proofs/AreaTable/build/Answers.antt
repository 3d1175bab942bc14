use Rattle.reservoirs.proofs.Tables.{refused_by}
use Rattle.reservoirs.proofs.AreaTable.build.Goals as goal

pub returns-in-Some-clause-refused : goal.returns-in-Some-clause-refused
returns-in-Some-clause-refused c = refused_by c.args.points.now c.in-Some.fault c.in-Some.ensures.first
