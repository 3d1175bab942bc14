use Rattle.std.proofs.Common.{length}
use Rattle.senior_hold.proofs.arcs.add_takes.Given as goal
use Rattle.senior_hold.specs.Arcs.{AreEndsOf}

abbrev pub invariant-loop-right : goal.invariant-loop-right
invariant-loop-right l = AreEndsOf l.basin l.ends.items (length l.basin.links) l.right 0
