use Rattle.std.proofs.Common.{length}
use Rattle.senior_hold.specs.Arcs.{AreEndsOf}
use Rattle.senior_hold.specs.Spilled.{spilled}
use Rattle.senior_hold.proofs.arcs.add_spills.Given as goal

abbrev pub invariant-loop-from : goal.invariant-loop-from
invariant-loop-from l = AreEndsOf (spilled l.basin) l.ends.items (length l.basin.links) (length l.basin.rights) l.from
