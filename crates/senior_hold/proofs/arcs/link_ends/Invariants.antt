use Rattle.senior_hold.proofs.arcs.link_ends.Given as goal
use Rattle.senior_hold.specs.Arcs.{AreEndsOf}

abbrev pub invariant-loop-place : goal.invariant-loop-place
invariant-loop-place l = AreEndsOf l.basin l.ends.items l.place 0 0
