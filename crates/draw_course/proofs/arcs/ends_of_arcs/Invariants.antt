use Rattle.draw_course.specs.Arcs.{AreFirstEnds}
use Rattle.draw_course.proofs.arcs.ends_of_arcs.Given as goal

abbrev pub invariant-loop-arc : goal.invariant-loop-arc
invariant-loop-arc l = AreFirstEnds l.basin l.draws l.arc l.ends.items
