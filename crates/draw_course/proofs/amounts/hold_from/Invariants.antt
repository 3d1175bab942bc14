use Rattle.circulation.specs.Contents.{IsCirculation}
use Rattle.draw_course.specs.Raising.{SameButLower, IsHeldFrom}
use Rattle.draw_course.proofs.amounts.hold_from.Given as goal

abbrev pub invariant-loop-place : goal.invariant-loop-place
invariant-loop-place l = record {
  kept : IsCirculation l.circ;
  rest : SameButLower l.initial.circ l.circ;
  held : IsHeldFrom l.initial.circ.lower l.circ.lower l.first l.amounts l.place;
}
