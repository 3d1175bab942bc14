use Rattle.next_unit.specs.Helped.{AreDecided}
use Rattle.next_unit.proofs.helped.begin.Given as goal

abbrev pub invariant-loop-link : goal.invariant-loop-link
invariant-loop-link l = AreDecided l.basin l.month l.helped l.undecided l.count l.link
