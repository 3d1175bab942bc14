use Rattle.next_unit.specs.Helped.{AreBeingHelped, AreUndecided}
use Rattle.next_unit.proofs.helped.note_links.Given as goal

abbrev pub invariant-loop-j : goal.invariant-loop-j
invariant-loop-j l = record {
  undecided : AreUndecided l.basin l.month l.helped l.undecided l.count;
  helped : AreBeingHelped l.basin l.month l.position l.helped l.undecided l.j;
}
