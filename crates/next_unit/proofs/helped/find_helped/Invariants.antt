use Rattle.plan_residual.specs.Rows.{IsSearchOf}
use Rattle.next_unit.specs.Helped.{AreHelpedTo, AreUndecided}
use Rattle.next_unit.proofs.helped.find_helped.Given as goal

abbrev pub invariant-loop-position : goal.invariant-loop-position
invariant-loop-position l = record {
  search : IsSearchOf l.basin l.search;
  undecided : AreUndecided l.basin l.month l.helped l.undecided l.count;
  helped : AreHelpedTo l.basin l.month l.position l.helped;
}
