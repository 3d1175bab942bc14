use Rattle.cut_cert.specs.Sets.{cut_at}
use Rattle.next_unit.specs.Helped.{NoneEnters}
use Rattle.next_unit.proofs.helped.any_enters.Given as goal

abbrev pub invariant-loop-j : goal.invariant-loop-j
invariant-loop-j l = NoneEnters l.basin (cut_at l.month.cuts l.right) l.undecided l.j
