use Rattle.circulation.specs.Chains.{keys_of}
use Rattle.circulation.proofs.Links.{IsLinked}
use Rattle.circulation.proofs.rows.link.Given as goal

abbrev pub invariant-loop-a : goal.invariant-loop-a
invariant-loop-a l = IsLinked (keys_of l.pairs) l.first l.next l.a
