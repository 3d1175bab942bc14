use Rattle.rights_roll.proofs.Ranks.{AreFresh}
use Rattle.rights_roll.proofs.order.rank.Given as goal

abbrev pub invariant-loop-at : goal.invariant-loop-at
invariant-loop-at l = AreFresh l.rights l.ranks l.at
