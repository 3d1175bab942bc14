use Rattle.rights_roll.proofs.ZoneFaults.{AreClear}
use Rattle.rights_roll.proofs.zones.check_zones.Given as goal

abbrev pub invariant-loop-at : goal.invariant-loop-at
invariant-loop-at l = AreClear l.rights l.seen l.at
