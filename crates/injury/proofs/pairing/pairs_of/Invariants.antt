use Rattle.std.proofs.Common.{◌≡◌, take}
use Rattle.std.specs.Prelude.{filter_map}
use Rattle.injury.specs.Common.{pair_of}
use Rattle.injury.proofs.pairing.pairs_of.Given as goal

abbrev pub invariant-loop-right : goal.invariant-loop-right
invariant-loop-right l = l.pairs.items ≡ filter_map (pair_of l.first l.second.basin.now) (take l.right-index l.rights)
