use Rattle.std.proofs.Common.{lit<}
use Rattle.finite_sums.specs.Sums.{total}
use Rattle.tests_networks.proofs.nets.compare.Goals as goal

pub natural-requires-clause-small : goal.natural-requires-clause-small
unfolding total
natural-requires-clause-small g c = lit< tt
