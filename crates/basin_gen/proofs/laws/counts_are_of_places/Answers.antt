use Rattle.basin_gen.proofs.CountLaws.{counts_are_of_places}
use Rattle.basin_gen.proofs.laws.counts_are_of_places.Goals as goal

pub returns : goal.returns
returns c = counts_are_of_places
