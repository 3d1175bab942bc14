use Rattle.result_reader.proofs.Accepting.{others_are_out_of_place}
use Rattle.result_reader.proofs.laws.others_are_out_of_place.Goals as goal

pub returns : goal.returns
returns c = others_are_out_of_place
