use Rattle.water_model.proofs.RunMonths.{months_have_their_index}
use Rattle.edit_script.proofs.laws.months_have_their_index.Goals as goal

pub returns : goal.returns
returns c = months_have_their_index
