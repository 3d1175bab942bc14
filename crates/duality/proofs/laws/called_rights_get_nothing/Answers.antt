use Rattle.duality.proofs.Sheltered.{called_rights_get_nothing}
use Rattle.duality.proofs.laws.called_rights_get_nothing.Goals as goal

pub returns : goal.returns
returns c = called_rights_get_nothing
