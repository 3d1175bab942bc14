use Rattle.injury.proofs.Commons.{common_rights_have_one_name}
use Rattle.injury.proofs.laws.common_rights_have_one_name.Goals as goal

pub returns : goal.returns
returns c = common_rights_have_one_name
