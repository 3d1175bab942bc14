use Rattle.cert_check.proofs.RunGood.{histories_give_yes}
use Rattle.cert_check.proofs.laws.histories_give_yes.Goals as goal

pub returns : goal.returns
returns c = histories_give_yes
