use Rattle.cert_check.proofs.RunSound.{yes_gives_history}
use Rattle.cert_check.proofs.laws.yes_gives_history.Goals as goal

pub returns : goal.returns
returns c = yes_gives_history
