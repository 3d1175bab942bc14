use Rattle.result_reader.proofs.Accepting.{prefixes_are_accepted}
use Rattle.result_reader.proofs.laws.prefixes_are_accepted.Goals as goal

pub returns : goal.returns
returns c = prefixes_are_accepted
