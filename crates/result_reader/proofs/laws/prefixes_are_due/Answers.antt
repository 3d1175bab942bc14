use Rattle.result_reader.proofs.Accepting.{prefixes_are_due}
use Rattle.result_reader.proofs.laws.prefixes_are_due.Goals as goal

pub returns : goal.returns
returns c = prefixes_are_due
