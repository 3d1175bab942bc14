use Rattle.result_reader.proofs.TextForm.{texts_are_accepted}
use Rattle.result_reader.proofs.laws.texts_are_accepted.Goals as goal

pub returns : goal.returns
returns c = texts_are_accepted
