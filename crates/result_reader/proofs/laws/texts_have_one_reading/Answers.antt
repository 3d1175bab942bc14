use Rattle.result_reader.proofs.OneReading.{texts_have_one_reading}
use Rattle.result_reader.proofs.laws.texts_have_one_reading.Goals as goal

pub returns : goal.returns
returns c = texts_have_one_reading
