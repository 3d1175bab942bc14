use Rattle.index_seq.proofs.OneResult.{traces_have_one_result}
use Rattle.index_seq.proofs.laws.traces_have_one_result.Goals as goal

pub returns : goal.returns
returns c = traces_have_one_result
