use Rattle.result_reader.proofs.Placing.{same_result}
use Rattle.result_reader.proofs.shape.is_same_shape.Goals as goal

pub returns : goal.returns
returns c = same_result c.is_same.result c.args.one.now c.args.other.now c.is_same.ensures
