use Rattle.index_seq.proofs.Rotation.{begun_is}
use Rattle.index_seq.proofs.laws.traces_begin_in_their_year.Goals as goal

pub returns : goal.returns
returns c = λ b series years fits within. begun_is b series years fits within
