use Rattle.reservoirs.proofs.Tables.{is_table, no_fault}
use Rattle.reservoirs.proofs.laws.tables_have_no_fault.Goals as goal

pub returns : goal.returns
returns c = λ points. (no_fault points, is_table points)
