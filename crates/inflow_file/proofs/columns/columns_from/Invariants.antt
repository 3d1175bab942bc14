use Rattle.inflow_file.proofs.Words.{◌≡◌, columns_from}
use Rattle.inflow_file.proofs.columns.columns_from.Given as goal

abbrev pub invariant-loop-number : goal.invariant-loop-number
invariant-loop-number l = l.listed.items ≡ columns_from l.basin l.from l.number
