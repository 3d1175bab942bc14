use Rattle.inflow_file.proofs.Words.{◌≡◌, ℕ, ◌<◌, None, true, is_some, slice_index_or}
use Rattle.inflow_file.proofs.cells.first_gap.Given as goal

abbrev pub invariant-loop-cell : goal.invariant-loop-cell
invariant-loop-cell l = (k : ℕ) → k < l.cell → is_some (slice_index_or l.amounts k None) ≡ true
