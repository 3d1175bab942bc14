use Rattle.inflow_file.proofs.Words.{◌≡◌, ℕ, ◌<◌, length, slice_index, cell_in}
use Rattle.inflow_file.proofs.cells.part_of.Given as goal

abbrev pub invariant-loop-cell : goal.invariant-loop-cell
invariant-loop-cell l = record {
  count : length l.part.items ≡ l.cell;
  each : (k : ℕ) → k < l.cell → slice_index l.part.items k ≡ cell_in l.cells l.width l.from l.count k;
}
