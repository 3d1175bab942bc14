use Rattle.inflow_file.proofs.Words.{◌≡◌, ℕ, ◌<◌, length, slice_index, filter, is_column}
use Rattle.water_model.specs.Indices.{numbers_from}
use Rattle.inflow_file.proofs.ColumnLaws.{passed_below}
use Rattle.inflow_file.proofs.columns.indices_of.Given as goal

abbrev pub invariant-loop-number : goal.invariant-loop-number
invariant-loop-number l = record {
  numbers : l.numbers.items ≡ filter (λ n. is_column l.basin n) (numbers_from 0 l.number);
  count : length l.of_number.items ≡ l.number;
  each : (n : ℕ) → n < l.number → slice_index l.of_number.items n ≡ passed_below (λ m. is_column l.basin m) n;
}
