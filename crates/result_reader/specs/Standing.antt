-- What a reader stands for.
use Rattle.std.specs.Prelude.{◌≡◌, ℕ, ◌+◌, ◌≤◌, List, length, sum_by, Some}
use Rattle.water_model.specs.Valid.{IsValidBasin}
use Rattle.result_lines.specs.declared.item.Item.{Item}
use Rattle.water_model.specs.declared.types.Basin.{Basin}
use Rattle.result_reader.specs.Due.{Due, all_due, due_after}
use Rattle.result_reader.specs.Form.{due_in_month}
use Rattle.result_reader.specs.Progress.{IsProgress, dues_of}
use Rattle.result_reader.specs.declared.progress.Progress.{Progress}
use Rattle.result_reader.specs.declared.shape.Shape.{Shape}
use Rattle.result_reader.specs.declared.shape.Shape.TheVariants as shape

-- what contracts see of a reader: its basin, what is due, and how many lines it may still accept at most
pub record ReaderView : Type 0 where
  pub basin : Basin
  pub due : Due
  pub left : ℕ

-- the reader accepted the lines of these items, and no others
abbrev pub ReaderStandsFor : ReaderView → List Item → Type 0
ReaderStandsFor r items = due_after r.basin (all_due r.basin) items ≡ Some r.due

-- how many lines may come at most for a line that is due: a `call` with an `in` line for each node, and one for every
-- other
abbrev pub most_for : Basin → Shape → ℕ
most_for b (shape.Call right) = 1 + length b.nodes
most_for b other = 1

abbrev pub max_lines : Basin → List Shape → ℕ
max_lines b dues = sum_by (most_for b) dues

-- what a reader keeps is right for its basin
pub record IsReader (b : Basin) (dues : List Shape) (p : Progress) (left : ℕ) : Type 0 where
  pub valid : IsValidBasin b
  pub dues_are : dues ≡ due_in_month b
  pub progress : IsProgress b dues p
  pub left_is : max_lines b (dues_of b dues p) ≤ left
