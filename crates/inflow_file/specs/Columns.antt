-- The columns of a series: for what it has an amount in each month.
use Rattle.std.specs.Prelude.{◌≡◌, ℕ, ◌+◌, ◌-◌, ◌<◌, List, length, slice_index, filter, nat_lt, Bool, true}
use Rattle.std.specs.Prelude.{if◌then◌else◌}
use Rattle.water_model.specs.Hydrology.{index_in}
use Rattle.water_model.specs.Indices.{numbers_from}
use Rattle.water_model.specs.Valid.{is_gauged, is_in_series}
use Rattle.water_model.specs.declared.types.Basin.{Basin}

-- nodes and rights in one list of numbers: the nodes by their own, and the rights after them
abbrev pub count_of_both : Basin → ℕ
count_of_both b = length b.nodes + length b.rights

abbrev pub right_number : Basin → ℕ → ℕ
right_number b right = length b.nodes + right

-- whether a number is that of a gauged node, or of a right whose wants stand in the series
abbrev pub is_column : Basin → ℕ → Bool
is_column b n = if nat_lt n (length b.nodes) then is_gauged b n else is_in_series b (n - length b.nodes)

-- these numbers, gauged nodes in the order of the basin and then rights
abbrev pub column_numbers : Basin → List ℕ
column_numbers b = filter (λ n. is_column b n) (numbers_from 0 (count_of_both b))

-- those of some numbers from one on, counted from there
abbrev pub columns_from : Basin → ℕ → ℕ → List ℕ
columns_from b from count = filter (λ n. is_column b (from + n)) (numbers_from 0 count)

pub record IsColumn (b : Basin) (n : ℕ) : Type 0 where
  pub within : n < count_of_both b
  pub due : is_column b n ≡ true

-- the columns, and for each number that is one its index among them
pub record AreIndices (b : Basin) (numbers indices : List ℕ) : Type 0 where
  pub columns_are : numbers ≡ column_numbers b
  pub count : length indices ≡ count_of_both b
  pub each : (n : ℕ) → n < count_of_both b → is_column b n ≡ true → slice_index indices n ≡ index_in numbers n
