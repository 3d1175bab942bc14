-- The amounts of some columns out of those of all.
use Rattle.std.specs.Prelude.{◌≡◌, ℕ, ◌+◌, ◌*◌, ◌/◌, ◌%◌, ◌<◌, List, length, Option, None, slice_index, slice_index_or}
use Rattle.std.specs.Prelude.{unwrap_or}

-- amount number k of those of `count` columns from column `from` on, where a month has `width` columns
abbrev pub cell_in : List (Option ℕ) → ℕ → ℕ → ℕ → ℕ → ℕ
cell_in cells width from count k = unwrap_or (slice_index_or cells (k / count * width + from + k % count) None) 0

-- the amounts of `count` columns from column `from` on, month by month
pub record IsPart (cells : List (Option ℕ)) (width from months count : ℕ) (part : List ℕ) : Type 0 where
  pub count_is : length part ≡ months * count
  pub each : (k : ℕ) → k < months * count → slice_index part k ≡ cell_in cells width from count k
