-- The text of an ensemble.
use Rattle.std.specs.Prelude.{◌≡◌, ℕ, List, [], ◌∷◌, ◌++◌, length, map, slice_index_or}
use Rattle.std.specs.List.{flat_map}
use Rattle.std.specs.List.Sorted.{IsNonDecreasingBy}
use Rattle.water_model.specs.Indices.{seniors_first}
use Rattle.water_model.specs.Valid.{IsValidBasin}
use Rattle.water_model.specs.declared.types.Basin.{Basin}
use Rattle.water_model.specs.declared.types.MonthRecord.{MonthRecord}
use Rattle.index_seq.specs.Counts.{rising, count_of}
use Rattle.index_seq.specs.Entries.{whole_line}
use Rattle.index_seq.specs.Traces.{years_of, yearly_deliveries}
use Rattle.index_seq.specs.declared.entry.EnsembleLine.{EnsembleLine}
use Rattle.index_seq.specs.declared.entry.EnsembleLine.TheVariants as line

-- a line for each different amount, rising, with how often it came
abbrev pub yearly_lines : List ℕ → List EnsembleLine
yearly_lines amounts = map (λ x. line.Yearly x (count_of x amounts)) (rising amounts)

-- the lines of a right, by the amounts that it was delivered in the years
abbrev pub right_lines : (ℕ → List ℕ) → ℕ → List EnsembleLine
right_lines amounts right = line.Right right ∷ yearly_lines (amounts right)

-- all lines, rights seniors first
abbrev pub ensemble_lines : Basin → (ℕ → List ℕ) → List EnsembleLine
ensemble_lines b amounts =
    line.Ensemble b.first
    (years_of b) ∷ (flat_map (right_lines amounts) (seniors_first b) ++ line.Done (years_of b) ∷ [])

-- the text of some traces
abbrev pub ensemble_text : Basin → List (List MonthRecord) → List ℕ
ensemble_text b traces = flat_map (whole_line b) (ensemble_lines b (yearly_deliveries b traces))

-- what contracts see of the amounts of all rights, which don't fall
pub record AmountsSeen : Type 0 where
  pub basin : Basin
  pub by_right : List (List ℕ)

abbrev pub amounts_seen : Basin → List (List ℕ) → AmountsSeen
amounts_seen b amounts = record { basin = b; by_right = amounts }

pub record AreAmounts (a : AmountsSeen) : Type 0 where
  pub valid : IsValidBasin a.basin
  pub count : length a.by_right ≡ length a.basin.rights
  pub sorted : (r : ℕ) → IsNonDecreasingBy (λ x. x) (slice_index_or a.by_right r [])
