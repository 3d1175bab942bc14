-- Who is delivered less in the second of two runs.
use Rattle.std.specs.Prelude.{◌≡◌, ℕ, ◌<◌, ◌≤◌, Bool, List, [], ◌∷◌, ◌++◌, length, take, map, filter, zip, flat_map}
use Rattle.std.specs.Prelude.{slice_get, slice_index, nat_lt, codes, Some, Result, Ok, Err}
use Rattle.std.specs.Fmt.{decimal}
use Rattle.std.specs.List.{join_with_byte}
use Rattle.water_edge.specs.Edge.{Extends, Output}
use Rattle.water_text.specs.Months.{month_digits}
use Rattle.water_model.specs.Basin.{right_name}
use Rattle.water_model.specs.declared.types.Basin.{Basin}
use Rattle.water_model.specs.declared.types.MonthRecord.{MonthRecord}
use Rattle.injury.specs.Common.{HaveOneName, common_rights}
use Rattle.injury.specs.declared.injuries.Injury.{Injury}
use Rattle.injury.specs.declared.pair.Pair.{Pair}

-- whether a common right is delivered less in the second record than in the first
abbrev pub is_injured : MonthRecord → MonthRecord → Pair → Bool
is_injured m n p = nat_lt (slice_index n.delivered p.second) (slice_index m.delivered p.first)

abbrev pub injury_of : MonthRecord → MonthRecord → Pair → Injury
injury_of m n p = record {
  month = m.month;
  right = p.first;
  first = slice_index m.delivered p.first;
  second = slice_index n.delivered p.second;
}

-- the injuries of some common rights in a month, right by right
abbrev pub injuries_of : List Pair → MonthRecord → MonthRecord → List Injury
injuries_of pairs m n = map (injury_of m n) (filter (is_injured m n) pairs)

-- An injury: in some month a right that both basins have is delivered less in the second run than in the first.
pub record IsInjury (first second : Basin) (records others : List MonthRecord) (injury : Injury) : Type 0 where
  pub index : ℕ
  pub before : MonthRecord
  pub after : MonthRecord
  pub in_first : slice_get records index ≡ Some before
  pub in_second : slice_get others index ≡ Some after
  pub counterpart : ℕ
  pub common : HaveOneName first second injury.right counterpart
  pub month : injury.month ≡ before.month
  pub delivered : injury.first ≡ slice_index before.delivered injury.right
  pub left : injury.second ≡ slice_index after.delivered counterpart
  pub less : injury.second < injury.first

-- the injuries of a run, by month and then in the first basin's order of seniority
unfoldable pub injuries : Basin → Basin → List MonthRecord → List MonthRecord → List Injury
injuries first second records others =
    flat_map (λ t. injuries_of (common_rights first second) t.0 t.1) (zip records others)

-- a line: its fields with single spaces between them, and a line feed
unfoldable pub row : List (List ℕ) → List ℕ
row fields = join_with_byte 32 fields ++ 10 ∷ []

-- injured MONTH RIGHT FIRST SECOND
abbrev pub injured_row : Basin → Injury → List ℕ
injured_row first i = row (
    codes "injured" ∷ month_digits i.month ∷ right_name first i.right ∷ decimal i.first ∷ decimal i.second ∷ [])

-- compared COMMON INJURED
abbrev pub compared_row : ℕ → ℕ → List ℕ
compared_row common injured = row (codes "compared" ∷ decimal common ∷ decimal injured ∷ [])

-- the comparison of two runs: a row for each injury, and the counts of common rights and of injuries
unfoldable pub comparison_text : Basin → Basin → List MonthRecord → List MonthRecord → List ℕ
comparison_text first second records others =
    flat_map (injured_row first) (injuries first second records others)
    ++ compared_row (length (common_rights first second)) (length (injuries first second records others))

-- a row for each injury was put, and they were counted; or after a failure of the sink a prefix of the rows was put
abbrev pub PutsInjuries : {E : Type 0} → Basin → List Injury → Output → Output → Result ℕ E → Type 0
PutsInjuries b all old new (Ok count) = (count ≡ length all) × Extends old new (flat_map (injured_row b) all)
PutsInjuries b all old new (Err _) =
    (count : ℕ) × (count ≤ length (flat_map (injured_row b) all)) ×
    Extends old new (take count (flat_map (injured_row b) all))
