-- A basin in which some rights are changed.
use Rattle.std.specs.Prelude.{◌≡◌, ℕ, ◌<◌, Bool, true, false, ◌||◌, length, slice_get, slice_index, Some, IsTrue}
use Rattle.water_model.specs.Basin.{is_senior}
use Rattle.water_model.specs.History.{is_zone_of}
use Rattle.water_model.specs.Hydrology.{table_at}
use Rattle.water_model.specs.Valid.{is_gauged, is_in_series}
use Rattle.water_model.specs.declared.types.Basin.{Basin}
use Rattle.water_model.specs.declared.types.Series.{Series}
use Rattle.water_model.specs.declared.types.MonthRecord.{MonthRecord}
use Rattle.water_model.specs.declared.types.ReturnRow.{ReturnRow}

-- The second basin is the first but for the rights at the changed indices, which may differ in anything.
pub record HasChanged (first second : Basin) (changed : ℕ → Bool) : Type 0 where
  pub basin : second ≡ record first { rights = second.rights }
  pub count : length second.rights ≡ length first.rights
  pub others : (r : ℕ) → r < length first.rights → changed r ≡ false →
      slice_get second.rights r ≡ slice_get first.rights r

-- a right that is not changed, and in both basins is senior to each that is
pub record IsSeniorToChange (first second : Basin) (changed : ℕ → Bool) (right : ℕ) : Type 0 where
  pub in_range : right < length first.rights
  pub unchanged : changed right ≡ false
  pub before : (c : ℕ) → c < length first.rights → changed c ≡ true → IsTrue (is_senior first right c)
  pub after : (c : ℕ) → c < length first.rights → changed c ≡ true → IsTrue (is_senior second right c)

-- the two series give each gauged node, and each right that is not changed, the same amounts
pub record GiveUnchanged (first : Basin) (changed : ℕ → Bool) (series other : Series) : Type 0 where
  pub amounts : (n i : ℕ) → is_gauged first n ≡ true → i < first.months →
      table_at series.gauged series.amount i n ≡ table_at other.gauged other.amount i n
  pub wants : (r i : ℕ) → changed r ≡ false → is_in_series first r ≡ true → i < first.months →
      table_at series.wanted series.want i r ≡ table_at other.wanted other.want i r

-- two months leave the same to later ones: in the reservoirs, and of what comes back
pub record LeaveSame (b : Basin) (m n : MonthRecord) : Type 0 where
  pub closing : m.closing ≡ n.closing
  pub returning : (k : ℕ) (row : ReturnRow) → slice_get b.returns k ≡ Some row →
      slice_index m.delivered row.right ≡ slice_index n.delivered row.right

-- each zone, and each right from which water comes back, is senior to the change
pub record SparesCarryover (first second : Basin) (changed : ℕ → Bool) : Type 0 where
  pub zones : (r v : ℕ) → r < length first.rights → IsTrue (is_zone_of first r v || is_zone_of second r v) →
      IsSeniorToChange first second changed r
  pub returns : (k : ℕ) (row : ReturnRow) → slice_get first.returns k ≡ Some row →
      IsSeniorToChange first second changed row.right
