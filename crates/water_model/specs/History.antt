-- Records of months, histories, reaches and calling rights.
use Rattle.std.specs.Prelude.{◌≡◌, ℕ, ◌+◌, ◌-◌, ◌<◌, ◌≤◌, Bool, false, List, map, length, slice_index, slice_get}
use Rattle.std.specs.Prelude.{Option, Some, None, IsTrue, IfSome, IfNone, ◌&&◌, nat_lt, take, find}
use Rattle.std.specs.Option.{option_map_or}
use Rattle.finite_sums.specs.Sums.{total_where}
use Rattle.water_model.specs.Lookups.{of_entry}
use Rattle.water_model.specs.Basin.{is_senior}
pub use Rattle.water_model.specs.Basin.{is_zone_of, is_zone_of_kind}
use Rattle.water_model.specs.Plans.{IsPlan, delivery}
use Rattle.water_model.specs.CutSets.{set_of}
use Rattle.water_model.specs.Cuts.{IsTight, IsReach, takes_within}
use Rattle.water_model.specs.Hydrology.{run_month, in_year, inflow_at, evaporation, returned_at, stored_at, used_of}
use Rattle.water_model.specs.Hydrology.{want_of}
use Rattle.water_model.specs.declared.types.Basin.{Basin}
use Rattle.water_model.specs.declared.types.Series.{Series}
use Rattle.water_model.specs.declared.types.MonthRecord.{MonthRecord}
use Rattle.water_model.specs.Indices.{seniors_first}

-- a right is short if it is delivered less than its want
abbrev pub IsShort : MonthRecord → ℕ → Type 0
IsShort m right = slice_index m.delivered right < slice_index m.want right

-- the set that the record has of a right
abbrev pub cut_of : MonthRecord → ℕ → Option (List Bool)
cut_of m right = set_of m.cuts right

-- the storage in which a month opens: the basin's, or the closing of the month before
abbrev pub opening_after : Basin → List MonthRecord → List ℕ
opening_after b before =
    of_entry before (length before - 1) (λ m. m.closing) (map (λ v. v.opening) b.reservoirs)

-- each list has one number for each reservoir, node, right or link
pub record FitsBasin (b : Basin) (m : MonthRecord) : Type 0 where
  pub opening : length m.opening ≡ length b.reservoirs
  pub evaporated : length m.evaporated ≡ length b.reservoirs
  pub closing : length m.closing ≡ length b.reservoirs
  pub returned : length m.returned ≡ length b.nodes
  pub supply : length m.supply ≡ length b.nodes
  pub used : length m.used ≡ length b.rights
  pub want : length m.want ≡ length b.rights
  pub delivered : length m.delivered ≡ length b.rights
  pub cuts : length m.cuts.sets ≡ length b.rights
  pub cut_nodes : m.cuts.nodes ≡ length b.nodes

-- The record is of the month after the records before, whatever it opens and closes with and whatever sets it has: its
-- lists fit the basin, evaporation, returns, supply, use and wants are those of its opening and the records before, and
-- it has a plan and what the plan delivers.
pub record IsNextMonth (b : Basin) (series : Series) (before : List MonthRecord) (m : MonthRecord) : Type 0 where
  pub fits : FitsBasin b m
  pub index : m.index ≡ length before
  pub month : m.month ≡ run_month b m.index
  pub evaporated : (v : ℕ) → v < length b.reservoirs → slice_index m.evaporated v
      ≡ of_entry b.reservoirs v
      (λ r. evaporation r.area (slice_index m.opening v) (slice_index r.rate (in_year b m.index))) 0
  pub returned : (n : ℕ) → n < length b.nodes → slice_index m.returned n
      ≡ returned_at b (map (λ k. k.delivered) before) n m.index
  pub supply : (n : ℕ) → n < length b.nodes → slice_index m.supply n
      ≡ inflow_at b series n m.index + slice_index m.returned n + stored_at b m.opening m.evaporated n
  pub used : (r : ℕ) → r < length b.rights → slice_index m.used r
      ≡ used_of b (map (λ k. k.delivered) before) r m.index
  pub want : (r : ℕ) → r < length b.rights → slice_index m.want r
      ≡ want_of b series r m.index (slice_index m.used r)
  pub plan : IsPlan b m.month m.supply m.want m.plan
  pub delivered : (r : ℕ) → r < length b.rights → slice_index m.delivered r ≡ delivery b m.want m.plan r

-- a record of the month that follows the records before: it opens with what they leave, each short right has a tight
-- cut and no other right a set, and it closes with what the zones took
pub record Follows (b : Basin) (series : Series) (before : List MonthRecord) (m : MonthRecord) : Type 0 where
  pub after : IsNextMonth b series before m
  pub opening : m.opening ≡ opening_after b before
  pub short : (r : ℕ) → r < length b.rights → IsShort m r →
      (cut : List Bool) × (cut_of m r ≡ Some cut) × IsTight b m.month m.supply m.delivered r cut
  pub met : (r : ℕ) → r < length b.rights → slice_index m.want r ≤ slice_index m.delivered r → cut_of m r ≡ None
  pub closing : (v : ℕ) → v < length b.reservoirs → slice_index m.closing v
      ≡ total_where (length b.rights) (λ r. is_zone_of b r v) (λ r. slice_index m.plan.take r)

-- each record follows those before it
pub record IsPartialHistory (b : Basin) (series : Series) (records : List MonthRecord) : Type 0 where
  pub within : length records ≤ b.months
  pub each : (i : ℕ) (m : MonthRecord) → slice_get records i ≡ Some m → Follows b series (take i records) m

pub record IsHistory (b : Basin) (series : Series) (records : List MonthRecord) : Type 0 where
  pub partial : IsPartialHistory b series records
  pub whole : length records ≡ b.months

-- the set of each short right is its reach, and no other right has a set
pub record HasReaches (b : Basin) (m : MonthRecord) : Type 0 where
  pub short : (r : ℕ) → r < length b.rights → IsShort m r →
      (cut : List Bool) × (cut_of m r ≡ Some cut) × IsReach b m.month m.supply m.delivered r cut
  pub met : (r : ℕ) → r < length b.rights → slice_index m.want r ≤ slice_index m.delivered r → cut_of m r ≡ None

-- each record of a list has the reaches of its month
abbrev pub HaveReaches : Basin → List MonthRecord → Type 0
HaveReaches b records = (i : ℕ) (m : MonthRecord) → slice_get records i ≡ Some m → HasReaches b m

-- whether a right answers to another that calls: the caller is short and senior, and its set holds the right's node
unfoldable pub calls : Basin → MonthRecord → ℕ → ℕ → Bool
calls b m right caller =
    nat_lt (slice_index m.delivered caller) (slice_index m.want caller) && is_senior b caller right
    && nat_lt 0 (slice_index m.want right) && option_map_or (λ cut. takes_within b cut right) (cut_of m caller) false

-- the most senior right that calls, or none
pub record IsCallingRight (b : Basin) (m : MonthRecord) (right : ℕ) (answer : Option ℕ) : Type 0 where
  pub calling : IfSome answer (λ caller. (caller < length b.rights) × IsTrue (calls b m right caller))
  pub first : IfSome answer (λ caller. (other : ℕ) → other < length b.rights → IsTrue (calls b m right other) →
      IsTrue (is_senior b other caller) → ⊥)
  pub none : IfNone answer ((other : ℕ) → other < length b.rights → IsTrue (calls b m right other) → ⊥)

-- the most senior right that calls, or none
unfoldable pub calling_right : Basin → MonthRecord → ℕ → Option ℕ
calling_right b m right = find (λ caller. calls b m right caller) (seniors_first b)
