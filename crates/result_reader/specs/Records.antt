-- Records of months as a text gives them.
use Rattle.std.specs.Prelude.{◌≡◌, ℕ, ◌<◌, ◌≤◌, ◌^◌, Bool, List, length, slice_index, slice_get, take, All}
use Rattle.std.specs.Prelude.{Some, None, IsTrue}
use Rattle.std.specs.List.{list_any}
use Rattle.water_model.specs.History.{IsNextMonth, IsShort, cut_of}
use Rattle.result_lines.specs.Quantities.{amounts_of}
use Rattle.result_lines.specs.declared.quantity.Quantity.{Quantity}
use Rattle.water_model.specs.declared.types.Basin.{Basin}
use Rattle.water_model.specs.declared.types.Series.{Series}
use Rattle.water_model.specs.declared.types.MonthRecord.{MonthRecord}

-- each short right has a set with at least one node, and every other right has none
pub record HasSets (b : Basin) (m : MonthRecord) : Type 0 where
  pub short : (r : ℕ) → r < length b.rights → IsShort m r →
      (set : List Bool) × (cut_of m r ≡ Some set) × (length set ≡ length b.nodes) ×
      IsTrue (list_any (λ in_set. in_set) set)
  pub met : (r : ℕ) → r < length b.rights → slice_index m.want r ≤ slice_index m.delivered r → cut_of m r ≡ None

abbrev pub AreTextAmounts : List ℕ → Type 0
AreTextAmounts amounts = All (λ n. n ≤ 10 ^ 15) amounts

-- the amounts that lines give are at most 10^15
pub record HasTextAmounts (m : MonthRecord) : Type 0 where
  pub listed : (q : Quantity) → AreTextAmounts (amounts_of q m)
  pub delivered : AreTextAmounts m.delivered
  pub want : AreTextAmounts m.want

pub record IsTextMonth (b : Basin) (series : Series) (before : List MonthRecord) (m : MonthRecord) : Type 0 where
  pub month : IsNextMonth b series before m
  pub sets : HasSets b m
  pub amounts : HasTextAmounts m

-- records of the run's months, one after another
pub record AreTextMonths (b : Basin) (series : Series) (records : List MonthRecord) : Type 0 where
  pub within : length records ≤ b.months
  pub each : (i : ℕ) (m : MonthRecord) → slice_get records i ≡ Some m → IsTextMonth b series (take i records) m
