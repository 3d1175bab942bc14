-- The whole list: what was found in each month of a run.
use Rattle.std.specs.Prelude.{◌≡◌, ℕ, List, ◌++◌, map, slice_get, Some}
use Rattle.std.specs.List.{flat_map}
use Rattle.water_model.specs.declared.types.Basin.{Basin}
use Rattle.water_model.specs.declared.types.MonthRecord.{MonthRecord}
use Rattle.call_list.specs.Found.{Found, IsFoundIn}
use Rattle.call_list.specs.Lists.{head_bytes, month_bytes, tail_bytes}

-- a month of a run with what was found in it
pub record MonthFound : Type 0 where
  pub month : MonthRecord
  pub found : Found

abbrev pub records_of : List MonthFound → List MonthRecord
records_of months = map (λ e. e.month) months

-- in each month exactly what one more unit would do is found
pub record AreFoundIn (b : Basin) (months : List MonthFound) : Type 0 where
  pub each : (i : ℕ) (e : MonthFound) → slice_get months i ≡ Some e → IsFoundIn b e.month e.found

-- the first line and the lines of some months
abbrev pub begun_bytes : Basin → List MonthFound → List ℕ
begun_bytes b months = head_bytes b ++ flat_map (λ e. month_bytes b e.month e.found) months

-- the list of all months
abbrev pub list_bytes : Basin → List MonthFound → List ℕ
list_bytes b months = begun_bytes b months ++ tail_bytes b
