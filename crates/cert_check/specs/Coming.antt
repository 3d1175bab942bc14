-- What is known of a line that may come after good ones.
use Rattle.std.specs.Prelude.{◌≡◌, ℕ, ◌^◌, ◌<◌, ◌≤◌, Bool, true, false, not, List, map, length, slice_index, None}
use Rattle.water_model.specs.History.{IsPartialHistory, opening_after, cut_of}
use Rattle.water_model.specs.Hydrology.{run_month, returned_at}
use Rattle.result_lines.specs.declared.item.Item.{Item}
use Rattle.result_lines.specs.declared.item.Item.TheVariants as line
use Rattle.water_model.specs.declared.types.Basin.{Basin}
use Rattle.water_model.specs.declared.types.Series.{Series}
use Rattle.water_model.specs.declared.types.MonthRecord.{MonthRecord}
use Rattle.result_reader.specs.ReadSoFar.{ReadSoFar}
use Rattle.cert_check.specs.Checking.{is_closing}
use Rattle.cert_check.specs.Keeping.{Keeps}
use Rattle.cert_check.specs.declared.state.CheckState.{CheckState}

-- whether a line stands within a month, after its `month` line
abbrev pub is_within : Item → Bool
is_within line.Title = false
is_within (line.Run first months) = false
is_within (line.Month month) = false
is_within (line.Done months) = false
is_within other = true

-- whether such a line stands before the `called` lines
abbrev pub is_before_called : Item → Bool
is_before_called (line.Amount q entry amount) = not (is_closing q)
is_before_called (line.Deliver r amount want) = true
is_before_called (line.Call r) = true
is_before_called (line.Member n) = true
is_before_called other = false

-- what was read of a month so far is within what the months before leave, and small
pub record IsBounded (b : Basin) (before : List MonthRecord) (now : MonthRecord) : Type 0 where
  pub opening : (v : ℕ) → slice_index now.opening v ≤ slice_index (opening_after b before) v
  pub evaporated : (v : ℕ) → slice_index now.evaporated v ≤ slice_index now.opening v
  pub returned : (n : ℕ) → slice_index now.returned n ≤ returned_at b (map (λ m. m.delivered) before) n (length before)
  pub flow : (e : ℕ) → slice_index now.plan.flow e ≤ 10 ^ 15
  pub take : (r : ℕ) → slice_index now.plan.take r ≤ 10 ^ 9
  pub delivered : (r : ℕ) → slice_index now.delivered r ≤ 10 ^ 9

-- a month of the run is under way
pub record IsWithinMonth (b : Basin) (series : Series) (t : ReadSoFar) : Type 0 where
  pub index : t.now.index ≡ length t.months
  pub in_run : t.now.index < b.months
  pub month : t.now.month ≡ run_month b t.now.index
  pub bounded : IsBounded b t.months t.now

-- what was read when a line may come
pub record MayCome (b : Basin) (series : Series) (t : ReadSoFar) (item : Item) : Type 0 where
  pub partial : IsPartialHistory b series t.months
  pub outer : is_within item ≡ false → t.calling ≡ None
  pub inner : is_within item ≡ true → IsWithinMonth b series t
  pub uncalled : is_before_called item ≡ true → t.called ≡ 0
  pub free : (r : ℕ) → item ≡ line.Call r → cut_of t.now r ≡ None

-- a check state keeps what some lines say, after which this one may come
pub record Awaits (b : Basin) (series : Series) (a : CheckState) (item : Item) : Type 0 where
  pub so_far : ReadSoFar
  pub keeps : Keeps b series a so_far
  pub comes : MayCome b series so_far item

-- a check state keeps what some lines say, within a month of the run
pub record HasMonth (b : Basin) (series : Series) (a : CheckState) : Type 0 where
  pub so_far : ReadSoFar
  pub keeps : Keeps b series a so_far
  pub partial : IsPartialHistory b series so_far.months
  pub under_way : IsWithinMonth b series so_far

-- a check state keeps what some lines say
pub record HasRead (b : Basin) (series : Series) (a : CheckState) : Type 0 where
  pub so_far : ReadSoFar
  pub keeps : Keeps b series a so_far
