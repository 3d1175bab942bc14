-- What a check state keeps of what lines say.
use Rattle.std.specs.Prelude.{◌≡◌, ℕ, ◌<◌, ◌≤◌, Bool, true, false, ◌&&◌, List, map, length, take, slice_index}
use Rattle.std.specs.Prelude.{slice_set, Option, Some, IsSome, is_none}
use Rattle.std.specs.List.{list_any, flat_map}
use Rattle.finite_sums.specs.Sums.{total_where}
use Rattle.water_model.specs.CutSets.{CutSets, set_of}
use Rattle.water_model.specs.History.{cut_of, opening_after, is_zone_of, calling_right}
use Rattle.water_model.specs.Indices.{seniors_first}
use Rattle.result_lines.specs.declared.quantity.Quantity.{Quantity}
use Rattle.result_lines.specs.declared.quantity.Quantity.TheVariants as quantity
use Rattle.water_model.specs.declared.types.Basin.{Basin}
use Rattle.water_model.specs.declared.types.Series.{Series}
use Rattle.water_model.specs.declared.types.MonthRecord.{MonthRecord}
use Rattle.cut_cert.specs.Callers.{AreCallers, is_short}
use Rattle.lag_returns.specs.Lags as lag
use Rattle.lag_returns.specs.Lags.{InTransit, HasReturned}
use Rattle.month_terms.specs.Terms.{HasUsed}
use Rattle.result_reader.specs.ReadSoFar.{ReadSoFar, with_supply}
use Rattle.cert_check.specs.Checking.{caller_due}
use Rattle.cert_check.specs.Shows.{IsRecordOf}
use Rattle.cert_check.specs.declared.state.CheckState.{CheckState}

-- the record where this amount leaves the basin at a node
abbrev pub with_outflow : MonthRecord → ℕ → ℕ → MonthRecord
with_outflow m n amount = record m { plan = record m.plan { out = slice_set m.plan.out n amount } }

-- whether the supply is made of a quantity
abbrev pub is_supplied : Quantity → Bool
is_supplied quantity.Opening = true
is_supplied quantity.Evaporated = true
is_supplied quantity.Returned = true
is_supplied other = false

-- whether a right is short and has no set
abbrev pub lacks_call : MonthRecord → ℕ → Bool
lacks_call m r = is_short m r && is_none (cut_of m r)

-- those of some rights that answer to a caller, each with its caller
abbrev pub callers_of : Basin → MonthRecord → List ℕ → List (ℕ × ℕ)
callers_of b m rights = flat_map (λ r. caller_due r (calling_right b m r)) rights

-- The parts of what a check state keeps. A part names only the fields that it depends on, and is the same where they
-- are.

-- what the months that ended leave to the next one: their number, what is on its way back, what the reservoirs open
-- with, what comes back to the nodes, and what the rights used
pub record AreLeft (b : Basin) (months : List MonthRecord) (number : ℕ) (in_transit : List InTransit)
    (openings returns volumes : List ℕ) : Type 0 where
  pub done : number ≡ length months
  pub lags : lag.LagsStandFor in_transit b.returns (map (λ m. m.delivered) months)
  pub opens : openings ≡ opening_after b months
  pub sized : length openings ≡ length b.reservoirs
  pub comes : HasReturned b (map (λ m. m.delivered) months) returns
  pub used : HasUsed b (map (λ m. m.delivered) months) volumes

-- the right whose nodes come is the one that was read, and it has a set
pub record IsCalling (b : Basin) (cuts : CutSets) (right due : Option ℕ) : Type 0 where
  pub so_far : right ≡ due
  pub held : (r : ℕ) → right ≡ Some r → (r < length b.rights) × IsSome (set_of cuts r)

-- this many rights, the most senior ones, are met or have their `call`
pub record AreSettled (b : Basin) (m : MonthRecord) (count : ℕ) : Type 0 where
  pub within : count ≤ length b.rights
  pub each : list_any (lacks_call m) (take count (seniors_first b)) ≡ false

-- this many rights, the most senior ones, answer to the callers of this many `called` lines, and to no other
pub record AreAnswered (b : Basin) (m : MonthRecord) (count lines : ℕ) : Type 0 where
  pub within : count ≤ length b.rights
  pub called : lines ≡ length (callers_of b m (take count (seniors_first b)))

-- there is room for a sum for each reservoir, and for two sums for each node
pub record HasRoom (b : Basin) (zones inflows outflows : List ℕ) : Type 0 where
  pub closes : length zones ≡ length b.reservoirs
  pub into : length inflows ≡ length b.nodes
  pub out_of : length outflows ≡ length b.nodes

-- the check state keeps what was read, and what follows from it
pub record Keeps (b : Basin) (series : Series) (a : CheckState) (t : ReadSoFar) : Type 0 where
  pub left : AreLeft b t.months a.done a.lags a.opens a.comes a.used
  pub month : IsRecordOf b a.month t.now
  pub calling : IsCalling b a.month.cuts a.calling t.calling
  pub supply : a.has_supply ≡ true → a.month.supply ≡ (with_supply b series t.now).supply
  pub closes : a.has_closes ≡ true → (v : ℕ) → v < length b.reservoirs → slice_index a.closes v
      ≡ total_where (length b.rights) (λ r. is_zone_of b r v) (λ r. slice_index t.now.plan.take r)
  pub callers : a.has_callers ≡ true → AreCallers b a.month a.callers
  pub passed : AreSettled b t.now a.passed
  pub answered : AreAnswered b t.now a.answered t.called
  pub room : HasRoom b a.closes a.into a.out_of
