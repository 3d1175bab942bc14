-- Changes of a series, and how many months a script solves.
use Rattle.std.specs.Prelude.{ℕ, ◌+◌, ◌-◌, ◌*◌, ◌^◌, ◌<◌, ◌≤◌, min, List, [], ◌∷◌, length, slice_set}
use Rattle.water_model.specs.declared.types.Basin.{Basin}
use Rattle.water_model.specs.declared.types.Series.{Series}
use Rattle.edit_script.specs.declared.edit.Edit.{Edit}
use Rattle.edit_script.specs.declared.edit.Edit.TheVariants.{Inflow, Want, Show}

-- the series with one amount of a gauge changed, or one want of a right. Gauges and rights are given by their indices
-- in the series
abbrev pub with_inflow : Series → ℕ → ℕ → ℕ → Series
with_inflow series index gauge amount =
    record series { amount = slice_set series.amount (index * length series.gauged + gauge) amount }

abbrev pub with_want : Series → ℕ → ℕ → ℕ → Series
with_want series index place amount =
    record series { want = slice_set series.want (index * length series.wanted + place) amount }

-- the series after one line of a script
abbrev pub edited_by : Series → Edit → Series
edited_by series (Inflow index gauge amount) = with_inflow series index gauge amount
edited_by series (Want index place amount) = with_want series index place amount
edited_by series (Show index) = series

-- a line speaks of a month of the run and of an index in the series, and of an amount of at most 10^9
abbrev pub IsValidEdit : Basin → Series → Edit → Type 0
IsValidEdit b series (Inflow index gauge amount) = (index < b.months) × (gauge < length series.gauged) ×
    (amount ≤ 10 ^ 9)
IsValidEdit b series (Want index place amount) = (index < b.months) × (place < length series.wanted) × (amount ≤ 10 ^ 9)
IsValidEdit b series (Show index) = index < b.months

-- how many of the kept months stay kept: those before the month of a change
abbrev pub kept_by : ℕ → Edit → ℕ
kept_by kept (Inflow index gauge amount) = min kept index
kept_by kept (Want index place amount) = min kept index
kept_by kept (Show index) = kept

-- how many months a line solves where this many are kept: those up to the month that is shown
abbrev pub solved_by : ℕ → Edit → ℕ
solved_by kept (Inflow index gauge amount) = 0
solved_by kept (Want index place amount) = 0
solved_by kept (Show index) = index + 1 - kept

-- the cost of a script in months that are solved, where this many are kept at first
abbrev pub cost_from : ℕ → List Edit → ℕ
cost_from kept [] = 0
cost_from kept (e ∷ edits) = solved_by kept e + cost_from (kept_by kept e + solved_by kept e) edits

abbrev pub cost : List Edit → ℕ
cost edits = cost_from 0 edits
