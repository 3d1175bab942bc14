-- The figures of a run.
use Rattle.std.specs.Prelude.{◌≡◌, ℕ, ◌+◌, ◌-◌, ◌&&◌, List, map, find, sum, sum_by, count_by, slice_index, Option}
use Rattle.std.specs.Prelude.{option_map, nat_lt, nat_le, is_some}
use Rattle.std.specs.List.{list_all}
use Rattle.water_text.specs.declared.month.Month.{Month}
use Rattle.duality.specs.Balance.{total_inflow, diverted}
use Rattle.water_model.specs.History.{opening_after, calling_right}
use Rattle.water_model.specs.Indices.{indices_of}
use Rattle.water_model.specs.declared.types.Basin.{Basin}
use Rattle.water_model.specs.declared.types.Series.{Series}
use Rattle.water_model.specs.declared.types.MonthRecord.{MonthRecord}
use Rattle.cut_cert.specs.Callers.{is_short}
use Rattle.reports.specs.declared.waters.Waters.{Waters}

-- what a right lacks in a month
abbrev pub shortage : MonthRecord → ℕ → ℕ
shortage m right = slice_index m.want right - slice_index m.delivered right

-- in how many months a right was short
abbrev pub short_months : List MonthRecord → ℕ → ℕ
short_months records right = count_by (λ m. is_short m right) records

-- what a right wanted and what it was delivered, over all months
abbrev pub wanted : List MonthRecord → ℕ → ℕ
wanted records right = sum_by (λ m. slice_index m.want right) records

abbrev pub delivered : List MonthRecord → ℕ → ℕ
delivered records right = sum_by (λ m. slice_index m.delivered right) records

-- the first month of greatest shortage, or none where the right was never short
abbrev pub worst_month : List MonthRecord → ℕ → Option Month
worst_month records right =
    option_map (λ m. m.month)
    (find (λ m. nat_lt 0 (shortage m right) && list_all (λ k. nat_le (shortage k right) (shortage m right)) records)
    records)

-- the water of a run
unfoldable pub waters_of : Basin → Series → List MonthRecord → Waters
waters_of b series records = record {
  opening = sum (map (λ v. v.opening) b.reservoirs);
  inflows = sum_by (λ m. total_inflow b series m.index) records;
  returns = sum_by (λ m. sum m.returned) records;
  closing = sum (opening_after b records);
  evaporated = sum_by (λ m. sum m.evaporated) records;
  diverted = sum_by (λ m. diverted b m) records;
  out = sum_by (λ m. sum m.plan.out) records;
}

-- what came in is what went out
abbrev pub AreBalanced : Waters → Type 0
AreBalanced w = w.opening + w.inflows + w.returns ≡ w.closing + w.evaporated + w.diverted + w.out

-- counts of right-months, in which a month counts once for each right: in which a right was short, and in which it had
-- a calling right
abbrev pub short_count : Basin → List MonthRecord → ℕ
short_count b records = sum_by (λ right. short_months records right) (indices_of b.rights)

abbrev pub called_in : Basin → MonthRecord → ℕ
called_in b m = count_by (λ right. is_some (calling_right b m right)) (indices_of b.rights)

abbrev pub called_count : Basin → List MonthRecord → ℕ
called_count b records = sum_by (λ m. called_in b m) records

-- what all rights wanted and what they were delivered
abbrev pub all_wanted : Basin → List MonthRecord → ℕ
all_wanted b records = sum_by (λ right. wanted records right) (indices_of b.rights)

abbrev pub all_delivered : Basin → List MonthRecord → ℕ
all_delivered b records = sum_by (λ right. delivered records right) (indices_of b.rights)
