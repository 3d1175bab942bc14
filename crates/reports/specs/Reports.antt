-- The texts of reports.
use Rattle.std.specs.Prelude.{ℕ, List, [], ◌∷◌, ◌++◌, length, codes, Option, Some, None}
use Rattle.std.specs.Fmt.{decimal}
use Rattle.std.specs.List.{flat_map, join_with_byte}
use Rattle.water_text.specs.Months.{month_digits}
use Rattle.water_text.specs.declared.month.Month.{Month}
use Rattle.water_model.specs.Basin.{right_name}
use Rattle.water_model.specs.Indices.{seniors_first}
use Rattle.water_model.specs.declared.types.Basin.{Basin}
use Rattle.water_model.specs.declared.types.Series.{Series}
use Rattle.water_model.specs.declared.types.MonthRecord.{MonthRecord}
use Rattle.reports.specs.Figures.{waters_of, short_months, wanted, delivered, worst_month, short_count, called_count}
use Rattle.reports.specs.Figures.{all_wanted, all_delivered}
use Rattle.reports.specs.declared.waters.Waters.{Waters}

-- a line: its fields with single spaces between them, and a line feed
unfoldable pub row : List (List ℕ) → List ℕ
row fields = join_with_byte 32 fields ++ 10 ∷ []

-- a month, or `-` for none
unfoldable pub month_or_dash : Option Month → List ℕ
month_or_dash None = codes "-"
month_or_dash (Some month) = month_digits month

-- right NAME SHORT WANTED DELIVERED WORST
abbrev pub right_row : Basin → List MonthRecord → ℕ → List ℕ
right_row b records right = row (
    codes "right" ∷ right_name b right ∷ decimal (short_months records right) ∷ decimal (wanted records right)
    ∷ decimal (delivered records right) ∷ month_or_dash (worst_month records right) ∷ [])

-- balance OPENING INFLOWS RETURNS CLOSING EVAPORATED DIVERTED OUT
abbrev pub balance_row : Waters → List ℕ
balance_row w = row (
    codes "balance" ∷ decimal w.opening ∷ decimal w.inflows ∷ decimal w.returns ∷ decimal w.closing ∷ decimal
    w.evaporated
    ∷ decimal w.diverted ∷ decimal w.out ∷ [])

abbrev pub done_row : Basin → List ℕ
done_row b = row (codes "done" ∷ decimal b.months ∷ [])

-- the report of a run: a row for each right, seniors first, and the balance
unfoldable pub report_text : Basin → Series → List MonthRecord → List ℕ
report_text b series records =
    row (codes "report" ∷ month_digits b.first ∷ decimal b.months ∷ [])
    ++ flat_map (right_row b records) (seniors_first b)
    ++ balance_row (waters_of b series records)
    ++ done_row b

-- the summary of a trial: what was made, sums over all rights and months, and the balance
unfoldable pub trial_text : ℕ → ℕ → Basin → Series → List MonthRecord → List ℕ
trial_text number size b series records =
    row (codes "trial" ∷ decimal number ∷ decimal size ∷ [])
    ++ row (codes "size" ∷ decimal (length b.nodes) ∷ decimal (length b.links) ∷ decimal (length b.rights) ∷ decimal
    b.months ∷ [])
    ++ row (codes "wanted" ∷ decimal (all_wanted b records) ∷ [])
    ++ row (codes "delivered" ∷ decimal (all_delivered b records) ∷ [])
    ++ row (codes "short" ∷ decimal (short_count b records) ∷ [])
    ++ row (codes "called" ∷ decimal (called_count b records) ∷ [])
    ++ balance_row (waters_of b series records)
    ++ done_row b
