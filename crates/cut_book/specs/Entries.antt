-- The lines of an account book: what they add, and how they are spelled.
use Rattle.std.specs.Prelude.{ℕ, ◌-◌, ◌<◌, Bool, List, [], ◌∷◌, ◌++◌, codes, length, nat_lt, sum_by}
use Rattle.std.specs.Fmt.{decimal}
use Rattle.std.specs.List.{join_with_byte}
use Rattle.water_text.specs.Months.{IsMonth, month_digits}
use Rattle.water_model.specs.Basin.{node_name, link_name, right_name}
use Rattle.water_model.specs.declared.types.Basin.{Basin}
use Rattle.cut_book.specs.declared.entry.BookLine.{BookLine}
use Rattle.cut_book.specs.declared.entry.BookLine.TheVariants as line

-- what a line says comes in
abbrev pub brought : BookLine → ℕ
brought (line.Why month right amount want) = 0
brought (line.Supply node amount) = amount
brought (line.Enter link amount) = amount
brought (line.Keep link amount holder) = 0
brought (line.Take right amount) = 0
brought (line.Sum amount) = 0

-- and what it says is kept for seniors
abbrev pub kept : BookLine → ℕ
kept (line.Why month right amount want) = 0
kept (line.Supply node amount) = 0
kept (line.Enter link amount) = 0
kept (line.Keep link amount holder) = amount
kept (line.Take right amount) = amount
kept (line.Sum amount) = 0

-- the amount of a line
abbrev pub amount_of : BookLine → ℕ
amount_of (line.Why month right amount want) = amount
amount_of (line.Supply node amount) = amount
amount_of (line.Enter link amount) = amount
amount_of (line.Keep link amount holder) = amount
amount_of (line.Take right amount) = amount
amount_of (line.Sum amount) = amount

abbrev pub has_amount : BookLine → Bool
has_amount entry = nat_lt 0 (amount_of entry)

-- what comes in by some lines, less what they keep
abbrev pub balance_of : List BookLine → ℕ
balance_of entries = sum_by brought entries - sum_by kept entries

-- the line names entries of the basin and a month of the calendar
abbrev pub IsOfBasin : Basin → BookLine → Type 0
IsOfBasin b (line.Why month right amount want) = IsMonth month × (right < length b.rights)
IsOfBasin b (line.Supply node amount) = node < length b.nodes
IsOfBasin b (line.Enter link amount) = link < length b.links
IsOfBasin b (line.Keep link amount holder) = (link < length b.links) × (holder < length b.rights)
IsOfBasin b (line.Take right amount) = right < length b.rights
IsOfBasin b (line.Sum amount) = Unit {0}

-- a line's word and its fields
unfoldable pub fields_of : Basin → BookLine → List (List ℕ)
fields_of b (line.Why month right amount want) =
    codes "why" ∷ month_digits month ∷ right_name b right ∷ decimal amount ∷ decimal want ∷ []
fields_of b (line.Supply node amount) = codes "supply" ∷ node_name b node ∷ decimal amount ∷ []
fields_of b (line.Enter link amount) = codes "enter" ∷ link_name b link ∷ decimal amount ∷ []
fields_of b (line.Keep link amount holder) = codes "keep" ∷ link_name b link ∷ decimal amount ∷ right_name b holder ∷ []
fields_of b (line.Take right amount) = codes "take" ∷ right_name b right ∷ decimal amount ∷ []
fields_of b (line.Sum amount) = codes "sum" ∷ decimal amount ∷ []

-- the bytes of a line: its fields with single spaces between them, and a line feed
unfoldable pub whole_line : Basin → BookLine → List ℕ
whole_line b entry = join_with_byte 32 (fields_of b entry) ++ 10 ∷ []
