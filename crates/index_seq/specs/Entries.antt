-- The lines of an ensemble, and how they are spelled.
use Rattle.std.specs.Prelude.{ℕ, ◌<◌, List, [], ◌∷◌, ◌++◌, codes, length}
use Rattle.std.specs.Fmt.{decimal}
use Rattle.std.specs.List.{join_with_byte}
use Rattle.water_text.specs.Months.{IsMonth, month_digits}
use Rattle.water_model.specs.Basin.{right_name}
use Rattle.water_model.specs.declared.types.Basin.{Basin}
use Rattle.index_seq.specs.declared.entry.EnsembleLine.{EnsembleLine}
use Rattle.index_seq.specs.declared.entry.EnsembleLine.TheVariants as line

-- the line names a right of the basin and a month of the calendar
abbrev pub IsOfBasin : Basin → EnsembleLine → Type 0
IsOfBasin b (line.Ensemble first traces) = IsMonth first
IsOfBasin b (line.Right right) = right < length b.rights
IsOfBasin b (line.Yearly amount count) = Unit {0}
IsOfBasin b (line.Done traces) = Unit {0}

-- a line's word and its fields
unfoldable pub fields_of : Basin → EnsembleLine → List (List ℕ)
fields_of b (line.Ensemble first traces) = codes "ensemble" ∷ month_digits first ∷ decimal traces ∷ []
fields_of b (line.Right right) = codes "right" ∷ right_name b right ∷ []
fields_of b (line.Yearly amount count) = codes "yearly" ∷ decimal amount ∷ decimal count ∷ []
fields_of b (line.Done traces) = codes "done" ∷ decimal traces ∷ []

-- the bytes of a line: its fields with single spaces between them, and a line feed
unfoldable pub whole_line : Basin → EnsembleLine → List ℕ
whole_line b entry = join_with_byte 32 (fields_of b entry) ++ 10 ∷ []
