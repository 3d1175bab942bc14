-- How a line is spelled.
use Rattle.std.specs.Prelude.{ℕ, List, [], ◌∷◌, ◌++◌, codes}
use Rattle.std.specs.Fmt.{decimal}
use Rattle.std.specs.List.{join_with_byte}
use Rattle.water_text.specs.Months.{month_digits}
use Rattle.water_model.specs.Basin.{node_name, right_name}
use Rattle.water_model.specs.Entries.{name_in}
use Rattle.result_lines.specs.Quantities.{space_of, amount_word}
use Rattle.water_model.specs.declared.types.Basin.{Basin}
use Rattle.result_lines.specs.declared.item.Item.{Item}
use Rattle.result_lines.specs.declared.item.Item.TheVariants as line

-- a line's word and its fields
unfoldable pub fields_of : Basin → Item → List (List ℕ)
fields_of b line.Title = codes "river-result" ∷ codes "1" ∷ []
fields_of b (line.Run first months) = codes "run" ∷ month_digits first ∷ decimal months ∷ []
fields_of b (line.Month month) = codes "month" ∷ month_digits month ∷ []
fields_of b (line.Amount q entry amount) = amount_word q ∷ name_in (space_of q) b entry ∷ decimal amount ∷ []
fields_of b (line.Deliver right amount want) = codes "deliver" ∷ right_name b right ∷ decimal amount ∷ decimal want ∷ []
fields_of b (line.Call right) = codes "call" ∷ right_name b right ∷ []
fields_of b (line.Member node) = codes "in" ∷ node_name b node ∷ []
fields_of b (line.Called right by') = codes "called" ∷ right_name b right ∷ right_name b by' ∷ []
fields_of b line.End = codes "end" ∷ []
fields_of b (line.Done months) = codes "done" ∷ decimal months ∷ []

-- the bytes of a line without its line feed: its fields with single spaces between them
unfoldable pub line_of : Basin → Item → List ℕ
line_of b item = join_with_byte 32 (fields_of b item)

-- the bytes of a line with its line feed
abbrev pub whole_line : Basin → Item → List ℕ
whole_line b item = line_of b item ++ 10 ∷ []
