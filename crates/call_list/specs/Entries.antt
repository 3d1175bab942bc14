-- The lines of a list of calls, and of what would help a right, and how they are spelled.
use Rattle.std.specs.Prelude.{ℕ, ◌<◌, List, [], ◌∷◌, ◌++◌, codes, length}
use Rattle.std.specs.Fmt.{decimal}
use Rattle.std.specs.List.{join_with_byte}
use Rattle.water_text.specs.Months.{IsMonth, month_digits}
use Rattle.water_model.specs.Basin.{link_name, node_name, right_name}
use Rattle.water_model.specs.declared.types.Basin.{Basin}
use Rattle.call_list.specs.declared.entry.Entry.{Entry}
use Rattle.call_list.specs.declared.entry.Entry.TheVariants as line

-- the line names entries of the basin and a month of the calendar
abbrev pub IsOfBasin : Basin → Entry → Type 0
IsOfBasin b (line.Calls first months) = IsMonth first
IsOfBasin b (line.Month month) = IsMonth month
IsOfBasin b (line.Short right amount want) = right < length b.rights
IsOfBasin b (line.Next node right) = (node < length b.nodes) × (right < length b.rights)
IsOfBasin b (line.Link link right) = (link < length b.links) × (right < length b.rights)
IsOfBasin b (line.Curtailed right caller) = (right < length b.rights) × (caller < length b.rights)
IsOfBasin b line.End = Unit {0}
IsOfBasin b (line.Done months) = Unit {0}
IsOfBasin b (line.Where month right amount want) = IsMonth month × (right < length b.rights)
IsOfBasin b (line.At node) = node < length b.nodes
IsOfBasin b (line.Carry link) = link < length b.links

-- a line's word and its fields
unfoldable pub fields_of : Basin → Entry → List (List ℕ)
fields_of b (line.Calls first months) = codes "calls" ∷ month_digits first ∷ decimal months ∷ []
fields_of b (line.Month month) = codes "month" ∷ month_digits month ∷ []
fields_of b (line.Short right amount want) = codes "short" ∷ right_name b right ∷ decimal amount ∷ decimal want ∷ []
fields_of b (line.Next node right) = codes "next" ∷ node_name b node ∷ right_name b right ∷ []
fields_of b (line.Link link right) = codes "link" ∷ link_name b link ∷ right_name b right ∷ []
fields_of b (line.Curtailed right caller) = codes "curtailed" ∷ right_name b right ∷ right_name b caller ∷ []
fields_of b line.End = codes "end" ∷ []
fields_of b (line.Done months) = codes "done" ∷ decimal months ∷ []
fields_of b (line.Where month right amount want) =
    codes "where" ∷ month_digits month ∷ right_name b right ∷ decimal amount ∷ decimal want ∷ []
fields_of b (line.At node) = codes "at" ∷ node_name b node ∷ []
fields_of b (line.Carry link) = codes "link" ∷ link_name b link ∷ []

-- the bytes of a line: its fields with single spaces between them, and a line feed
unfoldable pub whole_line : Basin → Entry → List ℕ
whole_line b entry = join_with_byte 32 (fields_of b entry) ++ 10 ∷ []
