-- The text of a list of months' records.
use Rattle.std.specs.Prelude.{ℕ, Bool, List, [], ◌∷◌, ◌++◌, map, slice_index, Option, Some, None, if◌then◌else◌}
use Rattle.std.specs.List.{flat_map}
use Rattle.water_model.specs.Entries.{in_order}
use Rattle.water_model.specs.History.{cut_of, calling_right}
use Rattle.water_model.specs.declared.types.Basin.{Basin}
use Rattle.water_model.specs.declared.types.MonthRecord.{MonthRecord}
use Rattle.water_model.specs.Indices.{members_from}
use Rattle.result_lines.specs.Quantities.{space_of, amounts_of, has_line}
use Rattle.result_lines.specs.Spelling.{whole_line}
use Rattle.result_lines.specs.declared.item.Item.{Item}
use Rattle.result_lines.specs.declared.item.Section.{Section}
use Rattle.result_lines.specs.declared.item.TheConstants.{SECTIONS}
use Rattle.water_model.specs.declared.space.Space.{Space}
use Rattle.result_lines.specs.declared.item.Item.TheVariants as line
use Rattle.result_lines.specs.declared.item.Section.TheVariants as section
use Rattle.water_model.specs.declared.space.Space.TheVariants as space

-- the lines of a right's set, if it has one
abbrev pub call_items : ℕ → Option (List Bool) → List Item
call_items right None = []
call_items right (Some set) = line.Call right ∷ map (λ n. line.Member n) (members_from 0 set)

-- the line of a right's caller, if it has one
abbrev pub called_items : ℕ → Option ℕ → List Item
called_items right None = []
called_items right (Some caller) = line.Called right caller ∷ []

-- the entries that a section goes over
abbrev pub section_space : Section → Space
section_space (section.Amounts q) = space_of q
section_space section.Deliveries = space.Rights
section_space section.Calls = space.Rights
section_space section.Called = space.Rights

-- the lines of an entry in a section. The callers are those of the record, or any others
abbrev pub lines_at : Section → Basin → MonthRecord → (ℕ → Option ℕ) → ℕ → List Item
lines_at (section.Amounts q) b m caller_of entry =
    if has_line b q entry then line.Amount q entry (slice_index (amounts_of q m) entry) ∷ [] else []
lines_at section.Deliveries b m caller_of r = line.Deliver r (slice_index m.delivered r) (slice_index m.want r) ∷ []
lines_at section.Calls b m caller_of r = call_items r (cut_of m r)
lines_at section.Called b m caller_of r = called_items r (caller_of r)

-- the lines of a section, entry by entry
abbrev pub lines_in : Section → Basin → MonthRecord → (ℕ → Option ℕ) → List Item
lines_in s b m caller_of = flat_map (lines_at s b m caller_of) (in_order (section_space s) b)

-- the lines of a month: its first, section by section, and its last
unfoldable pub month_lines : Basin → MonthRecord → (ℕ → Option ℕ) → List Item
month_lines b m caller_of =
    line.Month m.month ∷ (flat_map (λ s. lines_in s b m caller_of) SECTIONS ++ line.End ∷ [])

abbrev pub items_of_month : Basin → MonthRecord → List Item
items_of_month b m = month_lines b m (calling_right b m)

abbrev pub items_of_head : Basin → List Item
items_of_head b = line.Title ∷ line.Run b.first b.months ∷ []

abbrev pub items_of_tail : Basin → List Item
items_of_tail b = line.Done b.months ∷ []

abbrev pub items_of : Basin → List MonthRecord → List Item
items_of b records = items_of_head b ++ (flat_map (items_of_month b) records ++ items_of_tail b)

-- the text: its lines, each with its line feed
abbrev pub text : Basin → List MonthRecord → List (List ℕ)
text b records = map (whole_line b) (items_of b records)

-- all bytes of the text
abbrev pub text_bytes : Basin → List MonthRecord → List ℕ
text_bytes b records = flat_map (whole_line b) (items_of b records)
