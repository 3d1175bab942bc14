-- The list of a month's calls, and the whole list.
use Rattle.std.specs.Prelude.{ℕ, List, [], ◌∷◌, ◌++◌, if◌then◌else◌, nat_lt, slice_index, slice_index_or}
use Rattle.std.specs.Prelude.{Option, Some, None}
use Rattle.std.specs.List.{flat_map}
use Rattle.water_model.specs.Entries.{in_order}
use Rattle.water_model.specs.declared.space.Space.{Space}
use Rattle.water_model.specs.declared.space.Space.TheVariants as space
use Rattle.water_model.specs.declared.types.Basin.{Basin}
use Rattle.water_model.specs.declared.types.MonthRecord.{MonthRecord}
use Rattle.call_list.specs.Entries.{whole_line}
use Rattle.call_list.specs.Found.{Found, curtailed_for}
use Rattle.call_list.specs.declared.entry.Entry.{Entry}
use Rattle.call_list.specs.declared.entry.Entry.TheVariants as line
use Rattle.call_list.specs.declared.part.Part.{Part}
use Rattle.call_list.specs.declared.part.Part.TheVariants as part

-- the space that a part goes over
abbrev pub space_of : Part → Space
space_of part.Shorts = space.Rights
space_of part.Nexts = space.Nodes
space_of part.Links = space.Links
space_of part.Curtailed = space.Rights

-- the line of an index with the right that it names, if there is one
abbrev pub line_with : (ℕ → ℕ → Entry) → ℕ → Option ℕ → List Entry
line_with make position None = []
line_with make position (Some right) = make position right ∷ []

-- the line of an index of a part, if it has one
abbrev pub lines_at : Part → Basin → MonthRecord → Found → ℕ → List Entry
lines_at part.Shorts b m found right =
    if nat_lt (slice_index m.delivered right) (slice_index m.want right)
    then line.Short right (slice_index m.delivered right) (slice_index m.want right) ∷ [] else []
lines_at part.Nexts b m found node = line_with line.Next node (slice_index_or found.next node None)
lines_at part.Links b m found link = line_with line.Link link (slice_index_or found.helped link None)
lines_at part.Curtailed b m found right = line_with line.Curtailed right (curtailed_for b m found.next right)

abbrev pub lines_in : Part → Basin → MonthRecord → Found → List Entry
lines_in of_part b m found = flat_map (lines_at of_part b m found) (in_order (space_of of_part) b)

-- a month: its parts between its first line and its end
abbrev pub month_lines : Basin → MonthRecord → Found → List Entry
month_lines b m found =
    line.Month m.month ∷ (flat_map (λ p. lines_in p b m found)
    (part.Shorts ∷ part.Nexts ∷ part.Links ∷ part.Curtailed ∷ []) ++ line.End ∷ [])

abbrev pub month_bytes : Basin → MonthRecord → Found → List ℕ
month_bytes b m found = flat_map (whole_line b) (month_lines b m found)

-- the first line and the last
abbrev pub head_bytes : Basin → List ℕ
head_bytes b = whole_line b (line.Calls b.first b.months)

abbrev pub tail_bytes : Basin → List ℕ
tail_bytes b = whole_line b (line.Done b.months)
