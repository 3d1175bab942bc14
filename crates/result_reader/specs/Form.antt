-- The form of a result text: which lists of lines fill the lines that are due.
use Rattle.std.specs.Prelude.{◌≡◌, ℕ, Bool, true, false, ◌&&◌, List, [], ◌∷◌, ◌++◌, map, length, is_some, IsTrue, ◌⊎◌}
use Rattle.std.specs.Prelude.{if◌then◌else◌}
use Rattle.std.specs.List.{flat_map, list_any}
use Rattle.std.specs.Str.{bytes_eq}
use Rattle.water_model.specs.Basin.{is_senior, taking_node}
use Rattle.water_model.specs.Entries.{in_order}
use Rattle.water_model.specs.Hydrology.{run_month}
use Rattle.water_model.specs.Indices.{numbers_from, members_from}
use Rattle.result_lines.specs.Quantities.{has_line}
use Rattle.result_lines.specs.Text.{section_space}
use Rattle.result_lines.specs.declared.item.Item.{Item}
use Rattle.result_lines.specs.declared.item.Item.TheVariants as line
use Rattle.result_lines.specs.declared.item.Section.{Section}
use Rattle.result_lines.specs.declared.item.Section.TheVariants as section
use Rattle.result_lines.specs.declared.item.TheConstants.{SECTIONS}
use Rattle.result_lines.specs.declared.quantity.Quantity.{Quantity}
use Rattle.result_lines.specs.declared.quantity.Quantity.TheVariants as quantity
use Rattle.water_model.specs.declared.types.Basin.{Basin}
use Rattle.result_reader.specs.declared.shape.Shape.{Shape}
use Rattle.result_reader.specs.declared.shape.Shape.TheVariants as shape

-- what is fixed of a line: its word, with its month, its number of months or its first name
abbrev pub shape_of : Item → Shape
shape_of line.Title = shape.Title
shape_of (line.Run first months) = shape.Run
shape_of (line.Month month) = shape.Month month
shape_of (line.Amount q entry amount) = shape.Amount q entry
shape_of (line.Deliver right amount want) = shape.Deliver right
shape_of (line.Call right) = shape.Call right
shape_of (line.Member node) = shape.Member node
shape_of (line.Called right by') = shape.Called right
shape_of line.End = shape.End
shape_of (line.Done months) = shape.Done months

-- a number for each quantity
abbrev pub number_of : Quantity → ℕ
number_of quantity.Opening = 0
number_of quantity.Evaporated = 1
number_of quantity.Returned = 2
number_of quantity.Used = 3
number_of quantity.Flow = 4
number_of quantity.Outflow = 5
number_of quantity.Closing = 6

-- a number for each word, and the month, the number or the name
abbrev pub key_of : Shape → List ℕ
key_of shape.Title = 0 ∷ []
key_of shape.Run = 1 ∷ []
key_of (shape.Month month) = 2 ∷ month.year ∷ month.month ∷ []
key_of (shape.Amount q entry) = 3 ∷ number_of q ∷ entry ∷ []
key_of (shape.Deliver right) = 4 ∷ right ∷ []
key_of (shape.Call right) = 5 ∷ right ∷ []
key_of (shape.Member node) = 6 ∷ node ∷ []
key_of (shape.Called right) = 7 ∷ right ∷ []
key_of shape.End = 8 ∷ []
key_of (shape.Done months) = 9 ∷ months ∷ []

unfoldable pub is_same_shape : Shape → Shape → Bool
is_same_shape a b = bytes_eq (key_of a) (key_of b)

-- a line may be left out if it is a `call`, a `called`, or after a `call` an `in` line
abbrev pub is_optional : Shape → Bool
is_optional (shape.Call right) = true
is_optional (shape.Member node) = true
is_optional (shape.Called right) = true
is_optional other = false

-- a caller is senior to the right that it is named for
abbrev pub is_allowed : Basin → Item → Bool
is_allowed b (line.Called right by') = is_senior b by' right
is_allowed b other = true

-- whether a line is the one that is due
unfoldable pub fits : Basin → Shape → Item → Bool
fits b due item = is_same_shape due (shape_of item) && is_allowed b item

-- a `call` is followed by the nodes of some set that has a node, in order
abbrev pub IsFollowedBy : Basin → Item → List Item → Type 0
IsFollowedBy b (line.Call right) members =
    (set : List Bool) × (length set ≡ length b.nodes) × IsTrue (list_any (λ in_set. in_set) set)
    × (members ≡ map (λ n. line.Member n) (members_from 0 set))
IsFollowedBy b other members = members ≡ []

-- The lines fill the lines that are due: each of these in order, or else it may be left out.
abbrev pub Fills : Basin → List Shape → List Item → Type 0
Fills b [] items = items ≡ []
Fills b (due ∷ dues) items =
    (IsTrue (is_optional due) × Fills b dues items)
    ⊎ ((item : Item) × (members others : List Item) × IsTrue (fits b due item) × IsFollowedBy b item members
    × (items ≡ item ∷ (members ++ others)) × Fills b dues others)

-- the line that is due for an entry of a section, if one is: a `called` line for the rights that take water
abbrev pub shapes_at : Section → Basin → ℕ → List Shape
shapes_at (section.Amounts q) b entry = if has_line b q entry then shape.Amount q entry ∷ [] else []
shapes_at section.Deliveries b r = shape.Deliver r ∷ []
shapes_at section.Calls b r = shape.Call r ∷ []
shapes_at section.Called b r = if is_some (taking_node b r) then shape.Called r ∷ [] else []

-- the lines that are due of a section, entry by entry
abbrev pub shapes_in : Section → Basin → List Shape
shapes_in s b = flat_map (shapes_at s b) (in_order (section_space s) b)

-- the lines that are due in each month, after its `month` line
unfoldable pub due_in_month : Basin → List Shape
due_in_month b = flat_map (λ s. shapes_in s b) SECTIONS ++ shape.End ∷ []

-- the lines that are due for month i
abbrev pub due_for_month : Basin → ℕ → List Shape
due_for_month b i = shape.Month (run_month b i) ∷ due_in_month b

-- the lines that are due from month i on, for this many months
abbrev pub due_from : Basin → ℕ → ℕ → List Shape
due_from b i count = flat_map (due_for_month b) (numbers_from i count) ++ shape.Done b.months ∷ []

-- the lines that are due for a run
unfoldable pub due : Basin → List Shape
due b = shape.Title ∷ shape.Run ∷ due_from b 0 b.months

-- the lines are the prefix of a whole list of lines that has the form
pub record IsPrefix (b : Basin) (items : List Item) : Type 0 where
  pub rest : List Item
  pub whole : Fills b (due b) (items ++ rest)
