-- What is due after some lines. The machine that a reader runs.
use Rattle.std.specs.Prelude.{Bool, true, false, ◌&&◌, not, List, [], ◌∷◌, ◌++◌, map, length, Option, Some, None}
use Rattle.std.specs.Prelude.{if◌then◌else◌}
use Rattle.std.specs.Option.{option_and_then}
use Rattle.water_model.specs.declared.types.Basin.{Basin}
use Rattle.water_model.specs.Indices.{numbers_from}
use Rattle.result_reader.specs.Form.{is_optional, fits, due}
use Rattle.result_lines.specs.declared.item.Item.{Item}
use Rattle.result_lines.specs.declared.item.Item.TheVariants as line
use Rattle.result_reader.specs.declared.shape.Shape.{Shape}
use Rattle.result_reader.specs.declared.shape.Shape.TheVariants as shape

abbrev pub is_call : Item → Bool
is_call (line.Call right) = true
is_call other = false

abbrev pub is_member : Item → Bool
is_member (line.Member node) = true
is_member other = false

abbrev pub is_member_shape : Shape → Bool
is_member_shape (shape.Member node) = true
is_member_shape other = false

-- the lines that a line opens: after a `call`, an `in` line of each node
abbrev pub opened : Basin → Item → List Shape
opened b (line.Call right) = map (λ n. shape.Member n) (numbers_from 0 (length b.nodes))
opened b other = []

-- what is due after a line, if it may come
abbrev pub take_line : Basin → List Shape → Item → Option (List Shape)
take_line b [] item = None
take_line b (d ∷ ds) item =
    if fits b d item then Some (opened b item ++ ds) else (if is_optional d then take_line b ds item else None)

-- after a `call` an `in` line must come
abbrev pub step : Basin → Bool → List Shape → Item → Option (List Shape)
step b must ds item = if must && not (is_member item) then None else take_line b ds item

-- the lines that are due, and whether an `in` line must come first
pub record Due : Type 0 where
  pub must : Bool
  pub dues : List Shape

-- what is due at first
abbrev pub all_due : Basin → Due
all_due b = record { must = false; dues = due b }

-- what is due after some lines, if they may come
abbrev pub due_after : Basin → Due → List Item → Option Due
due_after b s [] = Some s
due_after b s (item ∷ items) =
    option_and_then (λ dues. due_after b (record { must = is_call item; dues = dues }) items)
    (step b s.must s.dues item)
