-- Where a reader stands among the lines that are due.
use Rattle.std.specs.Prelude.{◌≡◌, ℕ, ◌+◌, ◌-◌, ◌<◌, ◌≤◌, true, List, [], ◌∷◌, ◌++◌, map, length, drop, Option, Some}
use Rattle.std.specs.Prelude.{None, IsSome, IfSome}
use Rattle.water_model.specs.Indices.{numbers_from}
use Rattle.result_lines.specs.declared.item.Item.{Item}
use Rattle.water_model.specs.declared.types.Basin.{Basin}
use Rattle.result_reader.specs.Due.{Due, opened, take_line, step, is_call}
use Rattle.result_reader.specs.Form.{due_from}
use Rattle.result_reader.specs.declared.position.DueSearch.{DueSearch}
use Rattle.result_reader.specs.declared.position.DueSearch.TheVariants as found
use Rattle.result_reader.specs.declared.position.Position.{Position}
use Rattle.result_reader.specs.declared.position.Position.TheVariants as position
use Rattle.result_reader.specs.declared.progress.Progress.{Progress}
use Rattle.result_reader.specs.declared.shape.Shape.{Shape}
use Rattle.result_reader.specs.declared.shape.Shape.TheVariants as shape

-- what a search over the lines of a month from an index on says of all that is due
abbrev pub IsDueSearch : Basin → List Shape → ℕ → Item → DueSearch → Type 0
IsDueSearch b dues from item (found.At at) =
    (at < length dues) ×
    ((others : List Shape) →
    take_line b (drop from dues ++ others) item ≡ Some (opened b item ++ (drop (at + 1) dues ++ others)))
IsDueSearch b dues from item found.Blocked = (others : List Shape) → take_line b (drop from dues ++ others) item ≡ None
IsDueSearch b dues from item found.Passed = (others : List Shape) →
    take_line b (drop from dues ++ others) item ≡ take_line b others item

-- what is due after this many months
abbrev pub months_due : Basin → ℕ → List Shape
months_due b begun = due_from b begun (b.months - begun)

-- what is due at a position
abbrev pub due_at : Basin → List Shape → Position → List Shape
due_at b dues position.Title = shape.Title ∷ shape.Run ∷ months_due b 0
due_at b dues position.Run = shape.Run ∷ months_due b 0
due_at b dues (position.Month begun at) = drop at dues ++ months_due b begun
due_at b dues position.After = []

-- the position is one among the run's months and a month's lines
abbrev pub IsPositionOf : Basin → List Shape → Position → Type 0
IsPositionOf b dues position.Title = Unit {0}
IsPositionOf b dues position.Run = Unit {0}
IsPositionOf b dues (position.Month begun at) = (begun ≤ b.months) × (at ≤ length dues)
IsPositionOf b dues position.After = Unit {0}

-- the position after a line, or none where the line may not come
abbrev pub IsNextPosition : Basin → List Shape → List Shape → Item → Option Position → Type 0
IsNextPosition b dues due item None = take_line b due item ≡ None
IsNextPosition b dues due item (Some next) =
    (take_line b due item ≡ Some (opened b item ++ due_at b dues next)) × IsPositionOf b dues next

-- the `in` lines that may come, from a node on
abbrev pub members_due : Basin → Option ℕ → List Shape
members_due b None = []
members_due b (Some next) = map (λ n. shape.Member n) (numbers_from next (length b.nodes - next))

-- what is due for a progress
abbrev pub dues_of : Basin → List Shape → Progress → List Shape
dues_of b dues p = members_due b p.next_member ++ due_at b dues p.position

abbrev pub due_of : Basin → List Shape → Progress → Due
due_of b dues p = record { must = p.must; dues = dues_of b dues p }

pub record IsProgress (b : Basin) (dues : List Shape) (p : Progress) : Type 0 where
  pub position : IsPositionOf b dues p.position
  pub member : IfSome p.next_member (λ next. next ≤ length b.nodes)
  pub must : p.must ≡ true → IsSome p.next_member

-- the progress after a line, or none where the line may not come
abbrev pub IsNextProgress : Basin → List Shape → Progress → Item → Option Progress → Type 0
IsNextProgress b dues p item None = step b p.must (dues_of b dues p) item ≡ None
IsNextProgress b dues p item (Some next) =
    (step b p.must (dues_of b dues p) item ≡ Some (dues_of b dues next)) × (next.must ≡ is_call item) ×
    IsProgress b dues next
