-- Which lines are accepted.
use Rattle.std.proofs.Common.{arith, ◌≡◌, ℕ, refl, sym, ap, ◌∙◌, List, [], ◌∷◌, ◌++◌}
use Rattle.std.specs.Prelude.{Ok, Err}
use Rattle.water_model.specs.Valid.{IsValidBasin}
use Rattle.result_lines.specs.declared.item.Item.{Item}
use Rattle.water_model.specs.declared.types.Basin.{Basin}
use Rattle.result_reader.specs.Form.{IsPrefix}
use Rattle.result_reader.specs.Laws.{LineSaysItsItem, PrefixesAreDue, PrefixesAreAccepted, OthersAreOutOfPlace}
use Rattle.result_reader.specs.Reading.{item_of, read_line}
use Rattle.result_reader.specs.declared.bad_line.BadLine.TheVariants as bad
use Rattle.result_reader.proofs.Prefixes.{prefix_due, due_prefix}
use Rattle.result_reader.proofs.Sayings.{item_is_said}
use Rattle.result_reader.proofs.Spelled.{item-line}

pub line_says_its_item : LineSaysItsItem
line_says_its_item b bytes item valid = (
  λ h. (let s = item_is_said b bytes item h in (s.spelled, s.of_text)),
  λ h. ap (item_of b) h.0 ∙ item-line b valid item h.1,
)

pub prefixes_are_due : PrefixesAreDue
prefixes_are_due b items valid = (
  λ h. due_prefix b valid.bounded.some_node items h.0 h.1,
  λ f. prefix_due b items f,
)

-- an item that is said and may come is answered
pub may_come : (b : Basin) (before : List Item) (bytes : List ℕ) (item : Item) → item_of b bytes ≡ Ok item →
    IsPrefix b (before ++ item ∷ []) → read_line b before bytes ≡ Ok item
unfolding read_line
may_come b before bytes item said prefix =
    let t = prefix_due b (before ++ item ∷ []) prefix in
    rw (said, t.1) refl

-- what is answered is said, and may come
has_come : (b : Basin) → IsValidBasin b → (before : List Item) (bytes : List ℕ) (item : Item) →
    read_line b before bytes ≡ Ok item → (item_of b bytes ≡ Ok item) × IsPrefix b (before ++ item ∷ [])
unfolding read_line
has_come b valid before bytes item h = grind (arith, due_prefix)

pub prefixes_are_accepted : PrefixesAreAccepted
prefixes_are_accepted b before bytes item valid = (
  λ h. (let c = has_come b valid before bytes item h in let s = item_is_said b bytes item c.0 in
      (s.spelled, s.of_text, c.1)),
  λ h. may_come b before bytes item (ap (item_of b) h.0 ∙ item-line b valid item h.1) h.2,
)

-- what may not come is out of place
may_not_come : (b : Basin) → IsValidBasin b → (before : List Item) (bytes : List ℕ) (item : Item) →
    item_of b bytes ≡ Ok item → (IsPrefix b (before ++ item ∷ []) → ⊥) → read_line b before bytes ≡ Err bad.OutOfPlace
unfolding read_line
may_not_come b valid before bytes item said never = grind (arith, due_prefix)

pub others_are_out_of_place : OthersAreOutOfPlace
others_are_out_of_place b before bytes item valid said = (
  λ h prefix. (let never : Err bad.OutOfPlace ≡ Ok item = sym h ∙ may_come b before bytes item said prefix in cc),
  λ never. may_not_come b valid before bytes item said never,
)
