-- The quantities of a month's record.
use Rattle.std.proofs.Common.{arith, ◌≡◌, ℕ, ◌<◌, Bool, true, List, [], ◌∷◌, refl, ap, map, Option}
use Rattle.std.specs.Prelude.{filter, slice_index, if◌then◌else◌}
use Rattle.std.specs.List.{flat_map}
use Rattle.water_model.specs.Entries.{count_in, in_order}
use Rattle.result_lines.specs.Quantities.{space_of, amounts_of, with_amounts, has_line, entries_with_line}
use Rattle.result_lines.specs.Text.{lines_in}
use Rattle.result_lines.specs.declared.item.Item.TheVariants as line
use Rattle.result_lines.specs.declared.item.Section.TheVariants as section
use Rattle.result_lines.specs.declared.quantity.Quantity.{Quantity}
use Rattle.water_model.specs.declared.types.Basin.{Basin}
use Rattle.water_model.specs.declared.types.MonthRecord.{MonthRecord}
use Rattle.water_model.proofs.Order.{Has, filter-has, has-filter}
use Rattle.water_model.proofs.Entries.{in_order-below, in_order-has}

-- A list of a record is written and read.

pub amounts_with : (q : Quantity) (m : MonthRecord) (xs : List ℕ) → amounts_of q (with_amounts q m xs) ≡ xs
amounts_with q m xs = grind arith

pub with_own : (q : Quantity) (m : MonthRecord) → with_amounts q m (amounts_of q m) ≡ m
with_own q m = grind arith

pub with_twice : (q : Quantity) (m : MonthRecord) (xs ys : List ℕ) →
    with_amounts q (with_amounts q m xs) ys ≡ with_amounts q m ys
with_twice q m xs ys = grind arith

-- and leaves the sets
pub cuts_with : (q : Quantity) (m : MonthRecord) (xs : List ℕ) → (with_amounts q m xs).cuts ≡ m.cuts
cuts_with q m xs = grind arith

-- The entries with a line.

pub with_line-has : (b : Basin) (q : Quantity) (k : ℕ) → k < count_in (space_of q) b → has_line b q k ≡ true →
    Has (entries_with_line b q) k
with_line-has b q k l e =
    has-filter (λ entry. has_line b q entry) (in_order (space_of q) b) k (in_order-has (space_of q) b k l) e

pub has-with_line : (b : Basin) (q : Quantity) (k : ℕ) → Has (entries_with_line b q) k →
    (k < count_in (space_of q) b) × (has_line b q k ≡ true)
has-with_line b q k h =
    let f = filter-has (λ entry. has_line b q entry) (in_order (space_of q) b) k h in
    (in_order-below (space_of q) b k f.0, f.1)

-- one for each entry that passes a test
pub flat_map_if : {X Y : Type 0} (p : X → Bool) (f : X → Y) (xs : List X) →
    flat_map (λ x. if p x then f x ∷ [] else []) xs ≡ map f (filter p xs)
flat_map_if p f [] = refl
flat_map_if p f (x ∷ xs) = grind (arith, flat_map_if p f xs)

pub flat_map_one : {X Y : Type 0} (f : X → Y) (xs : List X) → flat_map (λ x. f x ∷ []) xs ≡ map f xs
flat_map_one f [] = refl
flat_map_one f (x ∷ xs) = ap (λ ys. f x ∷ ys) (flat_map_one f xs)

-- the lines of a quantity
pub amount_lines : (q : Quantity) (b : Basin) (m : MonthRecord) (caller_of : ℕ → Option ℕ) →
    lines_in (section.Amounts q) b m caller_of
    ≡ map (λ entry. line.Amount q entry (slice_index (amounts_of q m) entry)) (entries_with_line b q)
amount_lines q b m caller_of =
    flat_map_if (λ entry. has_line b q entry) (λ entry. line.Amount q entry (slice_index (amounts_of q m) entry))
    (in_order (space_of q) b)
