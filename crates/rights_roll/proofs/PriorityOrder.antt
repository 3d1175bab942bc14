-- The order of priorities.
use Rattle.std.proofs.Common.{◌≡◌, ℕ, Bool, true, false, List, [], ◌∷◌, length, Ordering, Less, Equal, Greater, refl}
use Rattle.std.proofs.Common.{sym, ap, ◌∙◌, arith}
use Rattle.std.proofs.lemmas.Cmp.{then_total, on_total, nat_cmp_total}
use Rattle.std.proofs.lemmas.Map.Text.{is_eq-slice_cmp}
use Rattle.std.specs.Prelude.{◌==◌, nat_lt, ◌&&◌, ◌||◌, if◌then◌else◌}
use Rattle.std.specs.Cmp.{IsTotalOrder}
use Rattle.std.specs.Cmp.Lexicographic.{slice_cmp}
use Rattle.std.specs.Ordering.{nat_cmp, ordering_then, is_eq}
use Rattle.std.specs.Str.{bytes_eq}
use Rattle.water_model.specs.Rights.{is_lower}
use Rattle.rights_roll.specs.Priorities.{numbers_of, priority_cmp}
use Rattle.rights_roll.specs.declared.priority.Priority.{Priority}

pub priority_total : IsTotalOrder priority_cmp
priority_total =
    then_total (on_total (λ (p : Priority). p.year) nat_cmp_total)
    (then_total (on_total (λ (p : Priority). p.month) nat_cmp_total)
    (then_total (on_total (λ (p : Priority). p.day) nat_cmp_total)
    (on_total (λ (p : Priority). p.order) nat_cmp_total)))

then-Equal : (o : Ordering) → ordering_then o Equal ≡ o
then-Equal Less = refl
then-Equal Equal = refl
then-Equal Greater = refl

-- priorities are compared as their lists of numbers
by_numbers : (p q : Priority) → slice_cmp nat_cmp (numbers_of p) (numbers_of q) ≡ priority_cmp p q
by_numbers p q =
    ap (λ o. ordering_then (nat_cmp p.year q.year)
    (ordering_then (nat_cmp p.month q.month) (ordering_then (nat_cmp p.day q.day) o)))
    (then-Equal (nat_cmp p.order q.order))

-- two priorities tie where their numbers are equal
pub same_priority : (p q : Priority) → is_eq (priority_cmp p q) ≡ bytes_eq (numbers_of p) (numbers_of q)
same_priority p q = ap is_eq (sym (by_numbers p q)) ∙ is_eq-slice_cmp (numbers_of p) (numbers_of q)

lower_from_less : (xs ys : List ℕ) → length xs ≡ length ys → slice_cmp nat_cmp xs ys ≡ Less → is_lower xs ys ≡ true
lower_from_less [] [] e h = cc
lower_from_less [] (y ∷ ys) e h = absurd (omega arith)
lower_from_less (x ∷ xs) [] e h = absurd (omega arith)
lower_from_less (x ∷ xs) (y ∷ ys) e h = step (nat_lt x y) (x == y) (lower_from_less xs ys (omega arith)) h
  where
    step : (lt eq : Bool) → (slice_cmp nat_cmp xs ys ≡ Less → is_lower xs ys ≡ true) →
        ordering_then (if lt then Less else (if eq then Equal else Greater)) (slice_cmp nat_cmp xs ys) ≡ Less →
        lt || (eq && is_lower xs ys) ≡ true
    step true eq f g = refl
    step false true f g = f g
    step false false f g = cc

-- a lesser priority has the lower list of numbers
pub lower_priority : (p q : Priority) → priority_cmp p q ≡ Less → is_lower (numbers_of p) (numbers_of q) ≡ true
lower_priority p q h = lower_from_less (numbers_of p) (numbers_of q) refl (by_numbers p q ∙ h)
