-- Lists by index: f 0, f 1, .. f (n - 1).
use Rattle.std.proofs.Common.{◌≡◌, ◌≢◌, ℕ, ◌<◌, length, get_or, map, replicate, ap, sym, ◌∙◌, inl, inr, zero-add, arith}
use Rattle.std.specs.Prelude.{slice_set}
use Rattle.std.specs.List.{range_with_len}
use Rattle.std.proofs.lemmas.Bool.{cases_eq}
use Rattle.std.proofs.lemmas.List.{get_or-replicate, get_or-set_other, length-replicate, length-set, same_lists}
use Rattle.std.proofs.lemmas.List.FromFn.{length-map-range_with_len, get_or-map-range_with_len}
use Rattle.std.proofs.lemmas.Grind.{get_or-set_at}

at_index : {X : Type 0} (n : ℕ) (f : ℕ → X) (q : ℕ) (d : X) → q < n → get_or (map f (range_with_len 0 n)) q d ≡ f q
at_index n f q d below = get_or-map-range_with_len f 0 n q q d below (zero-add q)

-- how many there are
count : {X : Type 0} (n : ℕ) (f : ℕ → X) → length (map f (range_with_len 0 n)) ≡ n
count n f = length-map-range_with_len f 0 n

-- another value at one index
pub one_changed : {X : Type 0} (n : ℕ) (f g : ℕ → X) (p : ℕ) → ((q : ℕ) → q < n → q ≢ p → g q ≡ f q) →
    map g (range_with_len 0 n) ≡ slice_set (map f (range_with_len 0 n)) p (g p)
one_changed n f g p same =
    let before = map f (range_with_len 0 n) in
    same_lists (map g (range_with_len 0 n)) (slice_set before p (g p))
    (count n g ∙ sym (length-set before p (g p) ∙ count n f)) (λ q d b.
    let below : q < n = omega (arith, count n g) in
    at_index n g q d below ∙ elim (cases_eq q p) [
      | inl e ↦ ap g e ∙ sym (get_or-set_at before p q (g p) d e (omega (arith, count n f)))
      | inr e ↦ same q below e ∙ sym (get_or-set_other before p q (g p) d e ∙ at_index n f q d below)
    ])

-- one value at each index
pub all_one : {X : Type 0} (n : ℕ) (f : ℕ → X) (x : X) → ((q : ℕ) → q < n → f q ≡ x) →
    map f (range_with_len 0 n) ≡ replicate n x
all_one n f x each =
    same_lists (map f (range_with_len 0 n)) (replicate n x) (count n f ∙ sym (length-replicate n x)) (λ q d b.
    let below : q < n = omega (arith, count n f) in
    at_index n f q d below ∙ each q below ∙ sym (get_or-replicate n q x d below))
