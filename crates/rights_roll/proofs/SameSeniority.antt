-- Rights of one priority.
use Rattle.std.proofs.Common.{◌≡◌, ℕ, zero, suc, ◌+◌, ◌<◌, ◌≤◌, true, false, List, [], ◌∷◌, length, map, get_or}
use Rattle.std.proofs.Common.{Some, None, refl, sym, ap, ◌∙◌, inl, inr, arith}
use Rattle.std.proofs.lemmas.Bool.{cases_eq, cases_lt, le-ltb, lt-ltb, false_from_ne_true}
use Rattle.std.proofs.lemmas.List.{length-map}
use Rattle.std.specs.Prelude.{nat_lt}
use Rattle.std.specs.List.{position_or_len}
use Rattle.std.specs.Str.{bytes_eq}
use Rattle.water_model.specs.Rights.{priority, priority_in, AreStrict}
use Rattle.water_model.specs.declared.types.Right.{Right}
use Rattle.rights_roll.specs.RollFaults.{same_from, same_seniority}
use Rattle.rights_roll.specs.declared.RollRefused.TheVariants.{SameSeniority}
use Rattle.rights_roll.proofs.Indices.{same_bytes, bytes_same, position_or_len-at_most, position_or_len-at_least}

-- the first index of the key at an index
abbrev pub first_like : List (List ℕ) → ℕ → ℕ
first_like keys k = position_or_len (bytes_eq (get_or keys k [])) keys

-- no earlier index has the key
abbrev pub IsFresh : List (List ℕ) → ℕ → Type 0
IsFresh keys k = k ≤ first_like keys k

-- the keys from an index onwards
abbrev AreAfter : List (List ℕ) → ℕ → List (List ℕ) → Type 0
AreAfter keys n rest = (k : ℕ) → k < length rest → get_or rest k [] ≡ get_or keys (n + k) []

after_first : (keys : List (List ℕ)) (n : ℕ) (key : List ℕ) (rest : List (List ℕ)) → AreAfter keys n (key ∷ rest) →
    key ≡ get_or keys n []
after_first keys n key rest after =
    after 0 (omega arith) ∙ (let e : n + 0 ≡ n = omega arith in ap (λ k. get_or keys k []) e)

after_rest : (keys : List (List ℕ)) (n : ℕ) (key : List ℕ) (rest : List (List ℕ)) → AreAfter keys n (key ∷ rest) →
    AreAfter keys (n + 1) rest
after_rest keys n key rest after =
    λ k h. after (suc k) (omega arith) ∙ (let e : n + suc k ≡ n + 1 + k = omega arith in ap (λ j. get_or keys j []) e)

-- at a fresh key the search goes on
from-fresh : (keys : List (List ℕ)) (n : ℕ) (key : List ℕ) (rest : List (List ℕ)) → key ≡ get_or keys n [] →
    IsFresh keys n → same_from keys n (key ∷ rest) ≡ same_from keys (n + 1) rest
from-fresh keys n key rest is fresh =
    let test : nat_lt (position_or_len (bytes_eq key) keys) n ≡ false =
    ap (λ q. nat_lt (position_or_len (bytes_eq q) keys) n) is ∙ le-ltb (first_like keys n) n fresh in
    rw test refl

-- at a key that an earlier index has, the search ends
from-like : (keys : List (List ℕ)) (n : ℕ) (key : List ℕ) (rest : List (List ℕ)) → key ≡ get_or keys n [] →
    first_like keys n < n → same_from keys n (key ∷ rest) ≡ Some (SameSeniority (first_like keys n) n)
from-like keys n key rest is like =
    let at : position_or_len (bytes_eq key) keys ≡ first_like keys n = ap (λ q. position_or_len (bytes_eq q) keys) is in
    let test : nat_lt (position_or_len (bytes_eq key) keys) n ≡ true =
    ap (λ k. nat_lt k n) at ∙ lt-ltb (first_like keys n) n like in
    rw test (ap (λ k. Some (SameSeniority k n)) at)

from-found : (keys : List (List ℕ)) (n : ℕ) (rest : List (List ℕ)) (i : ℕ) → AreAfter keys n rest → n ≤ i →
    i < n + length rest → ((k : ℕ) → n ≤ k → k < i → IsFresh keys k) → first_like keys i < i →
    same_from keys n rest ≡ Some (SameSeniority (first_like keys i) i)
from-found keys n [] i after from below fresh like = absurd (omega arith)
from-found keys n (key ∷ rest) i after from below fresh like = elim (cases_eq n i) [
  | inl same ↦ (
      let here : first_like keys n < n = omega (arith, ap (first_like keys) same) in
      from-like keys n key rest (after_first keys n key rest after) here
      ∙ ap (λ k. Some (SameSeniority (first_like keys k) k)) same)
  | inr other ↦
      from-fresh keys n key rest (after_first keys n key rest after) (fresh n (omega arith) (omega (arith, other)))
      ∙ from-found keys (n + 1) rest i (after_rest keys n key rest after) (omega (arith, other)) (omega arith)
      (λ k f b. fresh k (omega arith) b) like
]

from-none : (keys : List (List ℕ)) (n : ℕ) (rest : List (List ℕ)) → AreAfter keys n rest →
    ((k : ℕ) → n ≤ k → k < n + length rest → IsFresh keys k) → same_from keys n rest ≡ None
from-none keys n [] after fresh = refl
from-none keys n (key ∷ rest) after fresh =
    from-fresh keys n key rest (after_first keys n key rest after) (fresh n (omega arith) (omega arith))
    ∙ from-none keys (n + 1) rest (after_rest keys n key rest after) (λ k f b. fresh k (omega arith) (omega arith))

fresh-from_none : (keys : List (List ℕ)) (n : ℕ) (rest : List (List ℕ)) (k : ℕ) → AreAfter keys n rest →
    same_from keys n rest ≡ None → n ≤ k → k < n + length rest → IsFresh keys k
fresh-from_none keys n [] k after none from below = absurd (omega arith)
fresh-from_none keys n (key ∷ rest) k after none from below = elim (cases_lt (first_like keys n) n) [
  | inl like ↦
      (let found : Some (SameSeniority (first_like keys n) n) ≡ None =
      sym (from-like keys n key rest (after_first keys n key rest after) like) ∙ none in cc)
  | inr fresh ↦ elim (cases_eq k n) [
    | inl same ↦ omega (arith, ap (first_like keys) same)
    | inr other ↦ fresh-from_none keys (n + 1) rest k (after_rest keys n key rest after)
        (sym (from-fresh keys n key rest (after_first keys n key rest after) fresh) ∙ none) (omega (arith, other))
        (omega arith)
  ]
]

after_all : (keys : List (List ℕ)) → AreAfter keys 0 keys
after_all keys k h = let e : k ≡ 0 + k = omega arith in ap (λ j. get_or keys j []) e

-- the first right with the priority of an earlier one
pub same_seniority-found : (rights : List Right) (i : ℕ) → i < length rights →
    ((k : ℕ) → k < i → IsFresh (map priority rights) k) → first_like (map priority rights) i < i →
    same_seniority rights ≡ Some (SameSeniority (first_like (map priority rights) i) i)
same_seniority-found rights i below fresh like =
    from-found (map priority rights) 0 (map priority rights) i (after_all (map priority rights)) (omega arith)
    (omega (arith, length-map rights priority)) (λ k f b. fresh k b) like

pub same_seniority-none : (rights : List Right) → ((k : ℕ) → k < length rights → IsFresh (map priority rights) k) →
    same_seniority rights ≡ None
same_seniority-none rights fresh =
    from-none (map priority rights) 0 (map priority rights) (after_all (map priority rights))
    (λ k f b. fresh k (omega (arith, length-map rights priority)))

pub priority_in-is : (rights : List Right) (r : ℕ) → priority_in rights r ≡ get_or (map priority rights) r []
priority_in-is [] r = refl
priority_in-is (x ∷ xs) zero = refl
priority_in-is (x ∷ xs) (suc r) = priority_in-is xs r

-- rights of which no two have one priority
pub strict-from_none : (rights : List Right) → same_seniority rights ≡ None → AreStrict rights
strict-from_none rights none r s order below same =
    let in_keys : s < 0 + length (map priority rights) = omega (arith, length-map rights priority) in
    let fresh : s ≤ first_like (map priority rights) s =
    fresh-from_none (map priority rights) 0 (map priority rights) s (after_all (map priority rights)) none
    (omega arith) in_keys in
    let at_most =
    position_or_len-at_most (bytes_eq (get_or (map priority rights) s [])) (map priority rights) r [] (omega arith)
    (same_bytes (get_or (map priority rights) s []) (get_or (map priority rights) r [])
    (sym (priority_in-is rights s) ∙ (sym same ∙ priority_in-is rights r))) in
    omega (arith, at_most)

pub none-from_strict : (rights : List Right) → AreStrict rights → same_seniority rights ≡ None
none-from_strict rights strict = same_seniority-none rights fresh
  where
    apart : (k j : ℕ) → k < length rights → j < k →
        bytes_eq (get_or (map priority rights) k []) (get_or (map priority rights) j []) ≡ false
    apart k j below before = false_from_ne_true _ (λ e. strict j k before below (priority_in-is rights j
        ∙ (sym (bytes_same (get_or (map priority rights) k []) (get_or (map priority rights) j []) e)
        ∙ sym (priority_in-is rights k))))

    fresh : (k : ℕ) → k < length rights → IsFresh (map priority rights) k
    fresh k below =
        position_or_len-at_least (bytes_eq (get_or (map priority rights) k [])) (map priority rights) k []
        (omega (arith, length-map rights priority)) (λ j before. apart k j below before)
