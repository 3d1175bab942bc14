-- The sets of rights after writes.
use Rattle.std.proofs.Common.{◌≡◌, ◌≢◌, ℕ, zero, suc, ◌<◌, Bool, List, [], ◌∷◌, length, refl, sym, ap, arith}
use Rattle.std.proofs.Common.{replicate, map}
use Rattle.std.specs.Prelude.{Option, None, slice_set}
use Rattle.water_model.specs.CutSets.{CutSets, set_of, with_set}
use Rattle.water_model.specs.Lookups.{of_entry}

-- for each right its set, if it has one
abbrev pub Sets : Type 0
Sets = List (Option (List Bool))

-- what was written at an index stands there, and all else stays
pub entry_set : (xs : Sets) (k : ℕ) (v : Option (List Bool)) → k < length xs →
    of_entry (slice_set xs k v) k (λ s. s) None ≡ v
entry_set [] k v l = absurd (omega arith)
entry_set (x ∷ xs) zero v l = refl
entry_set (x ∷ xs) (suc k) v l = entry_set xs k v (omega arith)

entry_apart : (xs : Sets) (r k : ℕ) (v : Option (List Bool)) → k ≢ r →
    of_entry (slice_set xs r v) k (λ s. s) None ≡ of_entry xs k (λ s. s) None
entry_apart [] r k v h = refl
entry_apart (x ∷ xs) zero zero v h = absurd (h refl)
entry_apart (x ∷ xs) zero (suc k) v h = refl
entry_apart (x ∷ xs) (suc r) zero v h = refl
entry_apart (x ∷ xs) (suc r) (suc k) v h = entry_apart xs r k v (λ e. h (ap suc e))

-- what stands there already may be written there
pub set_entry : (xs : Sets) (k : ℕ) (v : Option (List Bool)) → k < length xs → of_entry xs k (λ s. s) None ≡ v →
    slice_set xs k v ≡ xs
set_entry [] k v l h = absurd (omega arith)
set_entry (x ∷ xs) zero v l h = ap (λ y. y ∷ xs) (sym h)
set_entry (x ∷ xs) (suc k) v l h = ap (λ ys. x ∷ ys) (set_entry xs k v (omega arith) h)

-- the later of two writes stays
pub set_twice : (xs : Sets) (k : ℕ) (u v : Option (List Bool)) → slice_set (slice_set xs k u) k v ≡ slice_set xs k v
set_twice [] k u v = refl
set_twice (x ∷ xs) zero u v = refl
set_twice (x ∷ xs) (suc k) u v = ap (λ ys. x ∷ ys) (set_twice xs k u v)

-- the set of a right, and of another one
pub set_of_with : (c : CutSets) (r : ℕ) (s : Option (List Bool)) → r < length c.sets → set_of (with_set c r s) r ≡ s
set_of_with c r s l = entry_set c.sets r s l

pub set_of_other : (c : CutSets) (r q : ℕ) (s : Option (List Bool)) → q ≢ r → set_of (with_set c r s) q ≡ set_of c q
set_of_other c r q s ne = entry_apart c.sets r q s ne

-- where no right has a set, none is found
pub no_sets : (n r : ℕ) → of_entry (replicate {A = Option (List Bool)} n None) r (λ s. s) None ≡ None
no_sets zero r = refl
no_sets (suc n) zero = refl
no_sets (suc n) (suc r) = no_sets n r

pub emptied : (xs : Sets) (r : ℕ) →
    of_entry (map {A = Option (List Bool)} {B = Option (List Bool)} (λ _. None) xs) r (λ s. s) None ≡ None
emptied [] r = refl
emptied (x ∷ xs) zero = refl
emptied (x ∷ xs) (suc r) = emptied xs r
