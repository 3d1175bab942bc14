-- The sets that `call` lines say.
use Rattle.std.proofs.Common.{◌≡◌, ◌≢◌, ℕ, zero, suc, ◌<◌, Bool, refl, sym, ap, ◌∙◌, arith, inl, inr, List, [], ◌∷◌}
use Rattle.std.proofs.Common.{length, replicate}
use Rattle.std.specs.Prelude.{Option, Some, None, slice_set}
use Rattle.std.proofs.Math.ListN.{length-set}
use Rattle.std.proofs.lemmas.Bool.{cases_eq}
use Rattle.std.proofs.lemmas.List.{length-replicate}
use Rattle.water_model.specs.Lookups.{of_entry}
use Rattle.water_model.proofs.Order.{Has}
use Rattle.water_model.proofs.SetEntries.{Sets, entry_set}

-- the sets of the rights that have one
abbrev pub put_sets : List ℕ → (ℕ → Option (List Bool)) → List (Option (List Bool)) → List (Option (List Bool))
put_sets [] cut ys = ys
put_sets (r ∷ rs) cut ys = put_sets rs cut (put_set (cut r))
  where
    put_set : Option (List Bool) → List (Option (List Bool))
    put_set None = ys
    put_set (Some set) = slice_set ys r (Some set)

-- the sets of one more right
put_one : (r : ℕ) (o : Option (List Bool)) → Sets → Sets
put_one r None ys = ys
put_one r (Some set) ys = slice_set ys r (Some set)

length-put_one : (r : ℕ) (o : Option (List Bool)) (ys : Sets) → length (put_one r o ys) ≡ length ys
unfolding put_one
length-put_one r None ys = refl
length-put_one r (Some set) ys = length-set ys r (Some set)

put_sets-step : (r : ℕ) (rs : List ℕ) (cut : ℕ → Option (List Bool)) (ys : Sets) →
    put_sets (r ∷ rs) cut ys ≡ put_sets rs cut (put_one r (cut r) ys)
unfolding put_one
put_sets-step r rs cut ys = grind (arith, put_one)

pub length-put_sets : (rs : List ℕ) (cut : ℕ → Option (List Bool)) (ys : Sets) → length (put_sets rs cut ys) ≡ length ys
length-put_sets [] cut ys = refl
length-put_sets (r ∷ rs) cut ys =
    grind (
      arith,
      put_sets-step,
      put_one,
      length-put_one,
      length-put_sets rs cut (put_one r (cut r) ys) ∙ length-put_one r (cut r) ys,
    )

abbrev pub set_in : Sets → ℕ → Option (List Bool)
set_in xs k = of_entry xs k (λ s. s) None

set_other : (xs : Sets) (r k : ℕ) (v : Option (List Bool)) → k ≢ r → set_in (slice_set xs r v) k ≡ set_in xs k
set_other [] r k v h = refl
set_other (x ∷ xs) zero zero v h = absurd (h refl)
set_other (x ∷ xs) zero (suc k) v h = refl
set_other (x ∷ xs) (suc r) zero v h = refl
set_other (x ∷ xs) (suc r) (suc k) v h = set_other xs r k v (λ e. h (ap suc e))

put_one-keeps : (r k : ℕ) (cut : ℕ → Option (List Bool)) (ys : Sets) → k < length ys → set_in ys k ≡ cut k →
    set_in (put_one r (cut r) ys) k ≡ cut k
unfolding put_one
put_one-keeps r k cut ys l h = grind (arith, put_one, cases_eq, entry_set, set_other)

put_sets-keeps : (rs : List ℕ) (k : ℕ) (cut : ℕ → Option (List Bool)) (ys : Sets) → k < length ys →
    set_in ys k ≡ cut k → set_in (put_sets rs cut ys) k ≡ cut k
put_sets-keeps [] k cut ys l h = h
put_sets-keeps (r ∷ rs) k cut ys l h =
    ap (λ xs. set_in xs k) (put_sets-step r rs cut ys)
    ∙ put_sets-keeps rs k cut (put_one r (cut r) ys) (omega (arith, length-put_one r (cut r) ys))
    (put_one-keeps r k cut ys l h)

put_one-here : (r k : ℕ) (cut : ℕ → Option (List Bool)) (ys : Sets) → k ≡ r → k < length ys → set_in ys k ≡ None →
    set_in (put_one r (cut r) ys) k ≡ cut k
unfolding put_one
put_one-here r k cut ys same l h = grind (arith, put_one, entry_set)

put_one-other : (r k : ℕ) (o : Option (List Bool)) (ys : Sets) → k ≢ r → set_in (put_one r o ys) k ≡ set_in ys k
unfolding put_one
put_one-other r k None ys h = refl
put_one-other r k (Some set) ys h = set_other ys r k (Some set) h

-- a right whose set is put has it
pub put_sets-has : (rs : List ℕ) (k : ℕ) (cut : ℕ → Option (List Bool)) (ys : Sets) → k < length ys →
    set_in ys k ≡ None → Has rs k → set_in (put_sets rs cut ys) k ≡ cut k
put_sets-has [] k cut ys l h m = absurd m
put_sets-has (r ∷ rs) k cut ys l h m =
    ap (λ xs. set_in xs k) (put_sets-step r rs cut ys) ∙ elim (cases_eq k r) [
      | inl same ↦
          put_sets-keeps rs k cut (put_one r (cut r) ys) (omega (arith, length-put_one r (cut r) ys))
          (put_one-here r k cut ys same l h)
      | inr other ↦
          put_sets-has rs k cut (put_one r (cut r) ys) (omega (arith, length-put_one r (cut r) ys))
          (put_one-other r k (cut r) ys other ∙ h) (after m other)
    ]
  where
    after : Has (r ∷ rs) k → k ≢ r → Has rs k
    after (inl is) other = absurd (other is)
    after (inr there) other = there

pub no_sets : (n k : ℕ) → (let xs : Sets = replicate n None in set_in xs k) ≡ None
no_sets zero k = refl
no_sets (suc n) zero = refl
no_sets (suc n) (suc k) = no_sets n k

same_sets : (xs ys : Sets) → length xs ≡ length ys → ((k : ℕ) → k < length xs → set_in xs k ≡ set_in ys k) → xs ≡ ys
same_sets [] [] e h = refl
same_sets [] (y ∷ ys) e h = absurd (omega arith)
same_sets (x ∷ xs) [] e h = absurd (omega arith)
same_sets (x ∷ xs) (y ∷ ys) e h =
    ap (λ z. z ∷ xs) (h 0 (omega arith))
    ∙ ap (λ zs. y ∷ zs) (same_sets xs ys (omega arith) (λ k l. h (suc k) (omega arith)))

-- the sets of all rights
pub all_sets : (rs : List ℕ) (n : ℕ) (ys : Sets) → length ys ≡ n → ((k : ℕ) → k < n → Has rs k) →
    put_sets rs (λ r. set_in ys r) (replicate n None) ≡ ys
all_sets rs n ys e has = grind (arith, same_sets, put_sets-has, length-replicate, no_sets, length-put_sets)

-- sets that are the same at the rights that are gone over
pub put_sets-same : (rs : List ℕ) (cut other : ℕ → Option (List Bool)) (ys : Sets) →
    ((r : ℕ) → Has rs r → cut r ≡ other r) → put_sets rs cut ys ≡ put_sets rs other ys
unfolding put_one
put_sets-same [] cut other ys h = refl
put_sets-same (r ∷ rs) cut other ys h =
    grind (
      arith,
      put_sets-step,
      put_one,
      put_sets-same rs cut other (put_one r (other r) ys) (λ k m. h k (inr m)) ∙ sym (put_sets-step r rs other ys),
    )
