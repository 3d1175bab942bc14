-- The list of the rights by seniority: it is the only one, and the index of each right in it.
use Rattle.std.proofs.Common.{◌≡◌, ℕ, zero, suc, ◌<◌, ◌≤◌, true, false, List, [], ◌∷◌, length, get_or, refl, sym}
use Rattle.std.proofs.Common.{ap, ◌∙◌, inl, inr, arith}
use Rattle.std.proofs.lemmas.Bool.{cases_order, false_from_ne_true, eq-eqb, eqb-true, ne_eqb, false≢true}
use Rattle.std.proofs.lemmas.List.Sums.{passes_at_first, position_or_len_is}
use Rattle.std.proofs.lemmas.Bool.Decides.{nat_tests}
use Rattle.std.specs.Prelude.{◌==◌, nat_lt, ◌≢◌}
use Rattle.water_model.specs.Hydrology.{index_in}
use Rattle.water_model.specs.Rights.{is_senior_in, priority_in, AreStrict}
use Rattle.water_model.specs.Indices.{by_seniority}
use Rattle.water_model.specs.declared.types.Right.{Right}
use Rattle.water_model.proofs.Gauges.{has_index}
use Rattle.water_model.proofs.Seniority.{not_lower, senior_trans}
use Rattle.water_model.proofs.Order.{Has, IsOrdered, length-by_seniority, seniors_have, seniors_below, seniors_ordered}
use Rattle.rights_roll.specs.SeniorityOrder.{IsSeniorityOrder}

-- no right is senior to itself, nor are two to each other
pub not_senior_to_same : (rights : List Right) (r s : ℕ) → r ≡ s → is_senior_in rights r s ≡ false
not_senior_to_same rights r s e = ap (λ q. is_senior_in rights r q) (sym e) ∙ not_lower (priority_in rights r)

not_both : (rights : List Right) (r s : ℕ) → is_senior_in rights r s ≡ true → is_senior_in rights s r ≡ true → ⊥
not_both rights r s h k = let both : true ≡ false =
    sym (senior_trans rights r s r h k) ∙ not_senior_to_same rights r r refl in cc

-- Two orders of the same rights are equal.

-- the first right of an order does not come again after it
not_after : (rights : List Right) (x : ℕ) (xs : List ℕ) (r : ℕ) → IsOrdered rights (x ∷ xs) → Has xs r → r ≢ x
not_after rights x xs r order has e = let both : true ≡ false =
    sym (order.0 r has) ∙ not_senior_to_same rights x r (sym e) in cc

same_first : (rights : List Right) (x y : ℕ) (xs ys : List ℕ) → IsOrdered rights (x ∷ xs) → IsOrdered rights (y ∷ ys) →
    Has (y ∷ ys) x → Has (x ∷ xs) y → x ≡ y
same_first rights x y xs ys first second (inl e) k = e
same_first rights x y xs ys first second (inr h) (inl e) = sym e
same_first rights x y xs ys first second (inr h) (inr k) = absurd (not_both rights x y (first.0 y k) (second.0 x h))

pub one_order : (rights : List Right) (xs ys : List ℕ) → IsOrdered rights xs → IsOrdered rights ys →
    ((r : ℕ) → Has xs r → Has ys r) → ((r : ℕ) → Has ys r → Has xs r) → xs ≡ ys
one_order rights [] [] first second there back = refl
one_order rights [] (y ∷ ys) first second there back = absurd (back y (inl refl))
one_order rights (x ∷ xs) [] first second there back = absurd (there x (inl refl))
one_order rights (x ∷ xs) (y ∷ ys) first second there back =
    let e : x ≡ y = same_first rights x y xs ys first second (there x (inl refl)) (back y (inl refl)) in
    let rest : xs ≡ ys = one_order rights xs ys first.1 second.1 (λ r h. later x y xs ys r first e h (there r (inr h)))
    (λ r h. later y x ys xs r second (sym e) h (back r (inr h))) in
    ap (λ z. z ∷ xs) e ∙ ap (λ zs. y ∷ zs) rest
  where
    later : (x y : ℕ) (xs ys : List ℕ) (r : ℕ) → IsOrdered rights (x ∷ xs) → x ≡ y → Has xs r → Has (y ∷ ys) r →
        Has ys r
    later x y xs ys r order e h (inl same) = absurd (not_after rights x xs r order h (same ∙ sym e))
    later x y xs ys r order e h (inr k) = k

-- a list that has each right, seniors first
pub is_by_seniority : (rights : List Right) (xs : List ℕ) → AreStrict rights → IsOrdered rights xs →
    ((r : ℕ) → r < length rights → Has xs r) → ((r : ℕ) → Has xs r → r < length rights) → xs ≡ by_seniority rights
is_by_seniority rights xs strict order all only =
    one_order rights xs (by_seniority rights) order (seniors_ordered rights strict)
    (λ r h. seniors_have rights r (only r h)) (λ r h. all r (seniors_below rights r h))

-- The index of a right in a list.

pub has-get_or : (xs : List ℕ) (i : ℕ) → i < length xs → Has xs (get_or xs i 0)
has-get_or [] i h = absurd (omega arith)
has-get_or (x ∷ xs) zero h = inl refl
has-get_or (x ∷ xs) (suc i) h = inr (has-get_or xs i (omega arith))

-- every entry of the order is a right
pub by_seniority-below : (rights : List Right) (i : ℕ) → i < length rights →
    get_or (by_seniority rights) i 0 < length rights
by_seniority-below rights i h =
    seniors_below rights (get_or (by_seniority rights) i 0)
    (has-get_or (by_seniority rights) i (omega (arith, length-by_seniority rights)))

get_or-index_in : (xs : List ℕ) (r : ℕ) → Has xs r → get_or xs (index_in xs r) 0 ≡ r
get_or-index_in xs r h =
    eqb-true (get_or xs (index_in xs r) 0) r (passes_at_first (λ x. x == r) xs 0 (has_index xs r h))

-- of two entries the one at the lower index is senior
pub senior_by_index : (rights : List Right) (xs : List ℕ) (i j : ℕ) → IsOrdered rights xs → i < j → j < length xs →
    is_senior_in rights (get_or xs i 0) (get_or xs j 0) ≡ true
senior_by_index rights [] i j order h k = absurd (omega arith)
senior_by_index rights (x ∷ xs) i zero order h k = absurd (omega arith)
senior_by_index rights (x ∷ xs) zero (suc j) order h k = order.0 (get_or xs j 0) (has-get_or xs j (omega arith))
senior_by_index rights (x ∷ xs) (suc i) (suc j) order h k =
    senior_by_index rights xs i j order.1 (omega arith) (omega arith)

index_in-get_or : (rights : List Right) (xs : List ℕ) (i : ℕ) → IsOrdered rights xs → i < length xs →
    index_in xs (get_or xs i 0) ≡ i
index_in-get_or rights xs i order h = position_or_len_is (λ x. x == get_or xs i 0) xs i 0 (omega arith)
    (λ k l. ne_eqb (get_or xs k 0) (get_or xs i 0) (λ same. false≢true
    (sym (not_senior_to_same rights (get_or xs k 0) (get_or xs i 0) same) ∙ senior_by_index rights xs k i order l h)))
    (λ l. eq-eqb (get_or xs i 0) (get_or xs i 0) refl)

senior-indices : (rights : List Right) (xs : List ℕ) (i j : ℕ) → IsOrdered rights xs → i < length xs → j < length xs →
    is_senior_in rights (get_or xs i 0) (get_or xs j 0) ≡ nat_lt i j
senior-indices rights xs i j order h k = elim (cases_order i j) [
  | inl same ↦ not_senior_to_same rights (get_or xs i 0) (get_or xs j 0) (ap (λ q. get_or xs q 0) same)
      ∙ not_lt i j (omega arith)
  | inr o ↦ elim o [
    | inl before ↦ senior_by_index rights xs i j order before k ∙ lt i j before
    | inr after ↦
        false_from_ne_true _ (λ e. not_both rights (get_or xs i 0) (get_or xs j 0) e
        (senior_by_index rights xs j i order after h)) ∙ not_lt i j (omega arith)
  ]
]
  where
    lt : (i j : ℕ) → i < j → true ≡ nat_lt i j
    lt i j l = grind (arith, nat_tests)

    not_lt : (i j : ℕ) → j ≤ i → false ≡ nat_lt i j
    not_lt i j l = grind (arith, nat_tests)

-- the rights by seniority are in an order with indices
pub by_seniority_order : (rights : List Right) → AreStrict rights → IsSeniorityOrder rights (by_seniority rights)
by_seniority_order rights strict = record {
  count = length-by_seniority rights;
  place = index_in (by_seniority rights);
  below = by_seniority-below rights;
  placed = λ i h. index_in-get_or rights (by_seniority rights) i (seniors_ordered rights strict)
      (omega (arith, length-by_seniority rights));
  in_range =
      λ r h. (let b = has_index (by_seniority rights) r (seniors_have rights r h) in
      omega (arith, length-by_seniority rights));
  each = λ r h. get_or-index_in (by_seniority rights) r (seniors_have rights r h);
  senior = λ r s h k. senior r s h k;
}
  where
    senior : (r s : ℕ) → r < length rights → s < length rights →
        is_senior_in rights r s ≡ nat_lt (index_in (by_seniority rights) r) (index_in (by_seniority rights) s)
    senior r s h k =
        let first = seniors_have rights r h in
        let second = seniors_have rights s k in
        ap (λ q. is_senior_in rights q s) (sym (get_or-index_in (by_seniority rights) r first))
        ∙ (ap (λ q. is_senior_in rights (get_or (by_seniority rights) (index_in (by_seniority rights) r) 0) q)
        (sym (get_or-index_in (by_seniority rights) s second))
        ∙ senior-indices rights (by_seniority rights) (index_in (by_seniority rights) r)
        (index_in (by_seniority rights) s) (seniors_ordered rights strict)
        (has_index (by_seniority rights) r first) (has_index (by_seniority rights) s second))
