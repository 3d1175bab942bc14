-- What the rows say of `out` lines.
use Rattle.std.proofs.Common.{◌≡◌, ℕ, zero, suc, ◌<◌, ◌≤◌, Bool, true, false, refl, sym, ap, ◌∙◌, arith, inl, inr, List}
use Rattle.std.proofs.Common.{[], ◌∷◌, ◌++◌, length, map, fold, filter, append_assoc}
use Rattle.std.specs.Prelude.{None, ◌&&◌, not, nat_le}
use Rattle.std.specs.List.{list_all, list_any}
use Rattle.std.proofs.lemmas.Bool.{le-leb, lt-leb, not-false}
use Rattle.std.proofs.Math.Bool.{and-false}
use Rattle.water_model.specs.Basin.{is_outlet}
use Rattle.water_model.specs.Indices.{numbers_from, indices_of, outlets}
use Rattle.result_lines.specs.declared.item.Item.TheVariants as line
use Rattle.result_lines.specs.declared.quantity.Quantity.TheVariants as quantity
use Rattle.water_model.specs.declared.types.Basin.{Basin}
use Rattle.water_model.specs.declared.types.Series.{Series}
use Rattle.water_model.specs.declared.types.MonthRecord.{MonthRecord}
use Rattle.water_model.proofs.Order.{Has, filter-has, numbers_from-has, numbers_from-below}
use Rattle.result_reader.specs.ReadSoFar.{ReadSoFar, read_item, with_supply}
use Rattle.cert_check.specs.Checking.{rows, balances}
use Rattle.cert_check.proofs.Rows.{NoneHolds, AreGood, early_good, none_holds, each_fails}

-- numbers that rise
abbrev pub Rises : List ℕ → Type 0
Rises [] = Unit {0}
Rises (x ∷ xs) = ((y : ℕ) → Has xs y → x < y) × Rises xs

numbers_rise : (from n : ℕ) → Rises (numbers_from from n)
unfolding numbers_from
numbers_rise from zero = tt
numbers_rise from (suc n) = (λ y h. omega (arith, (numbers_from-below (suc from) n y h).0), numbers_rise (suc from) n)

filter_rises : (p : ℕ → Bool) (xs : List ℕ) → Rises xs → Rises (filter p xs)
filter_rises p [] h = tt
filter_rises p (x ∷ xs) h = grind (arith, filter-has, filter_rises p xs h.1)

pub outlets_rise : (b : Basin) → Rises (outlets b)
outlets_rise b = filter_rises (λ n. is_outlet b n) (indices_of b.nodes) (numbers_rise 0 (length b.nodes))

pub has_after : (xs ys : List ℕ) (y : ℕ) → Has ys y → Has (xs ++ ys) y
has_after [] ys y h = h
has_after (x ∷ xs) ys y h = inr (has_after xs ys y h)

last_greatest : (xs : List ℕ) {x y : ℕ} → Rises (xs ++ x ∷ []) → Has (xs ++ x ∷ []) y → y ≤ x
last_greatest [] h (inl is) = omega arith
last_greatest [] h (inr m) = absurd m
last_greatest (z ∷ xs) {x} h (inl is) = omega (arith, h.0 x (has_after xs (x ∷ []) x (inl refl)))
last_greatest (z ∷ xs) {x} {y} h (inr m) = last_greatest xs h.1 m

greater_fails : (xs : List ℕ) {x y : ℕ} → Has xs y → x < y → list_all (λ other. nat_le other x) xs ≡ false
greater_fails [] h l = absurd h
greater_fails (z ∷ xs) {x} (inl is) l = rw (lt-leb z x (omega arith)) refl
greater_fails (z ∷ xs) {x} {y} (inr m) l = rw (greater_fails xs m l) (and-false (nat_le z x))

all_at_most : (xs : List ℕ) {x : ℕ} → ((y : ℕ) → Has xs y → y ≤ x) → list_all (λ other. nat_le other x) xs ≡ true
all_at_most [] h = refl
all_at_most (z ∷ xs) {x} h = rw (le-leb z x (h z (inl refl)), all_at_most xs (λ y m. h y (inr m))) refl

-- every node is in balance, by what was read
unfoldable pub IsInBalance : Basin → Series → MonthRecord → Type 0
IsInBalance b series now = (n : ℕ) → n < length b.nodes → balances b (with_supply b series now) n ≡ true

none_fails : (b : Basin) (m : MonthRecord) (xs : List ℕ) → ((n : ℕ) → Has xs n → balances b m n ≡ true) →
    list_any (λ n. not (balances b m n)) xs ≡ false
none_fails b m xs h = none_holds xs (λ n k. ap not (h n k))

fails_none : (b : Basin) (m : MonthRecord) (xs : List ℕ) → list_any (λ n. not (balances b m n)) xs ≡ false → (n : ℕ) →
    Has xs n → balances b m n ≡ true
fails_none b m xs h n k = not-false (balances b m n) (each_fails (λ n. not (balances b m n)) xs h k)

out_good : (b : Basin) (series : Series) (t : ReadSoFar) (n amount : ℕ) → t.calling ≡ None →
    list_all (λ other. nat_le other n) (outlets b) && list_any (λ node. not (balances b
    (with_supply b series (read_item b series t (line.Amount quantity.Outflow n amount)).now) node))
    (indices_of b.nodes) ≡ false → NoneHolds (rows b series t (line.Amount quantity.Outflow n amount))
out_good b series t n amount h balance =
    early_good b series t (line.Amount quantity.Outflow n amount) h (λ r. refl) refl refl (balance, tt)

-- `out` lines aren't refuted where all nodes are in balance after them
pub outflows_good : (b : Basin) (series : Series) (a : ℕ → ℕ) (xs done : List ℕ) (t : ReadSoFar) →
    outlets b ≡ done ++ xs → Rises xs → t.calling ≡ None →
    IsInBalance b series (fold (read_item b series) t (map (λ n. line.Amount quantity.Outflow n (a n)) xs)).now →
    AreGood b series t (map (λ n. line.Amount quantity.Outflow n (a n)) xs)
unfolding IsInBalance
outflows_good b series a [] done t is rises h balance = tt
outflows_good b series a (x ∷ []) done t is rises h balance = (
  out_good b series t x (a x) h (ap (λ q. list_all (λ other. nat_le other x) (outlets b) && q) in_balance
      ∙ and-false (list_all (λ other. nat_le other x) (outlets b))),
  tt,
)
  where
    in_balance : list_any (λ node. not (balances b
        (with_supply b series (read_item b series t (line.Amount quantity.Outflow x (a x))).now) node))
        (indices_of b.nodes) ≡ false
    in_balance = none_fails b (with_supply b series (read_item b series t (line.Amount quantity.Outflow x (a x))).now)
        (indices_of b.nodes) (λ n k. balance n (omega (arith, (numbers_from-below 0 (length b.nodes) n k).1)))
outflows_good b series a (x ∷ y ∷ ys) done t is rises h balance = (
  out_good b series t x (a x) h (ap (λ q. q && list_any (λ node. not
      (balances b (with_supply b series (read_item b series t (line.Amount quantity.Outflow x (a x))).now) node))
      (indices_of b.nodes)) not_last),
  outflows_good b series a (y ∷ ys) (done ++ x ∷ []) (read_item b series t (line.Amount quantity.Outflow x (a x))) (is
      ∙ sym (append_assoc done (x ∷ []) (y ∷ ys))) rises.1 refl balance,
)
  where
    not_last : list_all (λ other. nat_le other x) (outlets b) ≡ false
    not_last = greater_fails (outlets b) (rw is (has_after done (x ∷ y ∷ ys) y (inr (inl refl)))) (rises.0 y (inl refl))

-- and where they aren't refuted, all nodes are in balance after the last
pub outflows_read : (b : Basin) (series : Series) (a : ℕ → ℕ) (x : ℕ) (xs done : List ℕ) (t : ReadSoFar) →
    outlets b ≡ done ++ (x ∷ xs) → AreGood b series t (map (λ n. line.Amount quantity.Outflow n (a n)) (x ∷ xs)) →
    IsInBalance b series (fold (read_item b series) t (map (λ n. line.Amount quantity.Outflow n (a n)) (x ∷ xs))).now
unfolding IsInBalance
outflows_read b series a x [] done t is g n l =
    fails_none b (with_supply b series (read_item b series t (line.Amount quantity.Outflow x (a x))).now)
    (indices_of b.nodes) (second (list_all (λ other. nat_le other x) (outlets b)) (list_any (λ node. not
    (balances b (with_supply b series (read_item b series t (line.Amount quantity.Outflow x (a x))).now) node))
    (indices_of b.nodes)) is_last g.0.1.1.1.1.0) n (numbers_from-has 0 (length b.nodes) n n l (omega arith))
  where
    second : (p q : Bool) → p ≡ true → p && q ≡ false → q ≡ false
    second p q e h = rw e at h

    is_last : list_all (λ other. nat_le other x) (outlets b) ≡ true
    is_last = all_at_most (outlets b) (λ y m. last_greatest done (rw (← is) (outlets_rise b)) (rw (← is) m))
outflows_read b series a x (y ∷ ys) done t is g n l =
    outflows_read b series a y ys (done ++ x ∷ []) (read_item b series t (line.Amount quantity.Outflow x (a x))) (is
    ∙ sym (append_assoc done (x ∷ []) (y ∷ ys))) g.1 n l
