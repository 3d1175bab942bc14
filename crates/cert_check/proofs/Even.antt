-- The tests of sums, by what a check state keeps.
use Rattle.std.proofs.Common.{◌≡◌, ℕ, ◌<◌, ◌≤◌, Bool, true, false, refl, sym, ap, ◌∙◌, arith, inl, inr, List, []}
use Rattle.std.proofs.Common.{◌∷◌, length}
use Rattle.std.specs.Prelude.{◌&&◌, not, nat_le}
use Rattle.std.specs.List.{list_all, list_any}
use Rattle.std.proofs.lemmas.Bool.{le-leb, or_right}
use Rattle.water_model.specs.Indices.{indices_of, outlets}
use Rattle.water_model.specs.declared.types.Basin.{Basin}
use Rattle.water_model.specs.declared.types.Series.{Series}
use Rattle.water_model.proofs.Order.{Has, numbers_from-has, numbers_from-below}
use Rattle.result_reader.specs.ReadSoFar.{ReadSoFar, with_supply}
use Rattle.cert_check.specs.Checking.{balances}
use Rattle.cert_check.specs.Keeping.{Keeps, with_outflow}
use Rattle.cert_check.specs.declared.state.CheckState.{CheckState}
use Rattle.cert_check.proofs.Rows.{none_holds}

-- Balances.

read_balances : {b : Basin} {series : Series} {a : CheckState} {t : ReadSoFar} (n amount v : ℕ) → Keeps b series a t →
    a.has_supply ≡ true →
    balances b (with_outflow a.month n amount) v ≡ balances b (with_supply b series (with_outflow t.now n amount)) v
read_balances n amount v k has = rw (k.supply has, k.month.shows.flow, k.month.shows.take, k.month.shows.out) refl

pub all_even : {b : Basin} {series : Series} {a : CheckState} {t : ReadSoFar} (n amount : ℕ) → Keeps b series a t →
    a.has_supply ≡ true → ((v : ℕ) → v < length b.nodes → balances b (with_outflow a.month n amount) v ≡ true) →
    list_any (λ v. not (balances b (with_supply b series (with_outflow t.now n amount)) v)) (indices_of b.nodes) ≡ false
all_even {b} n amount k has even = none_holds (indices_of b.nodes) (λ v h. ap not (sym (read_balances n amount v k has)
    ∙ even v (let l = (numbers_from-below 0 (length b.nodes) v h).1 in omega arith)))

pub some_uneven : {b : Basin} {series : Series} {a : CheckState} {t : ReadSoFar} (n amount : ℕ) → Keeps b series a t →
    a.has_supply ≡ true → (v : ℕ) × (v < length b.nodes) × (balances b (with_outflow a.month n amount) v ≡ false) →
    list_any (λ v. not (balances b (with_supply b series (with_outflow t.now n amount)) v)) (indices_of b.nodes) ≡ true
some_uneven {b} {series} {a} {t} n amount k has (v, l, fails) =
    over (indices_of b.nodes) (numbers_from-has 0 (length b.nodes) v v l (omega arith))
  where
    over : (xs : List ℕ) → Has xs v →
        list_any (λ v. not (balances b (with_supply b series (with_outflow t.now n amount)) v)) xs ≡ true
    over [] h = absurd h
    over (x ∷ xs) (inl is) = rw (← is, sym (read_balances n amount v k has) ∙ fails) refl
    over (x ∷ xs) (inr m) =
        or_right (not (balances b (with_supply b series (with_outflow t.now n amount)) x)) _ (over xs m)

pub uneven_is : {b : Basin} {series : Series} {a : CheckState} {t : ReadSoFar} (n amount : ℕ) (even : Bool) →
    Keeps b series a t → a.has_supply ≡ true →
    (even ≡ true → (v : ℕ) → v < length b.nodes → balances b (with_outflow a.month n amount) v ≡ true) →
    (even ≡ false → (v : ℕ) × (v < length b.nodes) × (balances b (with_outflow a.month n amount) v ≡ false)) →
    not even ≡ list_any (λ v. not (balances b (with_supply b series (with_outflow t.now n amount)) v))
    (indices_of b.nodes)
uneven_is n amount true k has all some = sym (all_even n amount k has (all refl))
uneven_is n amount false k has all some = sym (some_uneven n amount k has (some refl))

-- at the last outlet, and at no other
pub last_is : (b : Basin) {last n : ℕ} (p : Bool) →
    ((k : ℕ) → list_all (λ other. nat_le other k) (outlets b) ≡ nat_le last k) → last ≤ n →
    p ≡ (list_all (λ other. nat_le other n) (outlets b) && p)
last_is b {last} {n} p h l = sym (ap (λ q. q && p) (h n ∙ le-leb last n l))

-- Tight cuts.
