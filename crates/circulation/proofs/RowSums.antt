-- A sum over the steps of a row is one over arcs.
use Rattle.std.proofs.Common.{ℕ, Fits, w64, Bool, true, false, ◌==◌, ◌≡◌, ◌+◌, ◌-◌, ◌*◌, ◌%◌, ◌^◌, ◌<◌}
use Rattle.std.proofs.Common.{◌≤◌, List, length, slice_index, arith, ap, sym, subst, inl, inr, ◌∙◌}
use Rattle.std.proofs.lemmas.Bool.{cases_eq, cases_Bool, eq-eqb, ne_eqb, eqb-true}
use Rattle.finite_sums.specs.Sums.{total, when}
use Rattle.finite_sums.proofs.Totals.{total_more, total_same, total_zero, total_exchange, total_pick, total_most}
use Rattle.circulation.specs.Residual.{arc_of, by_direction}
use Rattle.circulation.specs.Rows.{Rows, IsInRow, IsRow}

-- no test is true and false
clash : {t : Bool} → t ≡ true → t ≡ false → ⊥
clash is fails = let e : true ≡ false = sym is ∙ fails in cc

-- what is known of indices: those that pass a test have numbers of arcs, and each arc with the key v has one index
record AreNumbered (n arcs v : ℕ) (at number key : ℕ → ℕ) (test : ℕ → Bool) : Type 0 where
  passes : (k : ℕ) → k < n → test (at k) ≡ true → (arc_of (at k) < arcs) × (at k ≡ number (arc_of (at k)))
  numbers : (k a : ℕ) → k < n → a < arcs → at k ≡ number a → (test (at k) ≡ true) × ((key a ≡ v) × (arc_of (at k) ≡ a))
  place : (a : ℕ) → a < arcs → key a ≡ v → (k : ℕ) × ((k < n) × (at k ≡ number a))
  once : (j k : ℕ) → j < n → k < n → at j ≡ at k → j ≡ k

-- the sum over the indices that pass is that over the arcs with the key
sum_over : (n arcs v : ℕ) (at number key g : ℕ → ℕ) (test : ℕ → Bool) → AreNumbered n arcs v at number key test →
    total n (λ k. when (test (at k)) (g (arc_of (at k)))) ≡ total arcs (λ a. when (key a == v) (g a))
sum_over n arcs v at number key g test h =
    let f : ℕ → ℕ → ℕ = λ k a. when (at k == number a) (g a) in
    let by_place : (k : ℕ) → k < n → when (test (at k)) (g (arc_of (at k))) ≡ total arcs (λ a. f k a) =
    λ k b. elim (cases_Bool (test (at k))) [
      | inl passes ↦
          let p = h.passes k b passes in
          ap (λ (t : Bool). when t (g (arc_of (at k)))) passes ∙ sym (total_pick arcs (arc_of (at k)) (λ a. f k a) p.0
          (λ a c ne. ap (λ (t : Bool). when t (g a)) (ne_eqb (at k) (number a)
          (λ e. ne (sym (h.numbers k a b c e).1.1)))) ∙ ap
          (λ (t : Bool). when t (g (arc_of (at k)))) (eq-eqb (at k) (number (arc_of (at k))) p.1))
      | inr fails ↦
          ap (λ (t : Bool). when t (g (arc_of (at k)))) fails
          ∙ sym (total_zero arcs (λ a. f k a) (λ a c. ap (λ (t : Bool). when t (g a))
          (ne_eqb (at k) (number a) (λ e. absurd (clash (h.numbers k a b c e).0 fails)))))
    ] in
    let by_arc : (a : ℕ) → a < arcs → when (key a == v) (g a) ≡ total n (λ k. f k a) =
    λ a c. elim (cases_eq (key a) v) [
      | inl is ↦
          let p = h.place a c is in
          ap (λ (t : Bool). when t (g a)) (eq-eqb (key a) v is) ∙ sym (total_pick n p.0 (λ k. f k a) p.1.0
          (λ k b ne. ap (λ (t : Bool). when t (g a)) (ne_eqb (at k) (number a)
          (λ e. ne (h.once k p.0 b p.1.0 (e ∙ sym p.1.1)))))
          ∙ ap (λ (t : Bool). when t (g a)) (eq-eqb (at p.0) (number a) p.1.1))
      | inr ne ↦
          ap (λ (t : Bool). when t (g a)) (ne_eqb (key a) v ne)
          ∙ sym (total_zero n (λ k. f k a) (λ k b. ap (λ (t : Bool). when t (g a))
          (ne_eqb (at k) (number a) (λ e. ne (h.numbers k a b c e).1.0))))
    ] in
    total_same n _ _ by_place ∙ total_exchange n arcs f ∙ sym (total_same arcs _ _ by_arc)

-- the node that a step over an arc leaves, forward for 0 and backward for 1
abbrev pub left_by : ℕ → List ℕ → List ℕ → ℕ → ℕ
left_by way from to a = by_direction (way == 1) (slice_index from a) (slice_index to a)

-- the steps of a row that go one way go over the arcs that leave its node that way
pub row_flow : {from to : List ℕ} {r : Rows} {v : ℕ} (way : ℕ) (g : ℕ → ℕ) → way < 2 → IsRow from to r v →
    total (slice_index r.first (v + 1) - slice_index r.first v)
    (λ k. when (slice_index r.step (slice_index r.first v + k) % 2 == way)
    (g (arc_of (slice_index r.step (slice_index r.first v + k)))))
    ≡ total (length from) (λ a. when (left_by way from to a == v) (g a))
row_flow {from} {to} {r} {v} way g small row =
    let first = slice_index r.first v in
    let last = slice_index r.first (v + 1) in
    let n = last - first in
    let at : ℕ → ℕ = λ k. slice_index r.step (first + k) in
    let order = row.order in
    let inside : (k : ℕ) → k < n → IsInRow r v (first + k) = λ k b. record
    { from = omega arith; below = omega arith } in
    sum_over n (length from) v at (λ a. 2 * a + way) (left_by way from to) g (λ s. s % 2 == way) record {
      passes = λ k b is.
          let rest = eqb-true (at k % 2) way is in
          ((row.leads (first + k) (inside k b)).arc, omega (arith, rest));
      numbers = λ k a b c is.
          let rest : at k % 2 ≡ way = omega (arith, is, small) in
          let arc : arc_of (at k) ≡ a = omega (arith, is, small) in (
            eq-eqb (at k % 2) way rest,
            (
              ap (left_by way from to) (sym arc) ∙ ap (λ (x : ℕ). left_by x from to (arc_of (at k))) (sym rest)
                  ∙ (row.leads (first + k) (inside k b)).start,
              arc,
            ),
          );
      place = λ a b is.
          let arc : arc_of (2 * a + way) ≡ a = omega arith in
          let rest : (2 * a + way) % 2 ≡ way = omega arith in
          let p = row.all (2 * a + way) (omega (arith, arc))
          (ap (λ (x : ℕ). left_by x from to (arc_of (2 * a + way))) rest ∙ ap (left_by way from to) arc ∙ is) in
          let from = p.1.0.from in
          let below = p.1.0.below in
          let there : first + (p.0 - first) ≡ p.0 = omega arith in
          (p.0 - first, (omega arith, ap (slice_index r.step) there ∙ p.1.1));
      once = λ j k b c e. let same = row.once (first + j) (first + k) (inside j b) (inside k c) e in omega arith;
    }

-- the sum of the amounts of the arcs over which the steps before an index in a row go, of the steps that pass a test
pub record IsRowSum (r : Rows) (amounts : List ℕ) (v : ℕ) (test : ℕ → Bool) (place sum : ℕ) : Type 0 where
  pub from : slice_index r.first v ≤ place
  pub is : sum ≡ total (place - slice_index r.first v) (λ k. when
      (test (slice_index r.step (slice_index r.first v + k)))
      (slice_index amounts (arc_of (slice_index r.step (slice_index r.first v + k)))))

-- before the first step
pub row_sum_start : (r : Rows) (amounts : List ℕ) (v : ℕ) (test : ℕ → Bool) {place : ℕ} →
    place ≡ slice_index r.first v → IsRowSum r amounts v test place 0
row_sum_start r amounts v test {place} is =
    let none : place - slice_index r.first v ≡ 0 = omega arith in
    record { from = omega arith; is = sym (total_zero (place - slice_index r.first v) _ (λ k b. absurd (omega arith))) }

-- one more step was tried
pub row_sum_next : {r : Rows} {amounts : List ℕ} {v : ℕ} {test : ℕ → Bool} {place sum : ℕ} →
    IsRowSum r amounts v test place sum →
    IsRowSum r amounts v test (place + 1) (sum + when (test (slice_index r.step place))
    (slice_index amounts (arc_of (slice_index r.step place))))
row_sum_next {r} {amounts} {v} {test} {place} s =
    let first = slice_index r.first v in
    let f : ℕ → ℕ = λ k. when (test (slice_index r.step (first + k)))
    (slice_index amounts (arc_of (slice_index r.step (first + k)))) in
    let from = s.from in
    let more : place + 1 - first ≡ place - first + 1 = omega arith in
    let here : first + (place - first) ≡ place = omega arith in
    let last : f (place - first) ≡ when (test (slice_index r.step place))
    (slice_index amounts (arc_of (slice_index r.step place))) =
    ap (λ (p : ℕ). when (test (slice_index r.step p)) (slice_index amounts (arc_of (slice_index r.step p)))) here in
    record {
      from = omega arith;
      is = omega (arith, s.is, ap (λ (n : ℕ). total n f) more, total_more (place - first) f, last);
    }

-- one more step passed the test
pub row_sum_on : {r : Rows} {amounts : List ℕ} {v : ℕ} {test : ℕ → Bool} {place sum s more : ℕ} →
    IsRowSum r amounts v test place sum → s ≡ slice_index r.step place → test s ≡ true →
    more ≡ sum + slice_index amounts (arc_of s) → IsRowSum r amounts v test (place + 1) more
row_sum_on {r} {amounts} {v} {test} {place} {s} before is passes made =
    let amount : ℕ → ℕ = λ x. slice_index amounts (arc_of x) in
    subst (λ (n : ℕ). IsRowSum r amounts v test (place + 1) n) (omega (
      arith,
      made,
      ap (λ (x : ℕ). when (test x) (amount x)) (sym is),
      ap (λ (t : Bool). when t (amount s)) passes,
    )) (row_sum_next before)

-- one more step failed it
pub row_sum_off : {r : Rows} {amounts : List ℕ} {v : ℕ} {test : ℕ → Bool} {place sum s more : ℕ} →
    IsRowSum r amounts v test place sum → s ≡ slice_index r.step place → test s ≡ false → more ≡ sum →
    IsRowSum r amounts v test (place + 1) more
row_sum_off {r} {amounts} {v} {test} {place} {s} before is fails made =
    let amount : ℕ → ℕ = λ x. slice_index amounts (arc_of x) in
    subst (λ (n : ℕ). IsRowSum r amounts v test (place + 1) n) (omega (
      arith,
      made,
      ap (λ (x : ℕ). when (test x) (amount x)) (sym is),
      ap (λ (t : Bool). when t (amount s)) fails,
    )) (row_sum_next before)

-- a test keeps a bound
when_le : (t : Bool) (x m : ℕ) → x ≤ m → when t x ≤ m
when_le true x m h = h
when_le false x m h = omega arith

-- a sum of words over indices that are words
pub row_sum_small : {r : Rows} {amounts : List ℕ} {v : ℕ} {test : ℕ → Bool} {place sum : ℕ} →
    ((a : ℕ) → Fits w64 (slice_index amounts a)) → IsRowSum r amounts v test place sum → sum ≤ place * 2 ^ 64
row_sum_small {r} {amounts} {v} {test} {place} fits s =
    let first = slice_index r.first v in
    let each = total_most (place - first) (2 ^ 64)
    (λ k. when (test (slice_index r.step (first + k))) (slice_index amounts (arc_of (slice_index r.step (first + k)))))
    (λ k l. when_le (test (slice_index r.step (first + k))) (slice_index amounts
    (arc_of (slice_index r.step (first + k)))) (2 ^ 64)
    (omega (arith, fits (arc_of (slice_index r.step (first + k)))))) in
    omega (arith, each, s.is)

-- what arcs with words as amounts carry
pub amounts_small : (n : ℕ) (test : ℕ → Bool) (amounts : List ℕ) → ((a : ℕ) → Fits w64 (slice_index amounts a)) →
    total n (λ a. when (test a) (slice_index amounts a)) ≤ n * 2 ^ 64
amounts_small n test amounts fits = total_most n (2 ^ 64) (λ a. when (test a) (slice_index amounts a))
    (λ a l. when_le (test a) (slice_index amounts a) (2 ^ 64) (omega (arith, fits a)))

-- at the end of the row
pub row_sum_all : {r : Rows} {amounts : List ℕ} {v : ℕ} {test : ℕ → Bool} {place sum : ℕ} →
    place ≡ slice_index r.first (v + 1) → IsRowSum r amounts v test place sum →
    sum ≡ total (slice_index r.first (v + 1) - slice_index r.first v)
    (λ k. when (test (slice_index r.step (slice_index r.first v + k)))
    (slice_index amounts (arc_of (slice_index r.step (slice_index r.first v + k)))))
row_sum_all {r} {amounts} {v} {test} end s =
    let first = slice_index r.first v in
    s.is ∙ ap (λ (p : ℕ). total (p - first) (λ k. when (test (slice_index r.step (first + k)))
    (slice_index amounts (arc_of (slice_index r.step (first + k)))))) end
