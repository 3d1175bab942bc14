-- Numbers that differ are no more than there are numbers.
use Rattle.std.proofs.Common.{ℕ, zero, suc, Bool, ◌==◌, ◌≡◌, ◌≢◌, ◌+◌, ◌<◌, ◌≤◌, refl, arith, ap, sym, inl, inr, ◌∙◌}
use Rattle.std.proofs.lemmas.Bool.{eq-eqb, ne_eqb}
use Rattle.std.proofs.lemmas.Bool.Decides.{eqb_tells}
use Rattle.finite_sums.specs.Sums.{total, when}
use Rattle.finite_sums.proofs.Counts.{total_ones}
use Rattle.finite_sums.proofs.Totals.{total_le, total_same, total_zero, total_add, total_exchange, total_pick}

-- how often a number is among others
abbrev times : ℕ → (ℕ → ℕ) → ℕ → ℕ
times n f x = total n (λ k. when (f k == x) 1)

-- a number that is not among them
times_none : (n : ℕ) (f : ℕ → ℕ) (x : ℕ) → ((k : ℕ) → k < n → f k ≢ x) → times n f x ≡ 0
times_none n f x other = total_zero n (λ k. when (f k == x) 1)
    (λ k b. ap (λ (t : Bool). when t 1) (ne_eqb (f k) x (other k b)))

-- where no two are the same
times_once : (n : ℕ) (f : ℕ → ℕ) (x : ℕ) → ((j k : ℕ) → j < k → k < n → f j ≢ f k) → times n f x ≤ 1
unfolding total
times_once zero f x apart = omega arith
times_once (suc n) f x apart = elim (eqb_tells (f n) x) [
  | inl e ↦
      let none = times_none n f x (λ k b same. apart k n b (omega arith) (same ∙ sym e.1)) in
      omega (arith, none, ap (λ (t : Bool). when t 1) e.0)
  | inr e ↦
      let before = times_once n f x (λ j k b c. apart j k b (omega arith)) in
      omega (arith, before, ap (λ (t : Bool). when t 1) e.0)
]

-- the number of them is the sum over all numbers
times_all : (n m : ℕ) (f : ℕ → ℕ) → ((k : ℕ) → k < n → f k < m) → total m (times n f) ≡ n
times_all n m f below =
    sym (total_exchange n m (λ k x. when (f k == x) 1)) ∙ total_same n (λ k. total m (λ x. when (f k == x) 1)) (λ k. 1)
    (λ k b. total_pick m (f k) (λ x. when (f k == x) 1) (below k b)
    (λ x c ne. ap (λ (t : Bool). when t 1) (ne_eqb (f k) x (λ e. ne (sym e))))
    ∙ ap (λ (t : Bool). when t 1) (eq-eqb (f k) (f k) refl)) ∙ total_ones n

-- where one more number is not among them, they are fewer than there are
pub room_for_one : (n m : ℕ) (f : ℕ → ℕ) (s : ℕ) → ((k : ℕ) → k < n → f k < m) → s < m →
    ((j k : ℕ) → j < k → k < n → f j ≢ f k) → ((k : ℕ) → k < n → f k ≢ s) → n < m
room_for_one n m f s below inside apart other =
    let one : ℕ → ℕ = λ x. when (s == x) 1 in
    let each : (x : ℕ) → x < m → times n f x + one x ≤ 1 = λ x b. elim (eqb_tells s x) [
      | inl e ↦
          let none = times_none n f x (λ k c same. other k c (same ∙ sym e.1)) in
          omega (arith, none, ap (λ (t : Bool). when t 1) e.0)
      | inr e ↦ omega (arith, times_once n f x apart, ap (λ (t : Bool). when t 1) e.0)
    ] in
    let most = total_le m (λ x. times n f x + one x) (λ x. 1) each in
    let single = total_pick m s one inside (λ x c ne. ap (λ (t : Bool). when t 1) (ne_eqb s x (λ e. ne (sym e))))
    ∙ ap (λ (t : Bool). when t 1) (eq-eqb s s refl) in
    omega (arith, most, total_add m (times n f) one, times_all n m f below, single, total_ones m)
