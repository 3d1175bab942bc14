-- Counts in closed form are those of the indices.
use Rattle.std.proofs.Common.{◌≡◌, ℕ, zero, suc, ◌+◌, ◌-◌, ◌/◌, ◌%◌, false, refl, sym, ap, ◌∙◌, arith}
use Rattle.std.specs.Prelude.{◌==◌, not, if◌then◌else◌}
use Rattle.std.proofs.lemmas.Bool.Decides.{nat_tests}
use Rattle.finite_sums.specs.Sums.{total, count_where}
use Rattle.basin_gen.specs.Generator.{draws_of_node, draws_of_nodes, draws_of_turns, count_of_diversions}
use Rattle.basin_gen.specs.Generator.{turn_of_diversion}
use Rattle.basin_gen.specs.Laws.{CountsAreOfPlaces}

-- a number that begins at 0 and grows as the terms say is their sum
grown : (f count : ℕ → ℕ) → count 0 ≡ 0 → ((n : ℕ) → count (n + 1) ≡ count n + f n) → (n : ℕ) → count n ≡ total n f
unfolding total
grown f count start more zero = start
grown f count start more (suc n) =
    let step : count (suc n) ≡ count (n + 1) = ap count (omega arith) in
    let rest = grown f count start more n in
    omega (arith, more n)

fourths : (n : ℕ) → (n + 1 + 2) / 4 ≡ (n + 2) / 4 + (if n % 4 == 1 then 1 else 0)
fourths n = grind (arith, nat_tests)

fortieths : (n : ℕ) → (n + 1 + 19) / 40 ≡ (n + 19) / 40 + (if n % 40 == 20 then 1 else 0)
fortieths n = grind (arith, nat_tests)

diversion_more : (n : ℕ) → n + 1 - (n + 1) / 4 ≡ n - n / 4 + (if not (n % 4 == 3) then 1 else 0)
diversion_more n = grind (arith, nat_tests)

instream_more : (n : ℕ) → (n + 1) / 4 ≡ n / 4 + (if n % 4 == 3 then 1 else 0)
instream_more n = grind (arith, nat_tests)

return_more : (n : ℕ) → (n + 1 + 3) / 4 ≡ (n + 3) / 4 + (if n % 4 == 0 then 1 else 0)
return_more n = grind (arith, nat_tests)

node_more : (n : ℕ) → draws_of_nodes (n + 1) ≡ draws_of_nodes n + draws_of_node n
node_more n = grind (arith, nat_tests)

turn_more : (n : ℕ) → draws_of_turns (n + 1) ≡ draws_of_turns n + (if n % 4 == 0 then 6 else 3)
turn_more n = grind (arith, nat_tests)

no_instream : (d : ℕ) → (turn_of_diversion d % 4 == 3) ≡ false
no_instream d = let other : (d + d / 3) % 4 ≡ 3 → ⊥ = (λ (h : (d + d / 3) % 4 ≡ 3). omega arith) in
    by ((d + d / 3) % 4) other
  where
    by : (n : ℕ) → (n ≡ 3 → ⊥) → (n == 3) ≡ false
    by n h = grind (arith, nat_tests)

diversions : (n : ℕ) → count_of_diversions n ≡ count_where n (λ k. not (k % 4 == 3))
diversions = grown (λ k. if not (k % 4 == 3) then 1 else 0) (λ n. n - n / 4) refl diversion_more

pub counts_are_of_places : CountsAreOfPlaces
counts_are_of_places = record {
  canals = λ size some.
      let shift : (size + 1) / 4 ≡ (size - 1 + 2) / 4 = ap (λ n. n / 4) (omega arith) in
      shift ∙ grown (λ i. if i % 4 == 1 then 1 else 0) (λ n. (n + 2) / 4) refl fourths (size - 1);
  reservoirs = λ size some.
      let shift : (size + 18) / 40 ≡ (size - 1 + 19) / 40 = ap (λ n. n / 40) (omega arith) in
      shift ∙ grown (λ i. if i % 40 == 20 then 1 else 0) (λ n. (n + 19) / 40) refl fortieths (size - 1);
  diversions = diversions;
  instreams = grown (λ k. if k % 4 == 3 then 1 else 0) (λ n. n / 4) refl instream_more;
  returns = grown (λ k. if k % 4 == 0 then 1 else 0) (λ n. (n + 3) / 4) refl return_more;
  turn = λ d. sym (diversions (turn_of_diversion d)) ∙ back d;
  makes = no_instream;
  node_draws = grown draws_of_node draws_of_nodes refl node_more;
  turn_draws = grown (λ t. if t % 4 == 0 then 6 else 3) draws_of_turns refl turn_more;
}
  where
    back : (d : ℕ) → d + d / 3 - (d + d / 3) / 4 ≡ d
    back d = omega arith
