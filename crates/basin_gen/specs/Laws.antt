-- How many entries and draws there are.
use Rattle.std.specs.Prelude.{◌≡◌, ℕ, ◌-◌, ◌%◌, ◌≤◌, ◌==◌, false, not, if◌then◌else◌}
use Rattle.finite_sums.specs.Sums.{total, count_where}
use Rattle.basin_gen.specs.Generator.{draws_of_node, draws_of_nodes, draws_of_turns, count_of_canals}
use Rattle.basin_gen.specs.Generator.{count_of_reservoirs, count_of_diversions, count_of_instreams, count_of_returns}
use Rattle.basin_gen.specs.Generator.{turn_of_diversion}

-- each node but the last whose number passes has a canal or a reservoir; each turn whose number passes makes a
-- diversion, an instream right or a return row; the turn of diversion d is one that makes a diversion, and d turns
-- before it do; the draws before a node or turn are those of all nodes or turns before it
pub record CountsAreOfPlaces : Type 0 where
  pub canals : (size : ℕ) → 1 ≤ size → count_of_canals size ≡ count_where (size - 1) (λ i. i % 4 == 1)
  pub reservoirs : (size : ℕ) → 1 ≤ size → count_of_reservoirs size ≡ count_where (size - 1) (λ i. i % 40 == 20)
  pub diversions : (turns : ℕ) → count_of_diversions turns ≡ count_where turns (λ k. not (k % 4 == 3))
  pub instreams : (turns : ℕ) → count_of_instreams turns ≡ count_where turns (λ k. k % 4 == 3)
  pub returns : (turns : ℕ) → count_of_returns turns ≡ count_where turns (λ k. k % 4 == 0)
  pub turn : (d : ℕ) → count_where (turn_of_diversion d) (λ k. not (k % 4 == 3)) ≡ d
  pub makes : (d : ℕ) → (turn_of_diversion d % 4 == 3) ≡ false
  pub node_draws : (i : ℕ) → draws_of_nodes i ≡ total i draws_of_node
  pub turn_draws : (k : ℕ) → draws_of_turns k ≡ total k (λ t. if t % 4 == 0 then 6 else 3)
