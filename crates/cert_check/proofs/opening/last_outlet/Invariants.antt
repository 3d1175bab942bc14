use Rattle.std.proofs.Common.{◌≡◌, ◌≤◌, ℕ}
use Rattle.std.specs.Prelude.{nat_le, filter}
use Rattle.std.specs.List.{list_all}
use Rattle.water_model.specs.Basin.{is_outlet}
use Rattle.water_model.specs.Indices.{numbers_from}
use Rattle.cert_check.proofs.opening.last_outlet.Given as goal

abbrev pub invariant-loop-node : goal.invariant-loop-node
invariant-loop-node l = record {
  last : (n : ℕ) →
      list_all (λ other. nat_le other n) (filter (λ v. is_outlet l.basin v) (numbers_from 0 l.node)) ≡ nat_le l.last n;
  most : l.last ≤ l.node;
}
