use Rattle.std.proofs.Common.{◌≡◌, ℕ, ◌<◌, length, take}
use Rattle.std.specs.Prelude.{◌==◌}
use Rattle.std.specs.List.{list_any}
use Rattle.water_model.specs.Lookups.{has}
use Rattle.result_lines.proofs.quantity.returned_to.Given as goal

abbrev pub invariant-loop-row : goal.invariant-loop-row
invariant-loop-row l = record {
  count : length l.marks ≡ 2000;
  each : (n : ℕ) → n < length l.basin.nodes →
      has l.marks n ≡ list_any (λ row. row.node == n) (take l.row-index l.basin.returns);
}
