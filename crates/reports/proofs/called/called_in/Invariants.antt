use Rattle.std.proofs.Common.{◌≡◌, ◌≤◌}
use Rattle.std.specs.Prelude.{count_by, is_some}
use Rattle.water_model.specs.Indices.{numbers_from}
use Rattle.water_model.specs.History.{calling_right}
use Rattle.reports.proofs.called.called_in.Given as goal

abbrev pub invariant-loop-right : goal.invariant-loop-right
invariant-loop-right l = record {
  value : l.count ≡ count_by (λ right. is_some (calling_right l.basin l.month right)) (numbers_from 0 l.right);
  bounded : l.count ≤ l.right;
}
