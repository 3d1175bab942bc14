use Rattle.std.proofs.Common.{◌≡◌}
use Rattle.lag_returns.specs.Lags.{return_rows}
use Rattle.tests_networks.proofs.lags.compare_months.Given as goal

abbrev pub invariant-loop-delivered : goal.invariant-loop-delivered
invariant-loop-delivered g l =
    (goal.iterator-loop-delivered g).can_next l.delivered-iterator ×
    (goal.iterator-loop-delivered g).is_finite l.delivered-iterator ×
    (return_rows l.lags ≡ return_rows l.initial.lags)
