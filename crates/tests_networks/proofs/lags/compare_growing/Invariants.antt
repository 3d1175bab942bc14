use Rattle.std.proofs.Common.{◌≡◌}
use Rattle.lag_returns.specs.Lags.{return_rows}
use Rattle.tests_networks.proofs.lags.compare_growing.Given as goal

abbrev pub invariant-loop-i : goal.invariant-loop-i
invariant-loop-i g l = return_rows l.lags ≡ return_rows l.initial.lags
