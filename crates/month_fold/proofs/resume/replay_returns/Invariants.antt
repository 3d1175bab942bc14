use Rattle.std.proofs.Common.{map, take}
use Rattle.lag_returns.specs.Lags as lag
use Rattle.month_fold.proofs.resume.replay_returns.Given as goal

abbrev pub invariant-loop-month : goal.invariant-loop-month
invariant-loop-month l =
    lag.LagsStandFor l.lags l.basin.returns (map (λ m. m.delivered) (map (λ m. m.value) (take l.month-index l.months)))
