use Rattle.std.proofs.Common.{◌≡◌, map, take}
use Rattle.lag_returns.specs.ReturnFlows.{fresh}
use Rattle.lag_returns.proofs.Lags.open.Given as goal

abbrev pub invariant-loop-row : goal.invariant-loop-row
invariant-loop-row l = l.flows.items ≡ map fresh (take l.row-index l.rows)
