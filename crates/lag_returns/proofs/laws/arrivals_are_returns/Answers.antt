use Rattle.lag_returns.proofs.ValidRows.{arrivals_are_returns}
use Rattle.lag_returns.proofs.laws.arrivals_are_returns.Goals as goal

pub returns : goal.returns
returns c = arrivals_are_returns
