use Rattle.lag_returns.proofs.ValidRows.{returns_are_small}
use Rattle.lag_returns.proofs.laws.returns_are_small.Goals as goal

pub returns : goal.returns
returns c = returns_are_small
