use Rattle.lag_returns.proofs.ValidRows.{valid_rows}
use Rattle.lag_returns.proofs.laws.valid_rows_are_lagged.Goals as goal

pub returns : goal.returns
returns c = valid_rows
