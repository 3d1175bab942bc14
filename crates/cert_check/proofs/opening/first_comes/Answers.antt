use Rattle.std.proofs.Common.{[]}
use Rattle.cert_check.proofs.opening.first_comes.Goals as goal

pub returns : goal.returns
returns c = c.write_returns.ensures.each [] c.requires.lags
