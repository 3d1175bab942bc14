use Rattle.cert_check.proofs.Dues.{keeps_callers}
use Rattle.cert_check.proofs.ready.find_callers.Goals as goal

pub returns-clause-keeps : goal.returns-clause-keeps
returns-clause-keeps c = λ t k. keeps_callers k c.callers_by_node-state.ensures
