use Rattle.std.proofs.Common.{arith}
use Rattle.water_model.proofs.Order.{length-by_seniority}
use Rattle.cert_check.proofs.entering.enter_called.Goals as goal

pub overflow_add-state : goal.overflow_add-state
overflow_add-state c = grind (arith, length-by_seniority)
