use Rattle.std.proofs.Common.{arith}
use Rattle.water_model.proofs.Order.{length-by_seniority}
use Rattle.cert_check.proofs.Dues.{keeps_passed}
use Rattle.cert_check.proofs.Missing.{lacks_read}
use Rattle.cert_check.proofs.ready.pass.Goals as goal

pub pass_over-requires-clause-from : goal.pass_over-requires-clause-from
pass_over-requires-clause-from c = grind (arith, length-by_seniority)

pub returns-in-Some-clause-keeps : goal.returns-in-Some-clause-keeps
returns-in-Some-clause-keeps c = grind (arith, keeps_passed, length-by_seniority, lacks_read)
