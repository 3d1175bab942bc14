use Rattle.std.proofs.Common.{sym, arith}
use Rattle.water_model.proofs.Order.{length-by_seniority}
use Rattle.cert_check.proofs.Missing.{none_missed, some_missed}
use Rattle.cert_check.proofs.refusing.cut_missing.Goals as goal

pub pass_over-requires-clause-from : goal.pass_over-requires-clause-from
pass_over-requires-clause-from c = grind (arith, length-by_seniority)

pub returns-in-Some : goal.returns-in-Some
returns-in-Some c = λ t k. sym (none_missed c.requires.context.valid k c.in-Some.ensures)

pub returns-in-None : goal.returns-in-None
returns-in-None c = λ t k. sym (some_missed k c.in-None.ensures)
