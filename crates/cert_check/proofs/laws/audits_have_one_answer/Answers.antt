use Rattle.cert_check.proofs.AuditLaws.{audits_have_one_answer}
use Rattle.cert_check.proofs.laws.audits_have_one_answer.Goals as goal

pub returns : goal.returns
returns c = audits_have_one_answer
