use Rattle.cert_check.proofs.AuditLaws.{audited_exactly_for_reaches}
use Rattle.cert_check.proofs.laws.audited_exactly_for_reaches.Goals as goal

pub returns : goal.returns
returns c = audited_exactly_for_reaches
