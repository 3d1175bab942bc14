use Rattle.cert_check.proofs.Audits.{nothing_audited}
use Rattle.cert_check.proofs.checker.Checker.open_audit.Goals as goal

pub open_with-requires-clause-audit : goal.open_with-requires-clause-audit
open_with-requires-clause-audit c = nothing_audited c.in_ok-audit.ensures.memory c.in_ok-audit.ensures.none
