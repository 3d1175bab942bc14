use Rattle.cert_check.proofs.AuditKinds.{not_reach_names_other_sets}
use Rattle.cert_check.proofs.laws.not_reach_names_other_sets.Goals as goal

pub returns : goal.returns
returns c = not_reach_names_other_sets
