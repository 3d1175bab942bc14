use Rattle.cert_check.proofs.ready.know_sums_at.Goals as goal

pub know_sums-requires-clause-context : goal.know_sums-requires-clause-context
know_sums-requires-clause-context c = c.requires.context

pub know_sums-requires-clause-month : goal.know_sums-requires-clause-month
know_sums-requires-clause-month c = c.requires.month
