use Rattle.cert_check.proofs.ready.make_ready_for_amount.Goals as goal

pub returns-in-Outflow-clause-ready : goal.returns-in-Outflow-clause-ready
returns-in-Outflow-clause-ready c = rw c.in-Outflow.is c.know_sums_at.ensures.sums

pub know_sums_at-requires-clause-context : goal.know_sums_at-requires-clause-context
know_sums_at-requires-clause-context c = c.requires.context

pub know_sums_at-requires-clause-month : goal.know_sums_at-requires-clause-month
know_sums_at-requires-clause-month c = c.requires.month

pub know_closes-requires-clause-context : goal.know_closes-requires-clause-context
know_closes-requires-clause-context c = c.requires.context

pub know_closes-requires-clause-month : goal.know_closes-requires-clause-month
know_closes-requires-clause-month c = c.requires.month
