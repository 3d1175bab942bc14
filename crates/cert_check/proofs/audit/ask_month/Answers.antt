use Rattle.cert_check.proofs.audit.ask_month.Goals as goal

pub first_other-requires-clause-plan : goal.first_other-requires-clause-plan
first_other-requires-clause-plan c = c.requires.plan

pub first_other-requires-clause-roll : goal.first_other-requires-clause-roll
first_other-requires-clause-roll c = c.requires.roll

pub first_other-requires-clause-sets : goal.first_other-requires-clause-sets
first_other-requires-clause-sets c = c.requires.sets

pub first_other-requires-clause-search : goal.first_other-requires-clause-search
first_other-requires-clause-search c = c.requires.memory.search
