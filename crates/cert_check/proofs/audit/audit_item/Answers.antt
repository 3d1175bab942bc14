use Rattle.cert_check.proofs.audit.audit_item.Goals as goal

pub know_supply-requires-clause-context : goal.know_supply-requires-clause-context
know_supply-requires-clause-context c = c.requires.context

pub ask_month-requires-clause-memory : goal.ask_month-requires-clause-memory
ask_month-requires-clause-memory c = c.requires.memory

pub ask_month-requires-clause-roll : goal.ask_month-requires-clause-roll
ask_month-requires-clause-roll c = c.requires.context.roll

pub know_supply-requires-clause-month : goal.know_supply-requires-clause-month
know_supply-requires-clause-month c =
    let e = c.requires.ends c.in-End.is in
    record { so_far = e.so_far; keeps = e.keeps; partial = e.partial; under_way = e.under_way }
