use Rattle.cert_check.proofs.refusing.own_row.Goals as goal

pub quantity_wrong-requires-clause-context : goal.quantity_wrong-requires-clause-context
quantity_wrong-requires-clause-context c = c.requires.context
