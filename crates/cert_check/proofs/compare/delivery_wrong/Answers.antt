use Rattle.cert_check.proofs.compare.delivery_wrong.Goals as goal

pub amount_wrong-requires-clause-basin : goal.amount_wrong-requires-clause-basin
amount_wrong-requires-clause-basin c = c.requires.basin

pub want_of-requires-clause-basin : goal.want_of-requires-clause-basin
want_of-requires-clause-basin c = c.requires.basin

pub want_of-requires-clause-series : goal.want_of-requires-clause-series
want_of-requires-clause-series c = c.requires.series

pub want_of-requires-clause-right : goal.want_of-requires-clause-right
want_of-requires-clause-right c = c.requires.right

pub want_of-requires-clause-index : goal.want_of-requires-clause-index
want_of-requires-clause-index c = c.requires.index

pub amount_wrong-requires-clause-right : goal.amount_wrong-requires-clause-right
amount_wrong-requires-clause-right c = c.requires.right

pub amount_wrong-requires-clause-flow : goal.amount_wrong-requires-clause-flow
amount_wrong-requires-clause-flow c = rw c.as_slice.ensures c.requires.flow
