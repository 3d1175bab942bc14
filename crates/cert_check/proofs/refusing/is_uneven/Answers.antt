use Rattle.cert_check.proofs.Even.{uneven_is}
use Rattle.cert_check.proofs.refusing.is_uneven.Goals as goal

pub returns : goal.returns
returns c = λ t k. uneven_is c.args.node c.args.amount
    c.in_balance.result k c.requires.sums.supply c.in_balance.ensures.all c.in_balance.ensures.some

pub in_balance-requires-clause-sums : goal.in_balance-requires-clause-sums
in_balance-requires-clause-sums c = rw (c.as_slice.ensures, c.as_slice-2.ensures) c.requires.sums.sums
