use Rattle.std.proofs.Common.{◌∙◌, arith}
use Rattle.cert_check.proofs.Even.{last_is}
use Rattle.cert_check.proofs.refusing.balance_wrong.Goals as goal

pub returns : goal.returns
returns c = λ t k. c.is_uneven.ensures t k ∙ last_is c.args.context.now.basin.now _ c.requires.context.last
    (omega (arith, c.if-node-context.false))

pub is_uneven-requires-clause-sums : goal.is_uneven-requires-clause-sums
is_uneven-requires-clause-sums c = c.requires.ready (omega (arith, c.if-node-context.false))
