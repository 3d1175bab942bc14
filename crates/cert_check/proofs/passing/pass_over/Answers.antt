use Rattle.std.proofs.Common.{arith}
use Rattle.cut_cert.proofs.Search.{order_in_range}
use Rattle.cert_check.proofs.passing.pass_over.Goals as goal

pub passes-requires-clause-right : goal.passes-requires-clause-right
passes-requires-clause-right c =
    order_in_range c.args.basin.now.rights c.args.order.now c.loop-at.at c.requires.order
    (omega (arith, c.loop-at-test.true))

pub lacks_call-requires-clause-right : goal.lacks_call-requires-clause-right
lacks_call-requires-clause-right c = grind (arith, order_in_range)

pub lacks_call-requires-clause-basin : goal.lacks_call-requires-clause-basin
lacks_call-requires-clause-basin c = c.requires.basin
