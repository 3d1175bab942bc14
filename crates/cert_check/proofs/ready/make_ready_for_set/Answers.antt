use Rattle.std.proofs.Common.{ap}
use Rattle.cert_check.proofs.ready.make_ready_for_set.Goals as goal

pub returns-in-Some-clause-ready : goal.returns-in-Some-clause-ready
returns-in-Some-clause-ready c = λ other r is. ap (λ a. a.has_supply) c.know_supply.ensures.rest

pub know_supply-requires-clause-context : goal.know_supply-requires-clause-context
know_supply-requires-clause-context c = c.requires.context
