use Rattle.std.proofs.Common.{arith}
use Rattle.cert_check.proofs.Bounded.{node_small}
use Rattle.cert_check.proofs.Dues.{keeps_supply}
use Rattle.cert_check.proofs.ready.know_supply.Goals as goal

pub make_supply-requires-clause-small : goal.make_supply-requires-clause-small
make_supply-requires-clause-small c = grind (arith, node_small)

pub returns-then-not-state-clause-keeps : goal.returns-then-not-state-clause-keeps
returns-then-not-state-clause-keeps c = λ t k. rw c.make_supply.ensures (keeps_supply k)
