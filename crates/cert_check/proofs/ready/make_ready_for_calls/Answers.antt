use Rattle.std.proofs.Common.{arith}
use Rattle.cert_check.proofs.FreeOfCalls.{not_after}
use Rattle.cert_check.proofs.ready.make_ready_for_calls.Goals as goal

pub returns-then-is_free_of_calls-clause-set : goal.returns-then-is_free_of_calls-clause-set
returns-then-is_free_of_calls-clause-set c = grind arith

pub returns-then-is_free_of_calls-clause-callers : goal.returns-then-is_free_of_calls-clause-callers
returns-then-is_free_of_calls-clause-callers c = grind (arith, not_after)

pub pass-requires-clause-context : goal.pass-requires-clause-context
pass-requires-clause-context c = c.requires.context

pub pass-requires-clause-item : goal.pass-requires-clause-item
pass-requires-clause-item c = c.requires.item

pub pass-requires-clause-awaits : goal.pass-requires-clause-awaits
pass-requires-clause-awaits c = c.requires.awaits

pub answer-requires-clause-context : goal.answer-requires-clause-context
answer-requires-clause-context c = c.requires.context

pub make_ready_for_set-requires-clause-context : goal.make_ready_for_set-requires-clause-context
make_ready_for_set-requires-clause-context c = c.requires.context
