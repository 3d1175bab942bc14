use Rattle.std.proofs.Common.{sym, ◌∙◌}
use Rattle.cert_check.proofs.MemberLines.{ready}
use Rattle.cert_check.proofs.ready.make_ready.Goals as goal

pub returns-in-Amount-clause-ready : goal.returns-in-Amount-clause-ready
returns-in-Amount-clause-ready c = record {
  set = λ other r is. c.make_ready_for_amount.ensures.supply
      (c.make_ready_for_calls.ensures.set other r (sym c.make_ready_for_amount.ensures.calling ∙ is));
  callers = λ after. c.make_ready_for_amount.ensures.callers ∙ c.make_ready_for_calls.ensures.callers after;
  own = rw c.in-Amount.is c.make_ready_for_amount.ensures.ready;
}

pub returns-then-is_member-clause-ready : goal.returns-then-is_member-clause-ready
returns-then-is_member-clause-ready c =
    ready c.args.context.now c.args.state.now c.args.item.now (sym c.is_member.ensures ∙ c.if-is_member.true)

pub make_ready_for_calls-requires-clause-context : goal.make_ready_for_calls-requires-clause-context
make_ready_for_calls-requires-clause-context c = c.requires.context

pub make_ready_for_calls-requires-clause-item : goal.make_ready_for_calls-requires-clause-item
make_ready_for_calls-requires-clause-item c = c.requires.item

pub make_ready_for_calls-requires-clause-awaits : goal.make_ready_for_calls-requires-clause-awaits
make_ready_for_calls-requires-clause-awaits c = c.requires.awaits

pub make_ready_for_amount-requires-clause-context : goal.make_ready_for_amount-requires-clause-context
make_ready_for_amount-requires-clause-context c = c.requires.context
