use Rattle.std.proofs.Common.{sym, ◌∙◌}
use Rattle.cert_check.specs.Checking.{call_rows, own_rows}
use Rattle.cert_check.proofs.Rows.{first_is, some_first, none_first}
use Rattle.cert_check.proofs.FreeOfCalls.{free_parts, no_call_row}
use Rattle.cert_check.proofs.MemberLines.{no_row}
use Rattle.cert_check.proofs.refusing.first_row.Goals as goal

pub returns-in-Some : goal.returns-in-Some
returns-in-Some c = λ t k m. sym (first_is c.args.context.now.basin.now c.args.context.now.series.now t c.args.item.now
    ∙ some_first (call_rows c.args.context.now.basin.now c.args.context.now.series.now t c.args.item.now)
    (own_rows c.args.context.now.basin.now c.args.context.now.series.now t c.args.item.now)
    (sym (c.in-Some.ensures t k)))

pub returns-in-None : goal.returns-in-None
returns-in-None c = λ t k m. c.own_row-in-None.ensures t k m
    ∙ sym (first_is c.args.context.now.basin.now c.args.context.now.series.now t c.args.item.now
    ∙ none_first (call_rows c.args.context.now.basin.now c.args.context.now.series.now t c.args.item.now)
    (own_rows c.args.context.now.basin.now c.args.context.now.series.now t c.args.item.now)
    (sym (c.in-None.ensures t k)))

pub returns-then-is_member : goal.returns-then-is_member
returns-then-is_member c = λ t k m.
    sym (no_row c.args.context.now.basin.now c.args.context.now.series.now t c.args.item.now
    (sym c.is_member.ensures ∙ c.if-is_member.true))

pub returns-then-is_free_of_calls : goal.returns-then-is_free_of_calls
returns-then-is_free_of_calls c = λ t k m.
    let free = free_parts c.args.state.now.calling c.args.item.now
    (sym c.is_free_of_calls.ensures ∙ c.if-is_free_of_calls.true) in
    c.own_row.ensures t k m
    ∙ sym (first_is c.args.context.now.basin.now c.args.context.now.series.now t c.args.item.now
    ∙ none_first (call_rows c.args.context.now.basin.now c.args.context.now.series.now t c.args.item.now)
    (own_rows c.args.context.now.basin.now c.args.context.now.series.now t c.args.item.now)
    (no_call_row c.args.context.now.basin.now c.args.context.now.series.now t c.args.item.now
    (sym k.calling.so_far ∙ free.0) free.1))
