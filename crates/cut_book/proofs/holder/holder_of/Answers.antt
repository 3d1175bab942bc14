use Rattle.std.proofs.Common.{◌+◌, Some, ap, subst}
use Rattle.chains.proofs.Walking.{key_is}
use Rattle.rights_roll.specs.Rolls.{IsNextOn}
use Rattle.cut_book.specs.Shortages.{IsShortage}
use Rattle.cut_book.proofs.Holding.{IsHeldSoFar, held_start, held_more, held_all}
use Rattle.cut_book.proofs.holder.holder_of.Goals as goal

pub loop-next-init : goal.loop-next-init
loop-next-init c =
    let s = c.args.shortage.now in
    let short : IsShortage s = subst IsShortage c.shortage.view_is c.shortage.invariant in
    held_start s.basin s.month.delivered c.args.link c.args.amount c.first_on-next.result
    (rw (c.first_on-next.ensures, ap (λ k. k.roll.first_on) c.shortage.view_is) (short.rolled.firsts c.args.link))

pub loop-next-preserved : goal.loop-next-preserved
loop-next-preserved c =
    let s = c.args.shortage.now in
    let short : IsShortage s = subst IsShortage c.shortage.view_is c.shortage.invariant in
    let so : IsHeldSoFar s.basin s.month.delivered c.args.link c.args.amount c.loop-next.holder (Some c.in-Some.right) =
    rw c.in-Some.is at c.loop-next.invariant in
    let next : IsNextOn s.basin.rights c.args.link (c.in-Some.right + 1) c.next_on-next.result =
    rw (c.next_on-next.ensures, ap (λ k. k.roll.next_on) c.shortage.view_is)
    (short.rolled.nexts c.in-Some.right c.args.link so.at.1 (key_is _ _ so.at.2)) in
    held_more s.basin s.month.delivered c.args.link c.args.amount c.in-Some.right c.loop-next.holder
    c.holder_with-holder.result c.next_on-next.result short.valid.roll.strict so c.holder_with-holder.ensures next

pub returns-clause-value : goal.returns-clause-value
returns-clause-value c =
    let s = c.args.shortage.now in
    let short : IsShortage s = subst IsShortage c.shortage.view_is c.shortage.invariant in
    held_all s.basin s.month.delivered c.args.link c.args.amount c.loop-next.holder short.valid.roll.strict
    (rw c.in_default.is at c.loop-next.invariant)
