use Rattle.std.proofs.Common.{◌*◌, ◌+◌, arith}
use Rattle.bit_words.proofs.BothMarked.{next_found, unmarked_to}
use Rattle.bit_words.proofs.next_marked_in_both.Goals as goal

pub returns-then-index-indices-clause-some : goal.returns-then-index-indices-clause-some
returns-then-index-indices-clause-some c =
    next_found c.args.words.now c.args.others.now c.args.from c.args.indices c.loop-at.at c.saturating_sub.result
    c.in-Some.bit c.loop-at.invariant
    (omega arith) c.in-Some.ensures.some c.if-index-indices.true

pub returns-else-index-indices-clause-none : goal.returns-else-index-indices-clause-none
returns-else-index-indices-clause-none c = λ q after below.
    unmarked_to c.args.words.now c.args.others.now c.args.from c.args.indices c.loop-at.at c.saturating_sub.result
    (c.loop-at.at * 64 + c.in-Some.bit)
    c.loop-at.invariant (omega arith) (omega (arith, c.in-Some.ensures.some.below))
    (λ i above before. c.in-Some.ensures.some.least i above (omega arith)) q after below (omega arith)

pub loop-at-preserved : goal.loop-at-preserved
loop-at-preserved c = λ q after below before.
    unmarked_to c.args.words.now c.args.others.now c.args.from c.args.indices c.loop-at.at c.saturating_sub.result
    ((c.loop-at.at + 1) * 64)
    c.loop-at.invariant (omega arith) (omega arith)
    (λ i above within. c.in_default.ensures.none i above (omega arith)) q after below before
