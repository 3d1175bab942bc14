use Rattle.rights_roll.proofs.Ranks.{ranks-found, ranks-more, ranks-all}
use Rattle.rights_roll.proofs.order.rank.Goals as goal

pub returns-in-Some-clause-refused : goal.returns-in-Some-clause-refused
returns-in-Some-clause-refused c =
    ranks-found c.of-priority.result c.loop-at-test.true c.index-rights-at.is
    c.of-priority.ensures c.loop-at.invariant c.in-Some.ensures.value

pub loop-at-preserved : goal.loop-at-preserved
loop-at-preserved c =
    ranks-more c.of-priority.result c.loop-at-test.true c.index-rights-at.is
    c.of-priority.ensures c.in_default.ensures.value c.in_ok-insert.ensures.updates c.loop-at.invariant

pub returns-clause-none : goal.returns-clause-none
returns-clause-none c = (ranks-all c.loop-at-test.false c.loop-at.invariant).1
