use Rattle.std.proofs.Common.{arith}
use Rattle.rights_roll.proofs.Seniors.{by_seniority_order}
use Rattle.next_unit.proofs.Helping.{all_helped}
use Rattle.next_unit.proofs.helped.find_helped.Goals as goal

pub returns-clause-helped : goal.returns-clause-helped
returns-clause-helped c =
    all_helped (by_seniority_order c.args.basin.now.rights c.requires.plan.valid.roll.strict) (omega arith)
    c.loop-position.invariant.helped
