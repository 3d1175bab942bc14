use Rattle.std.proofs.Common.{arith}
use Rattle.rights_roll.proofs.Seniors.{by_seniority_order}
use Rattle.next_unit.proofs.Helping.{all_gone_over, none_gone_over, one_gone_over, still_undecided}
use Rattle.next_unit.proofs.helped.note_links.Goals as goal

pub loop-j-init : goal.loop-j-init
loop-j-init c = record { undecided = c.requires.undecided; helped = none_gone_over c.requires.helped }

pub loop-j-preserved : goal.loop-j-preserved
loop-j-preserved c =
    let lists = c.loop-j.invariant.undecided in
    let now = c.loop-j.invariant.helped in
    record {
      undecided = still_undecided c.helped_with.result (omega arith) lists now.each.count;
      helped = one_gone_over c.helped_with.result (omega arith) lists now.each.count now c.helped_with.ensures;
    }

pub returns-clause-helped : goal.returns-clause-helped
returns-clause-helped c =
    all_gone_over (by_seniority_order c.args.basin.now.rights c.requires.plan.valid.roll.strict) c.requires.position
    (omega arith) c.loop-j.invariant.undecided c.loop-j.invariant.helped
