use Rattle.std.proofs.Common.{arith}
use Rattle.std.proofs.lemmas.Bool.{OnFalse_at}
use Rattle.next_unit.proofs.Decided.{all_decided_of, all_helped_to, none_decided_yet, one_decided, one_listed}
use Rattle.next_unit.proofs.helped.begin.Goals as goal
use Rattle.next_unit.proofs.helped.begin.Goals.{then-is_undecided, else-is_undecided}

pub loop-link-init : goal.loop-link-init
loop-link-init c = none_decided_yet c.requires.helped c.requires.undecided

pub loop-link-preserved : goal.loop-link-preserved
loop-link-preserved c = elim c.if-is_undecided.branch [
  | then-is_undecided w ↦ rw (w.undecided-is, w.count-is)
      (one_listed c.decided_by_next-answer.result (omega arith) c.loop-link.invariant c.decided_by_next-answer.ensures)
  | else-is_undecided w ↦ rw (w.undecided-is, w.count-is)
      (one_decided c.decided_by_next-answer.result (omega arith) c.loop-link.invariant c.decided_by_next-answer.ensures
      (OnFalse_at w.if-is_undecided.false c.is_undecided.ensures))
]

pub returns-clause-helped : goal.returns-clause-helped
returns-clause-helped c = all_helped_to (omega arith) c.loop-link.invariant

pub returns-clause-undecided : goal.returns-clause-undecided
returns-clause-undecided c = all_decided_of (omega arith) (omega arith) c.loop-link.invariant
