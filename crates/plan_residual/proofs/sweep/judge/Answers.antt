use Rattle.std.proofs.Common.{arith}
use Rattle.plan_residual.proofs.Sweeps.{at_lower, judged_no, judged_yes, not_short, short_right}
use Rattle.plan_residual.proofs.sweep.judge.Goals as goal

pub returns-then-not-falls_short-clause-no : goal.returns-then-not-falls_short-clause-no
returns-then-not-falls_short-clause-no c =
    not_short c.args.scene.now.basin c.args.scene.now.month c.right_at-right.result _ c.falls_short.result
    c.right_at-right.ensures.value c.falls_short.ensures.no c.if-not-falls_short.true

pub returns-then-not-falls_short-clause-queue : goal.returns-then-not-falls_short-clause-queue
returns-then-not-falls_short-clause-queue c = c.requires.queue

pub returns-then-not-falls_short-clause-last : goal.returns-then-not-falls_short-clause-last
returns-then-not-falls_short-clause-last c =
    at_lower c.args.scene.now.basin c.args.scene.now.month c.args.queue.now.seen c.args.position c.args.last.now
    c.requires.last

pub rise-requires-clause-queue : goal.rise-requires-clause-queue
rise-requires-clause-queue c = c.requires.queue

pub rise-requires-clause-position : goal.rise-requires-clause-position
rise-requires-clause-position c = c.requires.position

pub rise-requires-clause-right : goal.rise-requires-clause-right
rise-requires-clause-right c =
    short_right c.args.scene.now.basin c.args.scene.now.month c.right_at-right.result _ c.falls_short.result
    c.right_at-right.ensures.value c.right_at-right.ensures.within c.falls_short.ensures.yes c.if-not-falls_short.false

pub rise-requires-clause-before : goal.rise-requires-clause-before
rise-requires-clause-before c = c.requires.last

pub has_reach-requires-clause-sets : goal.has_reach-requires-clause-sets
has_reach-requires-clause-sets c = c.requires.sets

pub has_reach-requires-clause-right : goal.has_reach-requires-clause-right
has_reach-requires-clause-right c = record {
  in_range = c.right_at-right.ensures.within;
  short = rw c.if-not-falls_short.false at c.falls_short.ensures.yes;
}

pub has_reach-requires-clause-queue : goal.has_reach-requires-clause-queue
has_reach-requires-clause-queue c = c.rise.ensures.queue

pub has_reach-requires-clause-reached : goal.has_reach-requires-clause-reached
has_reach-requires-clause-reached c = rw c.right_at-right.ensures.value c.rise.ensures.reached

pub returns-clause-yes : goal.returns-clause-yes
returns-clause-yes c =
    judged_yes c.args.scene.now.basin c.args.scene.now.month c.right_at-right.result _ c.has_reach.result
    c.right_at-right.ensures.value (rw c.if-not-falls_short.false at c.falls_short.ensures.yes)
    c.has_reach.ensures.reach

pub returns-clause-no : goal.returns-clause-no
returns-clause-no c =
    judged_no c.args.scene.now.basin c.args.scene.now.month c.right_at-right.result _ c.has_reach.result
    c.right_at-right.ensures.value c.has_reach.ensures.reach

pub returns-clause-queue : goal.returns-clause-queue
returns-clause-queue c = c.has_reach.ensures.queue

pub returns-clause-last : goal.returns-clause-last
returns-clause-last c = (
  omega arith,
  c.requires.position,
  short_right c.args.scene.now.basin c.args.scene.now.month c.right_at-right.result _ c.falls_short.result
      c.right_at-right.ensures.value c.right_at-right.ensures.within c.falls_short.ensures.yes
      c.if-not-falls_short.false,
  rw (← c.right_at-right.ensures.value) c.has_reach.ensures.reached,
)
