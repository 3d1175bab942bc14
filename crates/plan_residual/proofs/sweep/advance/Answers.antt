use Rattle.std.proofs.Common.{◌≡◌, length}
use Rattle.rights_roll.proofs.Seniors.{by_seniority_order}
use Rattle.plan_residual.specs.Sweep.{right_at}
use Rattle.plan_residual.proofs.Reaching.{outlets_grow, reached_apart}
use Rattle.plan_residual.proofs.Sweeping.{advanced, juniors_passed, reaching_before}
use Rattle.plan_residual.proofs.sweep.advance.Goals as goal

pub pass_all-requires-clause-reaching : goal.pass_all-requires-clause-reaching
pass_all-requires-clause-reaching c =
    let b = c.args.scene.now.basin in
    let plan = c.right_at-right.ensures.scene.plan in
    rw c.right_at-right.ensures.value (
    reaching_before plan (by_seniority_order b.rights plan.valid.roll.strict) c.requires.queue c.requires.between
    )

pub spread_on-requires-clause-followed : goal.spread_on-requires-clause-followed
spread_on-requires-clause-followed c =
    let b = c.args.scene.now.basin in
    let m = c.args.scene.now.month in
    let o = by_seniority_order b.rights c.right_at-right.ensures.scene.plan.valid.roll.strict in
    rw (c.right_at-right.ensures.value, c.len-known.ensures) (
    advanced b m c.args.position c.args.before c.args.queue.now c.pass_all.new.queue o c.requires.queue.in_queue
    c.requires.between c.pass_all.ensures.on.extends
    (rw c.right_at-right.ensures.value at c.pass_all.ensures.passed)
    )

pub returns-clause-reached : goal.returns-clause-reached
returns-clause-reached c =
    let b = c.args.scene.now.basin in
    let m = c.args.scene.now.month in
    let o = by_seniority_order b.rights c.right_at-right.ensures.scene.plan.valid.roll.strict in
    let is : c.right_at-right.result ≡ right_at b c.args.position = c.right_at-right.ensures.value in
    reached_apart (rw is at c.pass_all.ensures.on.reaching)
    (outlets_grow m (length b.nodes) c.args.queue.now.seen c.pass_all.new.queue.seen
    c.pass_all.ensures.on.extends.kept c.requires.between.reached.closed.outlets)
    (juniors_passed b m c.args.position c.args.before c.args.queue.now.seen c.pass_all.new.queue.seen o
    c.requires.between c.pass_all.ensures.on.extends.kept (rw is at c.pass_all.ensures.passed))
    (rw is at c.spread_on.ensures.grown) (rw is at c.spread_on.ensures.closed)
