use Rattle.std.proofs.Common.{arith, rules, ap}
use Rattle.std.proofs.lemmas.Option.{get_or_from_slice_get}
use Rattle.plan_residual.proofs.Reaching.{reaching_more}
use Rattle.plan_residual.proofs.sources.see_junior.Goals as goal
use Rattle.plan_residual.proofs.sources.see_junior.Goals.{else-index-gt0-via-then-index-gt0+else-is_senior_to}
use Rattle.plan_residual.proofs.sources.see_junior.Goals.{else-index-gt0-via-else-index-gt0}

pub returns-in-Some-clause-on : goal.returns-in-Some-clause-on
returns-in-Some-clause-on c =
    let take = c.args.scene.now.month.plan.take in
    let is = get_or_from_slice_get take c.args.junior c.index.result.now 0
    (rw (ap (λ k. k.month) c.scene.view_is) at c.index.ensures) in
    reaching_more c.requires.reaching c.visit.ensures (λ other closed.
    let h = closed.juniors c.args.junior c.requires.junior (search rules) (omega (arith, is, c.if-index-gt0.true)) in
    rw (← ap (λ k. k.basin) c.scene.view_is, ← c.taking_node.ensures.value, c.in-Some.is) at h)

pub returns-else-index-gt0-clause-seen : goal.returns-else-index-gt0-clause-seen
returns-else-index-gt0-clause-seen c =
    let take = c.args.scene.now.month.plan.take in
    let is = get_or_from_slice_get take c.args.junior c.index.result.now 0
    (rw (ap (λ k. k.month) c.scene.view_is) at c.index.ensures) in
    λ senior takes. elim c.else-index-gt0.branch [
      | else-index-gt0-via-then-index-gt0+else-is_senior_to w ↦ search rules
      | else-index-gt0-via-else-index-gt0 w ↦ absurd (omega (arith, is, takes, w.if-index-gt0.false))
    ]
