use Rattle.std.proofs.Common.{◌≡◌, ◌<◌, ◌≤◌, ℕ, subst, arith, slice_index, ap}
use Rattle.std.proofs.lemmas.Option.{get_or_from_slice_get}
use Rattle.rights_roll.proofs.Seniors.{by_seniority_order}
use Rattle.plan_residual.specs.Scene.{IsScene}
use Rattle.plan_residual.specs.Sweep.{IsShortRight, right_at}
use Rattle.plan_residual.proofs.Claiming.{claimed_more, passed_over}
use Rattle.plan_residual.proofs.claims.serve.Goals as goal

pub returns : goal.returns
returns c =
    let given : IsScene c.args.scene.now = subst IsScene c.scene.view_is c.scene.invariant in
    let b = c.args.scene.now.basin in
    let m = c.args.scene.now.month in
    let is : c.right_at-right.result ≡ right_at b c.args.position = c.right_at-right.ensures.value in
    let short : slice_index m.delivered c.right_at-right.result < slice_index m.want c.right_at-right.result =
    omega (
      arith,
      get_or_from_slice_get m.delivered c.right_at-right.result c.index.result.now 0
          (rw (ap (λ k. k.month) c.scene.view_is) at c.index.ensures),
      get_or_from_slice_get m.want c.right_at-right.result c.index-2.result.now 0
          (rw (ap (λ k. k.month) c.scene.view_is) at c.index-2.ensures),
      c.if-index.false,
    ) in
    claimed_more b m c.args.position c.args.queue.now c.claim.new.queue c.args.firsts.now c.mark.new.firsts
    given.plan (by_seniority_order b.rights given.plan.valid.roll.strict) c.requires.position
    (subst (λ (r : ℕ). IsShortRight b m r) is record { in_range = c.right_at-right.ensures.within; short = short })
    c.requires.claimed (rw is at c.claim.ensures) (rw (is, c.len-before.ensures) at c.mark.ensures)

pub right_at-right-requires : goal.right_at-right-requires
right_at-right-requires c = c.requires.position

pub claim-requires-clause-right : goal.claim-requires-clause-right
claim-requires-clause-right c = c.right_at-right.ensures.within

pub claim-requires-clause-queue : goal.claim-requires-clause-queue
claim-requires-clause-queue c = record { in_queue = c.requires.claimed.in_queue; count = c.requires.claimed.count }

pub mark-requires-clause-queue : goal.mark-requires-clause-queue
mark-requires-clause-queue c = c.claim.ensures.in_queue

pub returns-then-index : goal.returns-then-index
returns-then-index c =
    let b = c.args.scene.now.basin in
    let m = c.args.scene.now.month in
    let met : slice_index m.want c.right_at-right.result ≤ slice_index m.delivered c.right_at-right.result =
    omega (
      arith,
      get_or_from_slice_get m.delivered c.right_at-right.result c.index.result.now 0
          (rw (ap (λ k. k.month) c.scene.view_is) at c.index.ensures),
      get_or_from_slice_get m.want c.right_at-right.result c.index-2.result.now 0
          (rw (ap (λ k. k.month) c.scene.view_is) at c.index-2.ensures),
      c.if-index.true,
    ) in
    passed_over b m c.args.position c.args.queue.now c.args.firsts.now
    (subst (λ (r : ℕ). slice_index m.want r ≤ slice_index m.delivered r) c.right_at-right.ensures.value met)
    c.requires.claimed
