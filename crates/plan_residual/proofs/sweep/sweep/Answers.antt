use Rattle.std.proofs.Common.{◌≡◌, ◌-◌, ◌+◌, ℕ, subst, sym, arith, ap, length}
use Rattle.std.specs.Prelude.{Option}
use Rattle.rights_roll.proofs.Seniors.{by_seniority_order}
use Rattle.plan_residual.specs.Scene.{SceneView, IsScene}
use Rattle.plan_residual.specs.Sweep.{IsFirstFrom}
use Rattle.plan_residual.proofs.Sweeps.{judged_more, judged_all}
use Rattle.plan_residual.proofs.sweep.sweep.Goals as goal

pub loop-position-preserved : goal.loop-position-preserved
loop-position-preserved c =
    let b = c.args.scene.now.basin in
    let m = c.args.scene.now.month in
    let position : ℕ = c.loop-position.position - 1 in
    let rights = ap (λ (k : SceneView). length k.basin.rights) c.scene.view_is in
    let next : c.loop-position.position ≡ position + 1 = omega arith in
    record {
      queue = c.judge-other.ensures.queue;
      last = c.judge-other.ensures.last;
      answer = subst (λ (o : Option ℕ). IsFirstFrom b m position o) (sym c.pick-answer.ensures)
          (judged_more b m position c.right_at.result c.judge-other.result c.loop-position.answer
          (omega (arith, rights))
          (sym c.right_at.ensures.value) c.judge-other.ensures.yes c.judge-other.ensures.no
          (subst (λ (n : ℕ). IsFirstFrom b m n c.loop-position.answer) next c.loop-position.invariant.answer));
    }

pub returns-clause-first : goal.returns-clause-first
returns-clause-first c =
    let given : IsScene c.args.scene.now = subst IsScene c.scene.view_is c.scene.invariant in
    let b = c.args.scene.now.basin in
    let m = c.args.scene.now.month in
    let none : c.loop-position.position ≡ 0 = omega arith in
    judged_all b m c.loop-position.answer (by_seniority_order b.rights given.plan.valid.roll.strict)
    (subst (λ (n : ℕ). IsFirstFrom b m n c.loop-position.answer) none c.loop-position.invariant.answer)
