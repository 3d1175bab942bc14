use Rattle.std.proofs.Common.{◌∙◌, ℕ, arith, rules, replicate, ap, subst, length}
use Rattle.std.specs.Prelude.{Option, None}
use Rattle.rights_roll.proofs.Seniors.{by_seniority_order}
use Rattle.plan_residual.specs.Scene.{SceneView, IsScene}
use Rattle.plan_residual.proofs.Claiming.{none_claimed, all_served}
use Rattle.plan_residual.proofs.claims.find_first_cores.Goals as goal

pub loop-position-init : goal.loop-position-init
loop-position-init c =
    none_claimed c.args.scene.now.basin c.args.scene.now.month c.clear.new.self c.fill.new.self
    (rw (← c.requires.queue.count) c.clear.ensures)
    (c.fill.ensures.after (λ y h. search rules) ∙ ap (λ (n : ℕ). replicate {A = Option ℕ} n None) c.requires.firsts)

pub returns-clause-firsts : goal.returns-clause-firsts
returns-clause-firsts c =
    let given : IsScene c.args.scene.now = subst IsScene c.scene.view_is c.scene.invariant in
    let b = c.args.scene.now.basin in
    let rights = ap (λ (k : SceneView). length k.basin.rights) c.scene.view_is in
    all_served b c.args.scene.now.month c.loop-position.position c.loop-position.queue c.loop-position.firsts
    (by_seniority_order b.rights given.plan.valid.roll.strict) (omega (arith, rights)) c.loop-position.invariant
