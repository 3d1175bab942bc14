use Rattle.std.proofs.Common.{ℕ, ◌≡◌, arith, sym, subst, ◌∙◌}
use Rattle.circulation.specs.Contents.{network}
use Rattle.circulation.specs.Residual.{start_of, opposite}
use Rattle.residual_tree.specs.Repair.{IsWayIn}
use Rattle.residual_tree.specs.Adopting.{IsClear}
use Rattle.residual_tree.proofs.Opposites.{opposite_is, row_step}
use Rattle.residual_tree.proofs.Seeds.{way_in}
use Rattle.residual_tree.proofs.adopting.find_near.Goals as goal

pub returns-then-is_near : goal.returns-then-is_near
returns-then-is_near c = λ s e.
    let b = c.args.circ.now in
    let labels = c.args.labels.now in
    let v = c.args.node in
    let step = c.step_at-step.result in
    let at = row_step v c.requires.kept (omega (arith, c.requires.node)) c.row_first-place.ensures.place
    c.row_last-place-end.ensures.place c.loop-place.auto.place c.loop-place-test.true c.step_at-step.ensures
    c.end_at-end.ensures in
    let yes = c.is_way_back.ensures.yes c.if-is_way_back.true in
    let is : opposite step ≡ s = omega (arith, e, c.opposite.ensures) in
    let starts = (opposite_is (network b) step).starts ∙ at.end in
    let clear = c.is_near.ensures c.if-is_near.true in (
      subst (λ (x : ℕ). IsWayIn b labels v x) is (way_in b labels v step at.arc at.start yes.0 yes.1),
      subst (λ (x : ℕ). IsClear b labels v (start_of (network b) x)) is
          (subst (λ (u : ℕ). IsClear b labels v u) (sym starts) clear),
    )
