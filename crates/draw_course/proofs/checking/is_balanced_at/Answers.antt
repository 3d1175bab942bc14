use Rattle.std.proofs.Common.{◌≡◌, ◌∙◌, ap, sym, arith, Bool, true, false}
use Rattle.std.proofs.lemmas.Bool.{false≢true}
use Rattle.std.specs.Prelude.{unwrap_or, option_map}
use Rattle.draw_course.proofs.checking.is_balanced_at.Goals as goal
use Rattle.draw_course.proofs.checking.is_balanced_at.Goals.{else-not-index-via-then-not-index+else-out-place-gt0}
use Rattle.draw_course.proofs.checking.is_balanced_at.Goals.{else-not-index-via-else-not-index}

no_outlet : (t : Bool) → t ≡ false → t ≡ true → ⊥
no_outlet t h i = false≢true (sym h ∙ i)

pub returns-clause-outlet : goal.returns-clause-outlet
returns-clause-outlet c = λ _ shut. elim c.else-not-index.branch [
  | else-not-index-via-then-not-index+else-out-place-gt0 w ↦ omega (arith, w.if-out-place-gt0.false)
  | else-not-index-via-else-not-index w ↦ (let is = ap (λ o. unwrap_or (option_map (λ x. x.outlet) o) false)
      c.index.ensures in
      absurd (no_outlet _ (sym is ∙ shut) w.if-not-index.false))
]
