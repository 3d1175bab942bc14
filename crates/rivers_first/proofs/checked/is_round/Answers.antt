use Rattle.std.proofs.Common.{ℕ, arith, inl, inr, refl, subst, sym}
use Rattle.std.proofs.lemmas.Bool.{cases_eq}
use Rattle.rivers_first.specs.Rounds.{GoesOn}
use Rattle.rivers_first.proofs.checked.is_round.Goals as goal

pub loop-at-init : goal.loop-at-init
loop-at-init c = λ at l. absurd (omega (arith, l))

pub loop-at-preserved : goal.loop-at-preserved
loop-at-preserved c = λ at l. elim (cases_eq at c.loop-at.at) [
  | inl same ↦ subst (λ (n : ℕ). GoesOn c.args.basin.now c.args.round.now n) (sym same)
      (c.if-not-goes_on.ensures refl)
  | inr other ↦ c.loop-at.invariant at (omega (arith, l, other))
]

pub returns : goal.returns
returns c = λ _. record {
  canal = c.if-not-begins_on_canal.ensures refl;
  steps = λ at l. c.loop-at.invariant at (omega (arith, l, c.loop-at-test.false));
}
