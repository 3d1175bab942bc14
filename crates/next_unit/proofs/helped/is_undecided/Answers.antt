use Rattle.std.proofs.Common.{◌≡◌, ℕ, Bool, true, false, refl, ◌∙◌, sym, subst}
use Rattle.std.proofs.lemmas.Bool.{OnFalse_from, both_ways}
use Rattle.std.specs.Prelude.{Option, not}
use Rattle.water_model.specs.Basin.{head_of}
use Rattle.water_model.proofs.Valid.{ends}
use Rattle.next_unit.specs.Next.{IsNextOrFree}
use Rattle.next_unit.specs.Helped.{IsHelped}
use Rattle.next_unit.proofs.Decided.{free_link, not_full, decided_some, decided_none}
use Rattle.next_unit.proofs.helped.is_undecided.Goals as goal

pub returns-then-is_some : goal.returns-then-is_some
returns-then-is_some c =
    decided_some _ _ _ c.args.answer (sym c.is_some.ensures ∙ c.if-is_some.true)
    c.requires.answer

pub returns-in-Some : goal.returns-in-Some
returns-in-Some c =
    OnFalse_from (not c.can_rise.result) (IsHelped c.args.basin.now c.args.month.now c.args.link c.args.answer)
    (λ rises. decided_none _ _ _ c.args.answer (sym c.is_some.ensures ∙ c.if-is_some.false)
    (not_full c.requires.month c.requires.link (sym c.can_rise.ensures ∙ not-false c.can_rise.result rises)))
  where
    not-false : (b : Bool) → not b ≡ false → b ≡ true
    not-false true e = refl
    not-false false e = absurd (both_ways false refl (sym e))

pub returns-in-None : goal.returns-in-None
returns-in-None c =
    let b = c.args.basin.now in
    decided_none _ _ _ c.args.answer (sym c.is_some.ensures ∙ c.if-is_some.false)
    (free_link c.requires.month c.requires.link
    (subst (λ (o : Option ℕ). IsNextOrFree b c.args.month.now (head_of b c.args.link) o)
    (sym c.at_head.ensures ∙ c.in-None.is)
    (c.requires.next.each (head_of b c.args.link) (ends b c.requires.month.plan.valid c.args.link c.requires.link).1)))
