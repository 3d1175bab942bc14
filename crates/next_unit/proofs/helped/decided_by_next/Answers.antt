use Rattle.std.proofs.Common.{ℕ, Option, subst, sym, ◌∙◌}
use Rattle.water_model.specs.Basin.{head_of}
use Rattle.water_model.proofs.Valid.{ends}
use Rattle.next_unit.specs.Next.{IsNextOrFree}
use Rattle.next_unit.proofs.Decided.{free_head}
use Rattle.next_unit.proofs.helped.decided_by_next.Goals as goal

pub decided_by_right-requires-clause-next : goal.decided_by_right-requires-clause-next
decided_by_right-requires-clause-next c =
    let b = c.args.basin.now in
    subst (λ (o : Option ℕ). IsNextOrFree b c.args.month.now (head_of b c.args.link) o)
    (sym c.at_head.ensures ∙ c.in-Some.is)
    (c.requires.next.each (head_of b c.args.link) (ends b c.requires.month.plan.valid c.args.link c.requires.link).1)

pub returns-in-None : goal.returns-in-None
returns-in-None c =
    let b = c.args.basin.now in
    free_head c.requires.month c.requires.link
    (subst (λ (o : Option ℕ). IsNextOrFree b c.args.month.now (head_of b c.args.link) o)
    (sym c.at_head.ensures ∙ c.in-None.is)
    (c.requires.next.each (head_of b c.args.link) (ends b c.requires.month.plan.valid c.args.link c.requires.link).1))
