use Rattle.std.proofs.Common.{◌≡◌, ℕ, true, ◌∙◌, sym, ap, subst}
use Rattle.std.specs.Prelude.{unwrap_or, option_map, Option}
use Rattle.cut_cert.specs.Sets.{cut_at}
use Rattle.water_model.specs.Lookups.{has}
use Rattle.water_model.specs.Basin.{head_of, tail_of}
use Rattle.water_model.specs.declared.types.Link.{Link}
use Rattle.next_unit.specs.Laws.{CarryHelpsRight}
use Rattle.next_unit.proofs.Exact.{carry_helps_exactly_into_core, decided_no, decided_by}
use Rattle.next_unit.proofs.carry_helps.Goals as goal

pub returns-then-holds : goal.returns-then-holds
returns-then-holds c =
    decided_no (has (cut_at c.args.month.now.cuts c.args.right) (tail_of c.args.basin.now c.args.link))
    (carry_helps_exactly_into_core c.args.basin.now c.args.month.now c.args.right c.args.core.now
    (cut_at c.args.month.now.cuts c.args.right) c.args.link c.requires.plan c.requires.right c.requires.short
    c.requires.reach c.requires.room c.requires.core c.requires.link)
    (ap (λ (o : Option Link). has (cut_at c.args.month.now.cuts c.args.right)
    (unwrap_or (option_map (λ x. x.from) o) 0)) c.index-ends.ensures ∙ (sym c.holds.ensures ∙ c.if-holds.true))

pub returns-else-holds : goal.returns-else-holds
returns-else-holds c =
    subst (λ (n : ℕ). (has c.args.core.now n ≡ true
    → CarryHelpsRight c.args.basin.now c.args.month.now c.args.link c.args.right)
    × (CarryHelpsRight c.args.basin.now c.args.month.now c.args.link c.args.right → has c.args.core.now n ≡ true))
    (ap (λ (o : Option Link). unwrap_or (option_map (λ x. x.to) o) 0) c.index-ends.ensures)
    (decided_by (has (cut_at c.args.month.now.cuts c.args.right) (tail_of c.args.basin.now c.args.link))
    (has c.args.core.now (head_of c.args.basin.now c.args.link))
    (carry_helps_exactly_into_core c.args.basin.now c.args.month.now c.args.right c.args.core.now
    (cut_at c.args.month.now.cuts c.args.right) c.args.link c.requires.plan c.requires.right c.requires.short
    c.requires.reach c.requires.room c.requires.core c.requires.link)
    (ap (λ (o : Option Link). has (cut_at c.args.month.now.cuts c.args.right)
    (unwrap_or (option_map (λ x. x.from) o) 0)) c.index-ends.ensures ∙ (sym c.holds.ensures ∙ c.if-holds.false)))
