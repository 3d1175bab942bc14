use Rattle.std.proofs.Common.{ℕ, ◌<◌, ◌∙◌, sym, ap, subst, arith}
use Rattle.std.specs.Prelude.{unwrap_or, option_map, Option}
use Rattle.cut_cert.specs.Sets.{cut_at}
use Rattle.water_model.specs.Lookups.{has}
use Rattle.water_model.specs.declared.types.Link.{Link}
use Rattle.water_model.proofs.Valid.{ends}
use Rattle.next_unit.proofs.Decided.{outside_reach, within_reach}
use Rattle.next_unit.proofs.helped.decided_by_right.Goals as goal

pub holds-requires-clause-right : goal.holds-requires-clause-right
holds-requires-clause-right c = omega (arith, c.requires.next.in_range, c.requires.month.plan.fits.cuts)

pub holds-requires-clause-node : goal.holds-requires-clause-node
holds-requires-clause-node c =
    subst (λ (n : ℕ). n < c.args.month.now.cuts.nodes)
    (ap (λ (o : Option Link). unwrap_or (option_map (λ x. x.from) o) 0) c.index-ends.ensures)
    (omega (
      arith,
      (ends c.args.basin.now c.requires.month.plan.valid c.args.link c.requires.link).0,
      c.requires.month.plan.fits.cut_nodes,
    ))

pub returns-then-holds : goal.returns-then-holds
returns-then-holds c =
    within_reach c.requires.month c.requires.link c.args.right c.requires.next
    (ap (λ (o : Option Link). has (cut_at c.args.month.now.cuts c.args.right)
    (unwrap_or (option_map (λ x. x.from) o) 0)) c.index-ends.ensures ∙ (sym c.holds.ensures ∙ c.if-holds.true))

pub returns-else-holds : goal.returns-else-holds
returns-else-holds c =
    outside_reach c.requires.month c.requires.link c.args.right c.requires.next
    (ap (λ (o : Option Link). has (cut_at c.args.month.now.cuts c.args.right)
    (unwrap_or (option_map (λ x. x.from) o) 0)) c.index-ends.ensures ∙ (sym c.holds.ensures ∙ c.if-holds.false))
