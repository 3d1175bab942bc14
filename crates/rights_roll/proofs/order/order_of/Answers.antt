use Rattle.std.proofs.Common.{◌∙◌}
use Rattle.rights_roll.proofs.Ranks.{values_by_seniority}
use Rattle.rights_roll.proofs.order.order_of.Goals as goal

pub returns-clause-order : goal.returns-clause-order
returns-clause-order c =
    c.in_ok-ranked.ensures.rights
    ∙ values_by_seniority c.args.rights.now c.in_ok-ranks.ranks c.in_ok-ranked.ensures.ordered
    c.in_ok-ranks.ensures.ranks c.in_ok-ranks.ensures.none
