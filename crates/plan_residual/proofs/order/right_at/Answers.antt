use Rattle.std.proofs.Common.{List, ℕ, length, get_or, ap, ◌∙◌, arith}
use Rattle.rights_roll.proofs.Seniors.{by_seniority_order}
use Rattle.plan_residual.proofs.order.right_at.Goals as goal

pub bounds-by_seniority-position : goal.bounds-by_seniority-position
bounds-by_seniority-position c =
    let o = by_seniority_order c.args.basin.now.rights c.requires.basin.roll.strict in
    omega (arith, ap length (c.by_seniority.ensures ∙ c.requires.roll.order), o.count, c.requires.position)

pub returns : goal.returns
returns c =
    let o = by_seniority_order c.args.basin.now.rights c.requires.basin.roll.strict in
    let is = c.by_seniority.ensures ∙ c.requires.roll.order in
    record {
      value = ap (λ (xs : List ℕ). get_or xs c.args.position 0) is;
      within = rw is (o.below c.args.position c.requires.position);
    }
