use Rattle.std.proofs.Common.{◌∙◌, ap}
use Rattle.water_model.specs.Indices.{by_seniority}
use Rattle.senior_hold.proofs.Turns.{order_below}
use Rattle.senior_hold.proofs.solver.layout_of.Goals as goal

pub positions_of-requires-clause-order : goal.positions_of-requires-clause-order
positions_of-requires-clause-order c =
    order_below c.args.basin.now.rights c.by_seniority.result.now c.requires.roll.strict
    (c.by_seniority.ensures ∙ c.in-Ok-build.ensures.ok.order ∙ ap by_seniority c.as_slice-rights.ensures)
