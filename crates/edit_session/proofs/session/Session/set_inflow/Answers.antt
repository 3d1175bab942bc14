use Rattle.std.proofs.Common.{ℕ, ◌∙◌, ap, refl, List}
use Rattle.edit_script.specs.declared.edit.Edit.TheVariants.{Inflow}
use Rattle.edit_script.proofs.Columns.{bounded_gauges}
use Rattle.edit_session.specs.Sessions.{records_of}
use Rattle.edit_session.proofs.Changes.{at_most, stays_ready}
use Rattle.edit_session.proofs.session.Session.set_inflow.Goals as goal

pub change-requires-clause-bounded : goal.change-requires-clause-bounded
change-requires-clause-bounded c =
    bounded_gauges c.self.inside.engine.basin c.self.inside.series c.self.invariant.valid c.self.invariant.series

pub invariant_of-self : goal.invariant_of-self
invariant_of-self c =
    stays_ready c.self.inside _ (Inflow c.args.index c.args.gauge c.args.amount) c.self.invariant
    (rw (← c.self.view_is) at c.requires.index, rw (← c.self.view_is) at c.requires.gauge, c.requires.amount)
    refl (ap (λ (cells : List ℕ). record c.self.inside.series { amount = cells }) c.change.ensures.table)
    (c.change.ensures.kept ∙ at_most (records_of c.self.inside.kept.items) c.args.index)

pub returns-clause-history : goal.returns-clause-history
returns-clause-history c = (invariant_of-self c).kept
