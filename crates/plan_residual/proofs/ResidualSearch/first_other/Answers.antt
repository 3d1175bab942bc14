use Rattle.plan_residual.proofs.ResidualSearch.first_other.Goals as goal

pub sweep-requires-clause-sets : goal.sweep-requires-clause-sets
sweep-requires-clause-sets c = c.requires.sets

pub returns-clause-first : goal.returns-clause-first
returns-clause-first c = c.sweep.ensures.first

pub returns-clause-stays : goal.returns-clause-stays
returns-clause-stays c = c.self.view_is
