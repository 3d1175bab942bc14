use Rattle.std.proofs.Common.{sym}
use Rattle.plan_residual.proofs.ResidualSearch.find_first_cores.Goals as goal

pub invariant_of-scene : goal.invariant_of-scene
invariant_of-scene c = record {
  plan = c.requires.plan;
  roll = c.requires.roll;
  rows = rw (sym c.self.view_is) at c.requires.search;
}

pub find_first_cores-requires-clause-firsts : goal.find_first_cores-requires-clause-firsts
find_first_cores-requires-clause-firsts c = c.requires.size

pub returns-clause-firsts : goal.returns-clause-firsts
returns-clause-firsts c = c.find_first_cores.ensures.firsts

pub returns-clause-search : goal.returns-clause-search
returns-clause-search c = rw (sym c.self.view_is) at c.requires.search
