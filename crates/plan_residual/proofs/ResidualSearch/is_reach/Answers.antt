use Rattle.std.proofs.Common.{sym}
use Rattle.plan_residual.proofs.ResidualSearch.is_reach.Goals as goal

pub search-requires-clause-cut : goal.search-requires-clause-cut
search-requires-clause-cut c = c.requires.cut

pub search-requires-clause-short : goal.search-requires-clause-short
search-requires-clause-short c = c.requires.short

pub search-requires-clause-tight : goal.search-requires-clause-tight
search-requires-clause-tight c = c.requires.tight

pub returns-clause-reach : goal.returns-clause-reach
returns-clause-reach c = c.search.ensures.reach

pub returns-clause-stays : goal.returns-clause-stays
returns-clause-stays c = c.self.view_is

pub invariant_of-scene : goal.invariant_of-scene
invariant_of-scene c = record {
  plan = c.requires.plan;
  roll = c.requires.roll;
  rows = rw (sym c.self.view_is) at c.requires.search;
}
