use Rattle.std.proofs.Common.{sym}
use Rattle.plan_residual.proofs.ResidualSearch.find_core.Goals as goal

pub invariant_of-scene : goal.invariant_of-scene
invariant_of-scene c = record {
  plan = c.requires.plan;
  roll = c.requires.roll;
  rows = rw (sym c.self.view_is) at c.requires.search;
}

pub node_of-requires-clause-basin : goal.node_of-requires-clause-basin
node_of-requires-clause-basin c = c.requires.plan.valid

pub node_of-requires-clause-right : goal.node_of-requires-clause-right
node_of-requires-clause-right c = c.requires.right

pub find_upstream-requires-clause-right : goal.find_upstream-requires-clause-right
find_upstream-requires-clause-right c = c.requires.right

pub find_upstream-requires-clause-node : goal.find_upstream-requires-clause-node
find_upstream-requires-clause-node c = c.node_of.ensures.within

pub returns-clause-search : goal.returns-clause-search
returns-clause-search c = rw (sym c.self.view_is) at c.requires.search
