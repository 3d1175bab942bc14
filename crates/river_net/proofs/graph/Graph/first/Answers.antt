use Rattle.river_net.proofs.graph.Graph.first.Goals as goal

pub returns-clause-value : goal.returns-clause-value
returns-clause-value c = rw (← c.self.view_is) (rw c.first_of.ensures (c.self.invariant.chains.firsts c.args.node))
