use Rattle.plan_residual.proofs.finding.node_of.Goals as goal

pub index-requires : goal.index-requires
index-requires c = c.requires.right
