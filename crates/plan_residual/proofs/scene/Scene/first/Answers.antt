use Rattle.plan_residual.proofs.scene.Scene.first.Goals as goal

pub returns : goal.returns
returns c = rw (← c.self.view_is) (rw c.first_of.ensures (c.self.invariant.rows.firsts c.args.node))
