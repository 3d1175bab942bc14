use Rattle.std.proofs.Common.{ℕ, ◌+◌, ◌*◌, ap}
use Rattle.residual_tree.proofs.Pushes.{settle_saturated}
use Rattle.residual_tree.proofs.ResidualTree.drop_artificial.Goals as goal

pub repair-requires-clause-saturated : goal.repair-requires-clause-saturated
repair-requires-clause-saturated c =
    settle_saturated c.nodes-nodes.ensures.kept c.requires.tree
    (ap (λ (a : ℕ). 2 * a + 1) c.from.ensures) c.scratch_set.ensures.written
