use Rattle.residual_tree.proofs.Grows.{growing_start, artificial_none}
use Rattle.residual_tree.proofs.Seeds.{seeded}
use Rattle.residual_tree.proofs.growing.grow.Goals as goal

pub seed-size-requires-clause-tree : goal.seed-size-requires-clause-tree
seed-size-requires-clause-tree c =
    growing_start c.args.queue.now c.requires.places c.requires.tree.1

pub spread-requires : goal.spread-requires
spread-requires c = (seeded c.seed-size.ensures, c.requires.kept)

pub returns : goal.returns
returns c = artificial_none c.spread.ensures.tree
