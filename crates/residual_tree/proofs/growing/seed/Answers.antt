use Rattle.std.proofs.Common.{refl}
use Rattle.residual_tree.proofs.Grows.{growing_room}
use Rattle.residual_tree.proofs.Seeds.{seeding_start, seeding_next}
use Rattle.residual_tree.proofs.growing.seed.Goals as goal

pub loop-at-init : goal.loop-at-init
loop-at-init c = seeding_start _
    c.requires.tree c.find_ways.ensures

pub loop-at-preserved : goal.loop-at-preserved
loop-at-preserved c =
    let e = c.seed_node-size.ensures in
    seeding_next _ c.requires.kept c.loop-at-test.true refl refl c.loop-at.invariant e.none e.seen e.fresh

pub seed_node-size-requires-clause-room : goal.seed_node-size-requires-clause-room
seed_node-size-requires-clause-room c = λ unlabeled.
    let grows = c.loop-at.invariant.grows in
    growing_room _ (grows.within c.loop-at.at c.loop-at-test.true) grows unlabeled
