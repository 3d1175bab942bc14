use Rattle.std.proofs.Common.{length, ap, arith}
use Rattle.residual_tree.proofs.Grows.{growing_room}
use Rattle.residual_tree.proofs.Seeds.{word_given}
use Rattle.residual_tree.proofs.growing.label_in_order.Goals as goal
use Rattle.residual_tree.proofs.growing.label_in_order.Goals.{then-own-eq0, else-own-eq0}

pub seed_node-count-requires-clause-room : goal.seed_node-count-requires-clause-room
seed_node-count-requires-clause-room c = growing_room _
    (c.requires.order c.loop-place.place (omega (arith, c.loop-place-test.true, c.loop-place.auto.place-end)))
    c.loop-place.invariant.tree

pub loop-place-preserved : goal.loop-place-preserved
loop-place-preserved c = elim c.if-own-eq0.branch [
  | then-own-eq0 w ↦
      let inv = c.loop-place.invariant in
      let next = word_given _ c.requires.kept
      (c.requires.order c.loop-place.place (omega (arith, c.loop-place-test.true, c.loop-place.auto.place-end)))
      (omega (arith, w.if-own-eq0.true, c.get-own.ensures)) w.nearest_way-word.ensures.way inv.tree
      w.seed_node-count.ensures.none w.seed_node-count.ensures.fresh in
      record {
        tree = rw (w.labels-is, w.queue-is, w.count-is) next;
        depth = omega (arith, ap length w.depth-is, w.nearest_way-word.ensures.count, inv.depth);
      }
  | else-own-eq0 w ↦ rw (w.labels-is, w.queue-is, w.depth-is, w.count-is) c.loop-place.invariant
]
