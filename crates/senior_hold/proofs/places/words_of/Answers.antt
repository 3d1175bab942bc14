use Rattle.std.proofs.Common.{arith}
use Rattle.senior_hold.proofs.Placing.{bounded_arcs}
use Rattle.senior_hold.proofs.places.words_of.Goals as goal

pub overflow_cast-arcs : goal.overflow_cast-arcs
overflow_cast-arcs c = omega (arith, bounded_arcs c.args.basin.now c.requires.valid, c.requires.arcs)

pub overflow_add-result : goal.overflow_add-result
overflow_add-result c =
    omega (
      arith,
      c.words.ensures,
      c.tree_words.ensures,
      c.len-nodes.ensures,
      c.requires.arcs,
      bounded_arcs c.args.basin.now c.requires.valid,
      c.requires.valid.bounded.nodes,
    )
