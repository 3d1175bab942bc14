use Rattle.std.proofs.Common.{arith, ◌∙◌, refl}
use Rattle.residual_tree.proofs.Grows.{artificial_none, queue_short}
use Rattle.residual_tree.proofs.Seeds.{closed_tree}
use Rattle.residual_tree.proofs.growing.grow_out.Goals as goal

pub note_first-requires-clause-size : goal.note_first-requires-clause-size
note_first-requires-clause-size c =
    let grows = c.spread_out-first.ensures in
    omega (arith, queue_short grows, grows.places)

pub returns-then-is_closed : goal.returns-then-is_closed
returns-then-is_closed c = closed_tree c.requires.kept c.label_in_order-size.ensures
    (c.is_closed.ensures c.if-is_closed.true)

pub spread_out-first-requires-clause-places : goal.spread_out-first-requires-clause-places
spread_out-first-requires-clause-places c = c.requires.places

pub spread_out-first-requires-clause-kept : goal.spread_out-first-requires-clause-kept
spread_out-first-requires-clause-kept c = c.requires.kept

pub label_in_order-size-requires-clause-order : goal.label_in_order-size-requires-clause-order
label_in_order-size-requires-clause-order c = c.requires.order

pub label_in_order-size-requires-clause-depth : goal.label_in_order-size-requires-clause-depth
label_in_order-size-requires-clause-depth c = c.note_first.ensures ∙ c.requires.depth

pub label_in_order-size-requires-clause-tree : goal.label_in_order-size-requires-clause-tree
label_in_order-size-requires-clause-tree c = c.spread_out-first.ensures

pub label_in_order-size-requires-clause-kept : goal.label_in_order-size-requires-clause-kept
label_in_order-size-requires-clause-kept c = c.requires.kept

pub is_closed-requires-clause-words : goal.is_closed-requires-clause-words
is_closed-requires-clause-words c = c.label_in_order-size.ensures.tree.words

pub is_closed-requires-clause-kept : goal.is_closed-requires-clause-kept
is_closed-requires-clause-kept c = c.requires.kept

pub spread_out-first-requires-clause-bare : goal.spread_out-first-requires-clause-bare
spread_out-first-requires-clause-bare c = rw (c.set.ensures, c.requires.bare, c.nodes.ensures.number) refl

pub note_first-requires-clause-within : goal.note_first-requires-clause-within
note_first-requires-clause-within c = λ k l.
    let inside = (c.spread_out-first.ensures.marked k l).0 in omega (arith, inside, c.requires.depth)

pub spread-requires : goal.spread-requires
spread-requires c = (c.label_in_order-size.ensures, c.requires.kept)

pub returns : goal.returns
returns c = artificial_none c.spread.ensures.tree
