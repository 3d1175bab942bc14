use Rattle.std.proofs.Common.{ℕ, ◌+◌, slice_index, arith, sym, ap, ◌∙◌}
use Rattle.circulation.specs.Contents.{Contents}
use Rattle.augment.specs.Raised.{position_of}
use Rattle.augment.proofs.Trees.{tree_size, unreached_before}
use Rattle.augment.proofs.Searches.{done_next}
use Rattle.augment.proofs.searching.search.Goals as goal

pub loop-done-preserved : goal.loop-done-preserved
loop-done-preserved c =
    let inv = c.loop-done.invariant in
    let tail = c.requires.kept.ends.from_in c.args.arc c.requires.arc in
    let same = ap (λ (x : Contents). slice_index x.from c.args.arc) inv.rest in
    let rest = ap (λ (x : Contents). x.nodes) inv.rest in
    let all = c.scan-size.ensures.visited in
    let nodes = ap (λ (x : Contents). x.nodes) all.rest in
    let node = c.word-node.ensures ∙ ap (λ (n : ℕ). slice_index c.loop-done.circ.scratch (n + 1 + c.loop-done.done))
    inv.nodes in
    record {
      rest = rw inv.rest at all.rest;
      tree = all.tree;
      kept = c.scan-size.ensures.kept;
      done = λ none.
          let before = unreached_before _ all.grows (omega (arith, tail, rest)) none in
          let scanned = rw node at (c.scan-size.ensures.done (ap (position_of c.scan-size.new.circ) same ∙ none)) in
          done_next c.args.circ.now c.requires.kept.ends inv.rest inv.tree c.loop-done-test.true (inv.done before) all
          scanned;
      within = omega (arith, all.grows.larger, c.loop-done-test.true);
      nodes = inv.nodes ∙ sym nodes;
      most = omega (arith, tree_size all.tree, nodes, inv.nodes);
    }
