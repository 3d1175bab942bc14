use Rattle.std.proofs.Common.{ℕ, ◌≡◌, ◌<◌, ◌+◌, arith, length, slice_index, subst, sym, ◌∙◌, List, Vec, Global}
use Rattle.std.proofs.lemmas.List.{get_or_default}
use Rattle.river_net.specs.Sorting.{HasSources}
use Rattle.river_net.proofs.Sorts.{sources_start, source_next, source_skip}
use Rattle.river_net.proofs.sorting.Sorting.start.Goals as goal
use Rattle.river_net.proofs.sorting.Sorting.start.Goals.{then-index-eq0+in_ok-push, else-index-eq0}

pub loop-node-init : goal.loop-node-init
loop-node-init c = sources_start c.new-order.ensures.items c.in_ok-waits.ensures.entering

pub loop-node-preserved : goal.loop-node-preserved
loop-node-preserved c =
    let g = c.args.graph.now in
    let waits : List ℕ = c.in_ok-waits.waits.items in
    let below : c.loop-node.node < length waits = omega (arith, c.loop-node-test.true, c.len-node-end.ensures) in
    let count : c.index.result.now ≡ slice_index waits c.loop-node.node =
    c.index.ensures ∙ get_or_default waits c.loop-node.node c.index.result.now 0 below in
    elim c.if-index-eq0.branch [
      | then-index-eq0+in_ok-push w ↦
          subst (λ (v : Vec ℕ Global). HasSources g v.items waits (c.loop-node.node + 1)) (sym w.order-is) (source_next
          c.in_ok-waits.ensures.within
          (let n = c.in_ok-waits.ensures.entering.count in omega arith) (sym count ∙ w.if-index-eq0.true)
          w.in_ok-push.ensures.items c.loop-node.invariant)
      | else-index-eq0 w ↦
          subst (λ (v : Vec ℕ Global). HasSources g v.items waits (c.loop-node.node + 1)) (sym w.order-is)
          (source_skip (λ zero. w.if-index-eq0.false (count ∙ zero)) c.loop-node.invariant)
    ]
