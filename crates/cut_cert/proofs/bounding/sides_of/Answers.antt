use Rattle.std.proofs.Common.{◌≡◌, ◌+◌, ◌∙◌, length, Some, arith}
use Rattle.chains.specs.Chains.{IsFirst}
use Rattle.water_model.specs.Plans.{carry_of}
use Rattle.water_model.specs.Cuts.{cut_capacity, cut_kept}
use Rattle.water_model.specs.Lookups.{has}
use Rattle.cut_cert.specs.Rows.{node_capacity, node_kept}
use Rattle.cut_cert.specs.Sets.{marked_nodes}
use Rattle.cut_cert.proofs.BoundParts.{capacity_by_node, capacity_small, kept_by_node, kept_small}
use Rattle.cut_cert.proofs.RowSums.{IsSummedSoFar, of_marks, sum_all, sum_fits, sum_more, sum_start}
use Rattle.cut_cert.proofs.bounding.sides_of.Goals as goal

pub loop-next-init : goal.loop-next-init
loop-next-init c =
    let b = c.args.basin.now in
    let cut = marked_nodes c.args.basin.now c.args.words.now in
    let first = c.next_marked_in_both-next.result in
    let next : IsFirst (λ n. has cut n) 0 (length b.nodes) first =
    of_marks c.args.words.now c.len-nodes.result (length b.nodes) 0 first c.len-nodes.ensures
    c.next_marked_in_both-next.ensures.some
    c.next_marked_in_both-next.ensures.none in
    record {
      capacity = sum_start (λ n. has cut n) (length b.nodes) (node_capacity b c.args.month c.args.supply.now cut) first
          next;
      kept = sum_start (λ n. has cut n) (length b.nodes) (node_kept b c.args.delivered.now c.args.right cut) first next;
    }

pub overflow_add-sides : goal.overflow_add-sides
overflow_add-sides c =
    let b = c.args.basin.now in
    let cut = marked_nodes c.args.basin.now c.args.words.now in
    let f = node_capacity b c.args.month c.args.supply.now cut in
    let so : IsSummedSoFar (λ n. has cut n) (length b.nodes) f c.loop-next.sides.capacity (Some c.in-Some.node) =
    rw c.in-Some.is at c.loop-next.invariant.capacity in
    omega (
      arith,
      c.sides_at-one.ensures.capacity,
      sum_fits (λ n. has cut n) (length b.nodes) f c.loop-next.sides.capacity c.in-Some.node so,
      capacity_by_node b c.args.month c.args.supply.now cut c.requires.basin,
      capacity_small b c.args.month c.args.supply.now c.args.delivered.now cut c.requires.basin c.requires.month
          c.requires.amounts,
    )

pub overflow_add-sides-in-Some : goal.overflow_add-sides-in-Some
overflow_add-sides-in-Some c =
    let b = c.args.basin.now in
    let cut = marked_nodes c.args.basin.now c.args.words.now in
    let f = node_kept b c.args.delivered.now c.args.right cut in
    let so : IsSummedSoFar (λ n. has cut n) (length b.nodes) f c.loop-next.sides.kept (Some c.in-Some.node) =
    rw c.in-Some.is at c.loop-next.invariant.kept in
    omega (
      arith,
      c.sides_at-one.ensures.kept,
      sum_fits (λ n. has cut n) (length b.nodes) f c.loop-next.sides.kept c.in-Some.node so,
      kept_by_node b c.args.delivered.now c.args.right cut c.requires.basin,
      kept_small b c.args.delivered.now c.args.right cut c.requires.basin c.requires.amounts.most,
    )

pub loop-next-preserved : goal.loop-next-preserved
loop-next-preserved c =
    let b = c.args.basin.now in
    let cut = marked_nodes c.args.basin.now c.args.words.now in
    let f = node_capacity b c.args.month c.args.supply.now cut in
    let g = node_kept b c.args.delivered.now c.args.right cut in
    let node = c.in-Some.node in
    let further = c.next_marked_in_both-next-in-Some.result in
    let next : IsFirst (λ n. has cut n) (node + 1) (length b.nodes) further =
    of_marks c.args.words.now c.len-nodes.result (length b.nodes) (node + 1) further c.len-nodes.ensures
    c.next_marked_in_both-next-in-Some.ensures.some
    c.next_marked_in_both-next-in-Some.ensures.none in
    record {
      capacity =
          sum_more (λ n. has cut n) (length b.nodes) f c.loop-next.sides.capacity node c.sides_at-one.result.capacity
          further
          (rw c.in-Some.is at c.loop-next.invariant.capacity) c.sides_at-one.ensures.capacity next;
      kept =
          sum_more (λ n. has cut n) (length b.nodes) g c.loop-next.sides.kept node c.sides_at-one.result.kept further
          (rw c.in-Some.is at c.loop-next.invariant.kept) c.sides_at-one.ensures.kept next;
    }

pub returns : goal.returns
returns c =
    let b = c.args.basin.now in
    let cut = marked_nodes c.args.basin.now c.args.words.now in
    let capacity : c.loop-next.sides.capacity ≡ cut_capacity b (carry_of b c.args.month) c.args.supply.now cut =
    sum_all (λ n. has cut n) (length b.nodes) (node_capacity b c.args.month c.args.supply.now cut)
    c.loop-next.sides.capacity (rw c.in_default.is at c.loop-next.invariant.capacity)
    ∙ capacity_by_node b c.args.month c.args.supply.now cut c.requires.basin in
    let kept : c.loop-next.sides.kept ≡ cut_kept b c.args.delivered.now c.args.right cut =
    sum_all (λ n. has cut n) (length b.nodes) (node_kept b c.args.delivered.now c.args.right cut)
    c.loop-next.sides.kept (rw c.in_default.is at c.loop-next.invariant.kept)
    ∙ kept_by_node b c.args.delivered.now c.args.right cut c.requires.basin in
    record {
      capacity = capacity;
      kept = kept;
      small_capacity =
          omega (
            arith,
            capacity,
            capacity_small b c.args.month c.args.supply.now c.args.delivered.now cut
                c.requires.basin c.requires.month c.requires.amounts,
          );
      small_kept =
          omega (
            arith,
            kept,
            kept_small b c.args.delivered.now c.args.right cut c.requires.basin
                c.requires.amounts.most,
          );
    }
