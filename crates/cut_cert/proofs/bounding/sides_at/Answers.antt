use Rattle.std.proofs.Common.{◌≡◌, ◌∙◌, arith, length, rules}
use Rattle.std.specs.Prelude.{slice_index}
use Rattle.finite_sums.proofs.Totals.{term_le_total}
use Rattle.water_model.specs.Basin.{taking_node}
use Rattle.cut_cert.specs.Rows.{carry_in, ends_at, held_at, kept_out, senior_take}
use Rattle.cut_cert.specs.Sets.{marked_nodes}
use Rattle.cut_cert.proofs.BoundParts.{all_held, carry_in_most, kept_out_most}
use Rattle.cut_cert.proofs.bounding.sides_at.Goals as goal

pub sum_at-brought-requires-clause-most : goal.sum_at-brought-requires-clause-most
sum_at-brought-requires-clause-most c = λ link one l is.
    let b = c.args.basin.now in
    let cut = marked_nodes c.args.basin.now c.args.words.now in
    let same : one ≡ carry_in b c.args.month cut link = search rules in
    omega (
      arith,
      same,
      carry_in_most b c.args.month cut link c.requires.basin c.requires.month
          (omega (arith, l, c.requires.rows.enter.one_next)),
    )

pub sum_at-kept-requires-clause-most : goal.sum_at-kept-requires-clause-most
sum_at-kept-requires-clause-most c = λ link one l is.
    let b = c.args.basin.now in
    let cut = marked_nodes c.args.basin.now c.args.words.now in
    let same : one ≡ kept_out b c.args.delivered.now c.args.right cut link = search rules in
    omega (arith, same, kept_out_most b c.args.delivered.now c.args.right cut link c.requires.amounts.most)

pub overflow_add-result : goal.overflow_add-result
overflow_add-result c =
    let b = c.args.basin.now in
    omega (
      arith,
      c.sum_at-brought.ensures.most,
      c.requires.amounts.small,
      term_le_total (length b.nodes) (λ n. slice_index c.args.supply.now n) c.args.node c.requires.node,
    )

pub returns-clause-capacity : goal.returns-clause-capacity
returns-clause-capacity c =
    let b = c.args.basin.now in
    let cut = marked_nodes c.args.basin.now c.args.words.now in
    let brought = c.sum_at-brought.ensures.sum (ends_at b) (length b.links) (length b.nodes)
    (carry_in b c.args.month cut) c.requires.rows.enter (λ link one l is. search rules) in
    omega (arith, brought)

pub returns-clause-kept : goal.returns-clause-kept
returns-clause-kept c =
    let b = c.args.basin.now in
    let d = c.args.delivered.now in
    let right = c.args.right in
    let cut = marked_nodes c.args.basin.now c.args.words.now in
    let kept = c.sum_at-kept.ensures.sum (held_at b c.args.roll.now) (length b.links) (length b.nodes)
    (kept_out b d right cut) c.requires.rows.held (λ link one l is. search rules)
    ∙ all_held b c.args.roll.now d right cut c.args.node c.requires.roll in
    let taken = c.sum_at-taken.ensures.sum (taking_node b) (length b.rights) (length b.nodes)
    (senior_take b d right) c.requires.rows.takers (λ taker one l is. search rules) in
    omega (arith, kept, taken)
