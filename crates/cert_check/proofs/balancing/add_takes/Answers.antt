use Rattle.std.proofs.Common.{◌<◌, ◌∙◌, refl, ap, sym, arith, length}
use Rattle.std.specs.Prelude.{slice_index}
use Rattle.water_model.specs.Basin.{taking_node, takes_at}
use Rattle.month_terms.proofs.Adds.{nothing_yet, one_more, sum_within}
use Rattle.cert_check.proofs.Walking.{none_more}
use Rattle.cert_check.proofs.balancing.add_takes.Goals as goal
use Rattle.cert_check.proofs.balancing.add_takes.Goals.{in-Some, in-None}

pub loop-right-init : goal.loop-right-init
loop-right-init c = λ n. nothing_yet (λ r. takes_at c.args.basin.now r n) (λ r. slice_index c.args.take.now r) _

pub add_at-requires-clause-small : goal.add_at-requires-clause-small
add_at-requires-clause-small c =
    let below : c.loop-right.right < length c.args.basin.now.rights =
    omega (arith, c.loop-right-test.true, c.len-right-end.ensures) in
    omega (
      arith,
      sum_within (length c.args.basin.now.rights) c.loop-right.right c.in-Some.node
          (λ r. taking_node c.args.basin.now r) (λ r. slice_index c.args.take.now r)
          c.in-Some.node _ _ (sym c.in-Some.ensures.value) refl (c.loop-right.invariant c.in-Some.node) below,
      c.requires.small c.in-Some.node c.in-Some.ensures.within,
    )

pub loop-right-preserved : goal.loop-right-preserved
loop-right-preserved c = λ n. elim c.match-taking_node.branch [
  | in-Some w ↦ ap (λ xs. slice_index xs n) w.out_of-is ∙ (w.add_at.ensures.each n
      ∙ one_more c.loop-right.right n (λ r. taking_node c.args.basin.now r) (λ r. slice_index c.args.take.now r)
      w.in-Some.node _ _ (sym w.in-Some.ensures.value) (c.loop-right.invariant n))
  | in-None w ↦ ap (λ xs. slice_index xs n) w.out_of-is
      ∙ none_more n (λ r. taking_node c.args.basin.now r) (λ r. slice_index c.args.take.now r) _
      (sym w.in-None.ensures.value) (c.loop-right.invariant n)
]
