use Rattle.std.proofs.Common.{◌-◌, ◌<◌, ◌∙◌, refl, arith, length, ℕ}
use Rattle.std.specs.Prelude.{slice_index}
use Rattle.water_model.specs.Basin.{node_of_reservoir, is_at}
use Rattle.month_terms.proofs.Adds.{nothing_yet, one_more, sum_within, reservoir_node, node_within}
use Rattle.month_terms.proofs.supply.add_stored.Goals as goal

pub loop-reservoir-init : goal.loop-reservoir-init
loop-reservoir-init c = λ n. nothing_yet (λ v. is_at (node_of_reservoir c.args.basin.now v) n)
    (λ v. slice_index c.args.opening.now v - slice_index c.args.evaporated.now v) _

pub add_at-requires-clause-position : goal.add_at-requires-clause-position
add_at-requires-clause-position c =
    omega (
      arith,
      node_within c.args.basin.now c.loop-reservoir.reservoir _ c.requires.basin c.index.ensures,
      c.loop-reservoir.auto.supply,
      c.requires.supply,
    )

pub add_at-requires-clause-small : goal.add_at-requires-clause-small
add_at-requires-clause-small c =
    let node : ℕ = c.index.result.now.node in
    let within = node_within c.args.basin.now c.loop-reservoir.reservoir _ c.requires.basin c.index.ensures in
    let below : c.loop-reservoir.reservoir < length c.args.basin.now.reservoirs =
    omega (arith, c.loop-reservoir-test.true, c.len-reservoir-end.ensures) in
    omega (
      arith,
      sum_within (length c.args.basin.now.reservoirs) c.loop-reservoir.reservoir node
          (λ v. node_of_reservoir c.args.basin.now v)
          (λ v. slice_index c.args.opening.now v - slice_index c.args.evaporated.now v) node _ _
          (reservoir_node c.args.basin.now c.loop-reservoir.reservoir _ c.index.ensures) refl
          (c.loop-reservoir.invariant node) below,
      c.requires.small node within,
    )

pub loop-reservoir-preserved : goal.loop-reservoir-preserved
loop-reservoir-preserved c = λ n.
    c.add_at.ensures.each n ∙ one_more c.loop-reservoir.reservoir n (λ v. node_of_reservoir c.args.basin.now v)
    (λ v. slice_index c.args.opening.now v - slice_index c.args.evaporated.now v) c.index.result.now.node _ _
    (reservoir_node c.args.basin.now c.loop-reservoir.reservoir _ c.index.ensures) (c.loop-reservoir.invariant n)
