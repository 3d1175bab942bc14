use Rattle.std.proofs.Common.{◌≡◌, ◌∙◌, ◌^◌, ap, arith, length}
use Rattle.std.specs.Prelude.{◌==◌, slice_index}
use Rattle.water_model.specs.Basin.{head_of}
use Rattle.water_model.specs.Plans.{inflow_to}
use Rattle.finite_sums.proofs.Totals.{total_where_most}
use Rattle.cert_check.proofs.balancing.sum_into.Goals as goal

pub add_flows-requires-clause-small : goal.add_flows-requires-clause-small
add_flows-requires-clause-small c = λ n l.
    let sum =
    total_where_most (length c.args.basin.now.links) (10 ^ 15) (λ e. head_of c.args.basin.now e == n)
    (λ e. slice_index c.args.month.now.plan.flow e) c.requires.flow in
    let copied : slice_index c.copy_from_slice.new.self n ≡ slice_index c.args.month.now.supply n =
    ap (λ xs. slice_index xs n) (c.copy_from_slice.ensures.after ∙ c.as_slice.ensures) in
    let flow = ap (λ xs. inflow_to c.args.basin.now xs n) c.as_slice-2.ensures in
    omega (arith, sum, copied, c.requires.supply n l, c.requires.basin.bounded.links, flow)
