use Rattle.std.proofs.Common.{◌≡◌, ◌∙◌, ◌^◌, ap, arith, length}
use Rattle.std.specs.Prelude.{◌==◌, slice_index}
use Rattle.water_model.specs.Basin.{tail_of, takes_at}
use Rattle.water_model.specs.Plans.{outflow_from, taken_at}
use Rattle.finite_sums.proofs.Totals.{total_where_most}
use Rattle.water_model.proofs.Lists.{no_numbers}
use Rattle.cert_check.proofs.balancing.sum_out_of.Goals as goal

pub add_flows-requires-clause-small : goal.add_flows-requires-clause-small
add_flows-requires-clause-small c = λ n l.
    let sum =
    total_where_most (length c.args.basin.now.links) (10 ^ 15) (λ e. tail_of c.args.basin.now e == n)
    (λ e. slice_index c.args.month.now.plan.flow e) c.requires.flow in
    let none : slice_index c.fill.new.self n ≡ 0 =
    ap (λ xs. slice_index xs n) (c.fill.ensures.after (λ y h. h)) ∙ no_numbers (length c.args.out_of.now) n in
    let flow = ap (λ xs. outflow_from c.args.basin.now xs n) c.as_slice.ensures in
    omega (arith, sum, none, flow, c.requires.basin.bounded.links)

pub add_takes-requires-clause-small : goal.add_takes-requires-clause-small
add_takes-requires-clause-small c = λ n l.
    let sum =
    total_where_most (length c.args.basin.now.links) (10 ^ 15) (λ e. tail_of c.args.basin.now e == n)
    (λ e. slice_index c.args.month.now.plan.flow e) c.requires.flow in
    let taken =
    total_where_most (length c.args.basin.now.rights) (10 ^ 9) (λ r. takes_at c.args.basin.now r n)
    (λ r. slice_index c.args.month.now.plan.take r) c.requires.take in
    let none : slice_index c.fill.new.self n ≡ 0 =
    ap (λ xs. slice_index xs n) (c.fill.ensures.after (λ y h. h)) ∙ no_numbers (length c.args.out_of.now) n in
    let flow = ap (λ xs. outflow_from c.args.basin.now xs n) c.as_slice.ensures in
    let take = ap (λ xs. taken_at c.args.basin.now xs n) c.as_slice-2.ensures in
    omega (
      arith,
      sum,
      taken,
      none,
      flow,
      take,
      c.add_flows.ensures.each n,
      c.requires.basin.bounded.links,
      c.requires.basin.bounded.rights,
    )
