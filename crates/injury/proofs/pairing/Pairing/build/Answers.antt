use Rattle.std.proofs.Common.{ap, ◌∙◌, arith, length}
use Rattle.water_model.proofs.Order.{length-by_seniority}
use Rattle.injury.specs.Common.{common_rights}
use Rattle.injury.proofs.Pairs.{common_bounded}
use Rattle.injury.proofs.pairing.Pairing.build.Goals as goal

pub pairs_of-requires-clause-rights : goal.pairs_of-requires-clause-rights
pairs_of-requires-clause-rights c = c.by_seniority.ensures ∙ c.in_ok-roll.ensures.order

pub returns : goal.returns
returns c = c.in_ok-pairs.ensures ∙ ap (common_rights c.args.first.now) c.in_ok-names.ensures.basin

pub invariant_of-result : goal.invariant_of-result
invariant_of-result c =
    let bounded = c.requires.first.bounded.rights in
    omega (
      arith,
      ap length c.in_ok-pairs.ensures,
      common_bounded c.args.first.now c.in_ok-names.names.basin.now,
      length-by_seniority c.args.first.now.rights,
    )
