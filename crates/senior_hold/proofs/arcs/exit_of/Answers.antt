use Rattle.std.proofs.Common.{arith, ap, length}
use Rattle.std.proofs.lemmas.Option.{slice_get_within}
use Rattle.std.specs.Prelude.{unwrap_or, option_map}
use Rattle.finite_sums.proofs.Totals.{count_at_most}
use Rattle.water_model.proofs.Valid.{ends}
use Rattle.senior_hold.specs.MonthNetwork.{takes}
use Rattle.senior_hold.proofs.arcs.exit_of.Goals as goal

pub overflow_add-result : goal.overflow_add-result
overflow_add-result c =
    let b = c.args.basin.now in
    let inside = slice_get_within b.links c.in-Instream.link _ c.index-in-Instream.ensures in
    omega (
      arith,
      c.requires.first,
      count_at_most (length b.rights) (λ r. takes b r),
      ap (λ o. unwrap_or (option_map (λ x. x.to) o) 0) c.index-in-Instream.ensures,
      (ends b c.requires.valid c.in-Instream.link inside).1,
      c.requires.valid.bounded.nodes,
      c.requires.valid.bounded.links,
      c.requires.valid.bounded.rights,
    )
