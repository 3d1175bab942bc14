use Rattle.std.proofs.Common.{ap, arith, length}
use Rattle.std.specs.Prelude.{slice_index}
use Rattle.finite_sums.proofs.Totals.{term_le_total}
use Rattle.cert_check.proofs.Bounded.{supplies_small}
use Rattle.cert_check.proofs.Dues.{keeps_room}
use Rattle.cert_check.proofs.ready.know_sums.Goals as goal

pub make_sums-requires-clause-supply : goal.make_sums-requires-clause-supply
make_sums-requires-clause-supply c = λ n l.
    let month = c.requires.month in
    let k = c.know_supply.ensures.keeps month.so_far month.keeps in
    let all = supplies_small c.requires.context.valid c.requires.context.series month.partial
    month.under_way
    (k.supply (ap (λ a. a.has_supply) c.know_supply.ensures.rest)) in
    omega (
      arith,
      all,
      term_le_total (length c.args.context.now.basin.now.nodes)
          (λ v. slice_index c.know_supply.new.state.month.supply v) n l,
    )

pub returns-clause-keeps : goal.returns-clause-keeps
returns-clause-keeps c = grind (arith, keeps_room)

pub know_supply-requires-clause-context : goal.know_supply-requires-clause-context
know_supply-requires-clause-context c = c.requires.context

pub know_supply-requires-clause-month : goal.know_supply-requires-clause-month
know_supply-requires-clause-month c = c.requires.month
