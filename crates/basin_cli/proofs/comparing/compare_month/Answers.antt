use Rattle.std.proofs.Common.{List, sym, ◌∙◌, subst, arith}
use Rattle.result_text.specs.Range.{FitsText}
use Rattle.injury.specs.Common.{HaveDeliveries}
use Rattle.injury.specs.declared.pair.Pair.{Pair}
use Rattle.injury.proofs.Growing.{common_deliver}
use Rattle.basin_cli.proofs.Compared.{compared_more, done_more, bounded_injuries}
use Rattle.basin_cli.proofs.Monthly.{last_month}
use Rattle.basin_cli.proofs.comparing.compare_month.Goals as goal

pub draft_injuries-requires-clause-month : goal.draft_injuries-requires-clause-month
draft_injuries-requires-clause-month g c =
    let all = c.requires.compared in
    (subst (FitsText c.args.basin.now) (sym c.month.ensures)
    (last_month _ c.step.new.self all.records _ (c.step.ensures.basin ∙ all.first_basin)
    (c.step.ensures.month all.records all.first_stands)).fits).month

pub draft_injuries-requires-clause-fits : goal.draft_injuries-requires-clause-fits
draft_injuries-requires-clause-fits g c =
    let all = c.requires.compared in
    (subst (FitsText c.args.basin.now) (sym c.month.ensures)
    (last_month _ c.step.new.self all.records _ (c.step.ensures.basin ∙ all.first_basin)
    (c.step.ensures.month all.records all.first_stands)).fits).fits.delivered

pub draft_injuries-requires-clause-records : goal.draft_injuries-requires-clause-records
draft_injuries-requires-clause-records g c =
    let all = c.requires.compared in
    subst (λ (pairs : List Pair). HaveDeliveries pairs c.month.result.now c.month-2.result.now) (sym c.requires.pairing)
    (common_deliver c.args.basin.now c.args.other.now c.month.result.now c.month-2.result.now
    ((subst (FitsText c.args.basin.now) (sym c.month.ensures)
    (last_month _ c.step.new.self all.records _ (c.step.ensures.basin ∙ all.first_basin)
    (c.step.ensures.month all.records all.first_stands)).fits).fits)
    ((subst (FitsText c.args.other.now) (sym c.month-2.ensures)
    (last_month _ c.step-2.new.self all.others _ (c.step-2.ensures.basin ∙ all.second_basin)
    (c.step-2.ensures.month all.others all.second_stands)).fits).fits))

pub overflow_add-result : goal.overflow_add-result
overflow_add-result g c =
    omega (
      arith,
      bounded_injuries _ _ _ _ c.month.result.now c.month-2.result.now _ _ c.in_ok-count.count c.requires.basin
          c.requires.compared c.requires.left
          (rw c.requires.pairing at c.in_ok-count.ensures.number),
    )

pub returns-clause-abreast : goal.returns-clause-abreast
returns-clause-abreast g c =
    let all = c.requires.compared in
    done_more c.step.new.self c.step-2.new.self all.records all.others _ _ all.abreast
    (c.step.ensures.month all.records all.first_stands) (c.step-2.ensures.month all.others all.second_stands)

pub returns-clause-compared : goal.returns-clause-compared
returns-clause-compared g c =
    let all = c.requires.compared in
    compared_more _ _ _ _ c.step.new.self c.step-2.new.self _ _ _ _ _ c.in_ok-count.count all
    (c.step.ensures.basin ∙ all.first_basin) (c.step-2.ensures.basin ∙ all.second_basin)
    (c.step.ensures.month all.records all.first_stands) (c.step-2.ensures.month all.others all.second_stands)
    (rw (c.requires.pairing, c.month.ensures, c.month-2.ensures) at c.in_ok-count.ensures.number)
    (rw (c.requires.pairing, c.month.ensures, c.month-2.ensures) at c.in_ok-count.ensures.rows)
