use Rattle.inflow_file.proofs.Words.{◌∙◌, refl, sym, ap, get_or, None, is_some, slice_set, Some}
use Rattle.water_model.proofs.RunMonths.{months_have_their_index}
use Rattle.inflow_file.proofs.DueLaws.{outside_is, repeated_is, entered_is}
use Rattle.inflow_file.proofs.RunLaws.{month_outside}
use Rattle.inflow_file.proofs.cells.enter.Goals as goal

pub returns-in_default : goal.returns-in_default
returns-in_default c =
    λ earlier is. outside_is _ _ _ _ (month_outside _ _ c.requires.basin c.requires.entry.month
    (sym c.index_in_run.ensures.value ∙ c.in_default.is)) is

pub returns-then-is_some : goal.returns-then-is_some
returns-then-is_some c = λ earlier is.
    let inside = (months_have_their_index _ _ _ c.requires.basin c.requires.entry.month).0
    (sym c.in-Some.ensures.value) in (
      refl,
      sym (repeated_is _ _ _ _ _ c.requires.entry inside.0 inside.1 is)
          ∙ (ap (λ k. is_some (get_or c.args.amounts.now k None)) (sym c.cell_of-cell.ensures.cell)
          ∙ sym c.if-is_some.ensures),
    )

pub returns : goal.returns
returns c = λ earlier is.
    let inside = (months_have_their_index _ _ _ c.requires.basin c.requires.entry.month).0
    (sym c.in-Some.ensures.value) in
    let h = entered_is _ _ _ _ _ c.requires.basin.run.first c.requires.entry inside.0 inside.1 is (ap
    (λ k. is_some (get_or c.args.amounts.now k None)) (sym c.cell_of-cell.ensures.cell) ∙ sym c.if-is_some.ensures) in
    (h.0, ap (λ k. slice_set c.args.amounts.now k (Some c.args.entry.now.amount)) c.cell_of-cell.ensures.cell ∙ h.1)
