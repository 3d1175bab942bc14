use Rattle.std.proofs.Common.{◌∙◌, ap, sym, length, List, ℕ}
use Rattle.std.proofs.lemmas.List.{length-map}
use Rattle.water_model.specs.declared.types.Reservoir.{Reservoir}
use Rattle.month_fold.proofs.Resuming.{stored_by_last, stored_by_none}
use Rattle.water_model.proofs.Lists.{whole_rows}
use Rattle.month_fold.proofs.resume.store_after.Goals as goal

pub copy_from_slice-requires : goal.copy_from_slice-requires
copy_from_slice-requires c =
    ap length c.as_mut_slice.ensures.value ∙ c.requires.room
    ∙ sym (ap length (c.as_slice.ensures
    ∙ sym (stored_by_last (λ m. m.value) c.args.basin.now c.args.months.now c.in-Some.last.now c.deref.result.now
    c.deref.ensures c.in-Some.ensures.value))
    ∙ c.requires.stored)

pub returns-in-Some : goal.returns-in-Some
returns-in-Some c =
    ap (λ (xs : List ℕ). record c.args.month.now { closing = xs })
    (whole_rows c.args.month.now.closing c.copy_from_slice.new.self
    (c.copy_from_slice.ensures.len ∙ ap length c.as_mut_slice.ensures.value)
    ∙ (c.copy_from_slice.ensures.after
    ∙ (c.as_slice.ensures
    ∙ sym (stored_by_last (λ m. m.value) c.args.basin.now c.args.months.now c.in-Some.last.now c.deref.result.now
    c.deref.ensures c.in-Some.ensures.value))))

pub returns-in-None : goal.returns-in-None
returns-in-None c =
    ap (λ (xs : List ℕ). record c.args.month.now { closing = xs })
    (whole_rows c.args.month.now.closing c.write_openings.new.stored
    (ap length c.write_openings.ensures
    ∙ (length-map c.args.basin.now.reservoirs (λ (v : Reservoir). v.opening) ∙ sym c.requires.room))
    ∙ (c.write_openings.ensures ∙ sym (stored_by_none (λ m. m.value) c.args.basin.now c.args.months.now
    c.in-None.ensures.value)))
