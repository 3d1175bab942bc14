use Rattle.std.proofs.Common.{◌∙◌, sym, ap, refl, [], ◌∷◌, ◌++◌, map}
use Rattle.std.proofs.lemmas.List.{length-map}
use Rattle.water_model.specs.declared.types.MonthRecord.{MonthRecord}
use Rattle.month_fold.specs.RunInside.{engine_of}
use Rattle.month_fold.specs.Runs.{run_with}
use Rattle.month_fold.proofs.Resuming.{used_little}
use Rattle.month_fold.proofs.Standing.{reaches_next, stands_for, went_lent, went_next, went_through}
use Rattle.month_fold.proofs.engine.Engine.step.Goals as goal

pub next_month-requires-clause-months : goal.next_month-requires-clause-months
next_month-requires-clause-months g c = record {
  records = c.requires.months.records;
  went = went_lent (engine_of c.self.inside) c.args.series.now c.args.done c.requires.months.records
      c.deref_mut-2.result.now _ c.deref_mut-2.ensures.value c.as_slice.ensures
      (rw (sym c.self.view_is) at c.requires.months.went);
}

pub invariant_of-self : goal.invariant_of-self
invariant_of-self g c =
    let went = rw (sym c.self.view_is) at c.requires.months.went in
    record {
      valid = c.self.invariant.valid;
      solver = c.next_month.ensures.solver ∙ (c.deref_mut.ensures.value ∙ c.self.invariant.solver);
      calendar = c.self.invariant.calendar;
      tables = c.self.invariant.tables;
      month = c.next_month.ensures.fits;
      rows = c.month_done.ensures.rows ∙ c.self.invariant.rows;
      used = (c.use_volumes.ensures (map (λ k. k.delivered) c.requires.months.records)
          (length-map c.requires.months.records (λ (k : MonthRecord). k.delivered) ∙ sym went.done)
          went.used).count;
    }

pub returns-clause-went : goal.returns-clause-went
returns-clause-went g c = λ records was.
    let engine = engine_of c.self.inside in
    let went = rw (sym c.self.view_is) at was in
    let lent = went_lent engine c.args.series.now c.args.done records c.deref_mut-2.result.now _
    c.deref_mut-2.ensures.value c.as_slice.ensures went in
    let delivered = c.as_slice-2.ensures ∙ ap (λ (m : MonthRecord). m.delivered) c.deref-2.ensures in
    went_next (run_with engine c.args.series.now c.args.done) records c.next_month.new.month
    c.month_done.new.self c.use_volumes.new.used went (rw (sym c.self.view_is) at c.requires.left)
    (c.next_month.ensures.next records lent).follows
    (rw (← delivered) (c.month_done.ensures.stands c.self.inside.basin.now.returns (map (λ k. k.delivered) records)
    went.lags))
    (rw c.deref-3.ensures at (c.use_volumes.ensures (map (λ k. k.delivered) records)
    (length-map records (λ (k : MonthRecord). k.delivered) ∙ sym went.done) went.used))

pub returns-clause-reaches : goal.returns-clause-reaches
returns-clause-reaches g c =
    let lent = went_lent (engine_of c.self.inside) c.args.series.now c.args.done c.requires.months.records
    c.deref_mut-2.result.now _ c.deref_mut-2.ensures.value c.as_slice.ensures
    (rw (sym c.self.view_is) at c.requires.months.went) in
    rw (sym c.self.view_is) (c.next_month.ensures.next c.requires.months.records lent).reaches

pub returns-clause-month : goal.returns-clause-month
returns-clause-month g c = λ records was.
    stands_for _ (records ++ c.next_month.new.month ∷ [])
    (returns-clause-went g c records (went_through _ records was))
    (reaches_next _ records c.next_month.new.month (rw (sym c.self.view_is) at was.reaches)
    (rw (sym c.self.view_is) at (returns-clause-reaches g c)))

pub use_volumes-requires-clause-index : goal.use_volumes-requires-clause-index
use_volumes-requires-clause-index g c = rw (sym c.self.view_is) at c.requires.left

pub use_volumes-requires-clause-deliveries : goal.use_volumes-requires-clause-deliveries
use_volumes-requires-clause-deliveries g c = rw c.deref-3.ensures
    record { count = c.next_month.ensures.fits.fits.delivered; small = c.next_month.ensures.small }

pub use_volumes-requires-clause-little : goal.use_volumes-requires-clause-little
use_volumes-requires-clause-little g c =
    used_little (run_with (engine_of c.self.inside) c.args.series.now c.args.done) c.requires.months.records
    (rw (sym c.self.view_is) at c.requires.months.went)

pub next_month-requires-clause-calendar : goal.next_month-requires-clause-calendar
next_month-requires-clause-calendar g c = c.self.invariant.calendar

pub next_month-requires-clause-tables : goal.next_month-requires-clause-tables
next_month-requires-clause-tables g c = c.deref.ensures.value ∙ c.self.invariant.tables

pub next_month-requires-clause-solver : goal.next_month-requires-clause-solver
next_month-requires-clause-solver g c = c.deref_mut.ensures.value ∙ c.self.invariant.solver

pub next_month-requires-clause-index : goal.next_month-requires-clause-index
next_month-requires-clause-index g c = rw (sym c.self.view_is) at c.requires.left

pub next_month-requires-clause-month : goal.next_month-requires-clause-month
next_month-requires-clause-month g c = rw c.deref_mut-2.ensures.value c.self.invariant.month

pub use_volumes-requires-clause-basin : goal.use_volumes-requires-clause-basin
use_volumes-requires-clause-basin g c = c.self.invariant.valid

pub use_volumes-requires-clause-used : goal.use_volumes-requires-clause-used
use_volumes-requires-clause-used g c = c.self.invariant.used

pub returns-clause-basin : goal.returns-clause-basin
returns-clause-basin g c = rw (sym c.self.view_is) refl
