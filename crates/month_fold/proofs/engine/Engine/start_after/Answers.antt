use Rattle.std.proofs.Common.{ap, sym, map}
use Rattle.std.proofs.lemmas.List.{length-map}
use Rattle.month_terms.proofs.BlankRecords.{fits_with_closing}
use Rattle.water_model.specs.History.{opening_after}
use Rattle.water_model.specs.declared.types.MonthRecord.{MonthRecord}
use Rattle.month_fold.proofs.Standing.{stands_for}
use Rattle.month_fold.proofs.engine.Engine.start_after.Goals as goal

pub replay_returns-requires-clause-deliveries : goal.replay_returns-requires-clause-deliveries
replay_returns-requires-clause-deliveries c = rw (sym c.self.view_is) at c.requires.deliveries

pub use_after-requires-clause-stated : goal.use_after-requires-clause-stated
use_after-requires-clause-stated c = rw (sym c.self.view_is) at c.requires.stated

pub store_after-requires-clause-stored : goal.store_after-requires-clause-stored
store_after-requires-clause-stored c = rw (sym c.self.view_is) at c.requires.stored

pub invariant_of-self : goal.invariant_of-self
invariant_of-self c = record {
  valid = c.self.invariant.valid;
  solver = c.self.invariant.solver;
  calendar = c.self.invariant.calendar;
  tables = c.self.invariant.tables;
  month = rw c.store_after.ensures (fits_with_closing c.self.inside.basin.now c.deref_mut.result.now
      (opening_after c.self.inside.basin.now (map (λ m. m.value) c.args.months.now))
      (rw c.deref_mut.ensures.value c.self.invariant.month) (rw (sym c.self.view_is) at c.requires.stored));
  rows = c.replay_returns.ensures.of_rows;
  used = c.use_after.ensures.count;
}

pub returns-clause-went : goal.returns-clause-went
returns-clause-went c = λ series fits partial.
    let done = sym (length-map c.args.months.now (λ m. m.value)) in
    assumption (ap (λ (m : MonthRecord). m.closing) c.store_after.ensures)

pub returns-clause-stands : goal.returns-clause-stands
returns-clause-stands c = λ series fits partial reaches.
    stands_for _ (map (λ m. m.value) c.args.months.now) (returns-clause-went c series fits partial) reaches
