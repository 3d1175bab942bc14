use Rattle.std.proofs.Common.{map}
use Rattle.month_fold.proofs.Resuming.{have_deliveries, state_use, stored_count}
use Rattle.month_fold.proofs.run.Run.resume.Goals as goal

pub start_after-requires-clause-deliveries : goal.start_after-requires-clause-deliveries
start_after-requires-clause-deliveries c =
    rw c.in_ok-engine.ensures (have_deliveries (λ m. m.value) c.args.basin.now c.args.series.now c.args.months.now
    c.requires.basin c.requires.series c.requires.months)

pub start_after-requires-clause-stated : goal.start_after-requires-clause-stated
start_after-requires-clause-stated c =
    rw c.in_ok-engine.ensures (state_use c.args.basin.now c.args.series.now (map (λ m. m.value) c.args.months.now)
    c.requires.basin c.requires.series c.requires.months)

pub start_after-requires-clause-stored : goal.start_after-requires-clause-stored
start_after-requires-clause-stored c =
    rw c.in_ok-engine.ensures (stored_count c.args.basin.now c.args.series.now (map (λ m. m.value) c.args.months.now)
    c.requires.months)

pub returns-clause-went : goal.returns-clause-went
returns-clause-went c =
    c.start_after.ensures.went c.args.series.now
    (rw (c.start_after.ensures.basin, c.in_ok-engine.ensures) c.requires.series)
    (rw (c.start_after.ensures.basin, c.in_ok-engine.ensures) c.requires.months)

pub returns-clause-stands : goal.returns-clause-stands
returns-clause-stands c = λ reaches.
    c.start_after.ensures.stands c.args.series.now
    (rw (c.start_after.ensures.basin, c.in_ok-engine.ensures) c.requires.series)
    (rw (c.start_after.ensures.basin, c.in_ok-engine.ensures) c.requires.months)
    (rw (c.start_after.ensures.basin, c.in_ok-engine.ensures) reaches)

pub invariant_of-result : goal.invariant_of-result
invariant_of-result c = record {
  records = map (λ m. m.value) c.args.months.now;
  went = returns-clause-went c;
}
