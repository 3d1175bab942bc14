use Rattle.std.proofs.Common.{◌≡◌, ℕ, ◌∙◌, ◌+◌, ◌-◌, ◌≤◌, sym, ap, arith, length, subst, take, List}
use Rattle.std.proofs.Math.Seq.{take-length}
use Rattle.std.proofs.lemmas.List.{take-take}
use Rattle.water_model.specs.declared.types.Basin.{Basin}
use Rattle.water_model.specs.declared.types.Series.{Series}
use Rattle.water_model.specs.declared.types.MonthRecord.{MonthRecord}
use Rattle.month_fold.specs.Runs.{EngineView, RunStandsFor, run_with}
use Rattle.month_fold.specs.Works.{Solves, WorkDone}
use Rattle.month_fold.proofs.Works.{Solves-none, Solves-then, Solves-within}
use Rattle.month_fold.proofs.Resuming.{have_deliveries, stored_count, state_use}
use Rattle.edit_session.specs.Sessions.{HasKeptMonths, records_of}
use Rattle.edit_session.proofs.solving.solve_months.Goals as goal

-- one month more
solves_more : (b : Basin) (start before after : WorkDone) (i kept : ℕ) → kept ≤ i → Solves (i - kept) b start before →
    Solves 1 b before after → Solves (i + 1 - kept) b start after
solves_more b start before after i kept l so_far more =
    let next : i + 1 - kept ≡ (i - kept) + 1 = omega arith in
    rw next (Solves-then (i - kept) 1 b start before after so_far more)

-- the months up to one are within those up to a later one
solves_within : (b : Basin) (start after : WorkDone) (i kept count : ℕ) → i ≤ count →
    Solves (i - kept) b start after → Solves (count - kept) b start after
solves_within b start after i kept count l so_far =
    Solves-within (i - kept) (count - kept) b start after (omega (arith, l)) so_far

-- the months of a run may be kept
kept_of_run : (engine : EngineView) (b : Basin) (series : Series) (records : List MonthRecord) (done : ℕ) →
    engine.basin ≡ b → RunStandsFor (run_with engine series done) records →
    HasKeptMonths (record { basin = b; series = series; kept = records })
kept_of_run engine b series records done e stands = record {
  partial = rw (← e) stands.partial;
  reaches = rw (← e) stands.reaches;
}

pub start_after-requires-clause-deliveries : goal.start_after-requires-clause-deliveries
start_after-requires-clause-deliveries g c =
    rw c.as_slice.ensures.value (have_deliveries (λ m. m.value) c.args.engine.now.basin c.args.series.now
    c.args.kept.now.items c.requires.basin c.requires.series c.requires.kept.partial)

pub start_after-requires-clause-stated : goal.start_after-requires-clause-stated
start_after-requires-clause-stated g c =
    rw c.as_slice.ensures.value (state_use c.args.engine.now.basin c.args.series.now (records_of c.args.kept.now.items)
    c.requires.basin c.requires.series c.requires.kept.partial)

pub start_after-requires-clause-stored : goal.start_after-requires-clause-stored
start_after-requires-clause-stored g c =
    rw c.as_slice.ensures.value (stored_count c.args.engine.now.basin c.args.series.now
    (records_of c.args.kept.now.items) c.requires.kept.partial)

pub loop-index-init : goal.loop-index-init
loop-index-init g c =
    let count : length c.args.kept.now.items ≡ c.len-index.result =
    sym (ap length c.as_slice.ensures.value) ∙ c.as_slice.ensures.len ∙ sym c.len-index.ensures in
    let stands =
    c.start_after.ensures.stands c.args.series.now (rw c.start_after.ensures.basin c.requires.series)
    (rw (c.start_after.ensures.basin, c.as_slice.ensures.value) c.requires.kept.partial)
    (rw (c.start_after.ensures.basin, c.as_slice.ensures.value) c.requires.kept.reaches) in
    record {
      basin = c.start_after.ensures.basin;
      stands = subst (λ (n : ℕ). RunStandsFor (run_with c.start_after.new.self c.args.series.now n)
          (records_of c.args.kept.now.items)) count (rw c.as_slice.ensures.value at stands);
      count = sym c.len-index.ensures;
      stay = ap (λ n. take n c.args.kept.now.items) (sym c.as_slice.ensures.len ∙ ap length c.as_slice.ensures.value)
          ∙ take-length c.args.kept.now.items;
      work = subst (λ (n : ℕ). Solves n c.args.engine.now.basin c.args.work.now c.args.work.now)
          (let none : 0 ≡ c.len-index.result - c.args.kept.now.len = omega arith in none)
          (Solves-none c.args.engine.now.basin c.args.work.now);
    }

pub returns-in_err-add_month-clause-work : goal.returns-in_err-add_month-clause-work
returns-in_err-add_month-clause-work g c =
    solves_within c.args.engine.now.basin c.args.work.now c.add_month.new.work (c.loop-index.index + 1)
    c.args.kept.now.len c.args.count (omega arith)
    (solves_more c.args.engine.now.basin c.args.work.now c.loop-index.work c.add_month.new.work c.loop-index.index
    c.args.kept.now.len (omega arith) c.loop-index.invariant.work
    (rw (← c.loop-index.invariant.basin) c.add_month.ensures.work))

pub loop-index-preserved : goal.loop-index-preserved
loop-index-preserved g c = record {
  basin = c.in_ok-add_month.ensures.basin ∙ c.loop-index.invariant.basin;
  stands = c.in_ok-add_month.ensures.stands;
  count = c.in_ok-add_month.ensures.count ∙ ap (λ n. n + 1) c.loop-index.invariant.count;
  stay =
      sym (take-take c.args.kept.now.len c.loop-index.kept.len c.add_month.new.kept.items (omega arith))
      ∙ ap (take c.args.kept.now.len) c.in_ok-add_month.ensures.stay ∙ c.loop-index.invariant.stay;
  work =
      solves_more c.args.engine.now.basin c.args.work.now c.loop-index.work c.add_month.new.work c.loop-index.index
      c.args.kept.now.len (omega arith) c.loop-index.invariant.work
      (rw (← c.loop-index.invariant.basin) c.in_ok-add_month.ensures.work);
}

pub returns-clause-kept : goal.returns-clause-kept
returns-clause-kept g c =
    kept_of_run c.loop-index.engine c.args.engine.now.basin c.args.series.now _ c.loop-index.index
    c.loop-index.invariant.basin c.loop-index.invariant.stands

pub returns-in_err-add_month-clause-kept : goal.returns-in_err-add_month-clause-kept
returns-in_err-add_month-clause-kept g c =
    rw c.in_err-add_month.ensures.same
    (kept_of_run c.loop-index.engine c.args.engine.now.basin c.args.series.now _ c.loop-index.index
    c.loop-index.invariant.basin c.loop-index.invariant.stands)

pub returns-clause-work : goal.returns-clause-work
returns-clause-work g c =
    solves_within c.args.engine.now.basin c.args.work.now c.loop-index.work c.loop-index.index c.args.kept.now.len
    c.args.count (omega (arith, c.loop-index.auto.index-end, c.requires.more)) c.loop-index.invariant.work

pub add_month-requires-clause-stands : goal.add_month-requires-clause-stands
add_month-requires-clause-stands g c = c.loop-index.invariant.stands

pub returns-clause-basin : goal.returns-clause-basin
returns-clause-basin g c = c.loop-index.invariant.basin

pub returns-clause-stay : goal.returns-clause-stay
returns-clause-stay g c = c.loop-index.invariant.stay

pub returns-in_err-add_month-clause-basin : goal.returns-in_err-add_month-clause-basin
returns-in_err-add_month-clause-basin g c = c.in_err-add_month.ensures.basin ∙ c.loop-index.invariant.basin

pub returns-in_err-add_month-clause-stay : goal.returns-in_err-add_month-clause-stay
returns-in_err-add_month-clause-stay g c = rw c.in_err-add_month.ensures.same c.loop-index.invariant.stay
