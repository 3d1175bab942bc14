-- All months of a run.
use Rattle.std.proofs.Common.{◌≡◌, List, [], ◌∷◌, ◌++◌}
use Rattle.month_fold.specs.Runs.{GoesOn, RunView, RunStandsFor}
use Rattle.month_fold.proofs.Whole.{whole_history}
use Rattle.water_model.specs.declared.types.Basin.{Basin}
use Rattle.water_model.specs.declared.types.Series.{Series}
use Rattle.water_model.specs.declared.types.MonthRecord.{MonthRecord}
use Rattle.reports.specs.Ends.{IsRun}
use Rattle.reports.specs.Tallies.{IsKeptBefore, IsKeptOf, IsKeptOfRun}
use Rattle.reports.proofs.Balanced.{figures_balanced}

-- the months that a run went through are a whole run where they are all
whole_run : (run : RunView) (records : List MonthRecord) → RunStandsFor run records → run.done ≡ run.basin.months →
    IsRun run.basin run.series records
whole_run run records stands done = record {
  history = whole_history run records stands done;
  reaches = stands.reaches;
  balanced = figures_balanced run.basin run.series records stands.valid stands.partial;
}

module _ {Kept : Type 0} (IsOf : Basin → Series → List MonthRecord → Kept → Type 0) where
  module _ (run next : RunView) (kept : Kept) (goes : GoesOn run next) (of : IsKeptOf IsOf run kept) where
    -- what is kept before the next month, and with it
    module _ (more : (records : List MonthRecord) → RunStandsFor run records →
        RunStandsFor next (records ++ next.last ∷ [])) where
      pub kept_before : IsKeptBefore IsOf next.basin next.series kept next.last
      kept_before = record {
        records = of.records;
        partial = (more of.records of.stands).partial;
        is = rw (goes.basin, goes.series) of.is;
      }

      pub kept_more : (kept' : Kept) → ((records : List MonthRecord) → IsOf next.basin next.series records kept →
          IsOf next.basin next.series (records ++ next.last ∷ []) kept') → IsKeptOf IsOf next kept'
      kept_more kept' adds = record {
        records = of.records ++ next.last ∷ [];
        stands = more of.records of.stands;
        is = adds of.records (rw (goes.basin, goes.series) of.is);
      }

  -- what is kept of all months
  pub kept_whole : (run later : RunView) (kept : Kept) → GoesOn run later → later.done ≡ run.basin.months →
      IsKeptOf IsOf later kept → IsKeptOfRun IsOf run.basin run.series kept
  kept_whole run later kept goes done of = record {
    records = of.records;
    run = rw (← goes.basin, ← goes.series) (whole_run later of.records of.stands (rw goes.basin done));
    is = rw (← goes.basin, ← goes.series) of.is;
  }
