-- All months of a run.
use Rattle.std.proofs.Common.{◌≡◌, arith, List}
use Rattle.water_model.specs.History.{IsHistory}
use Rattle.water_model.specs.declared.types.MonthRecord.{MonthRecord}
use Rattle.water_model.proofs.Histories.{all_months}
use Rattle.month_fold.specs.Runs.{RunView, RunStandsFor}

-- the months that a run went through are a history where they are all
pub whole_history : (run : RunView) (records : List MonthRecord) → RunStandsFor run records →
    run.done ≡ run.basin.months → IsHistory run.basin run.series records
whole_history run records stands done =
    all_months run.basin run.series records stands.partial (omega (arith, stands.done, done))
