use Rattle.std.proofs.Common.{◌≡◌, ◌∙◌, List, [], ◌∷◌}
use Rattle.std.proofs.lemmas.Result.{IfOk-weaker}
use Rattle.month_fold.specs.Runs.{RunView, RunStandsFor}
use Rattle.water_model.specs.History.{IsPartialHistory}
use Rattle.water_model.specs.declared.types.Basin.{Basin}
use Rattle.water_model.specs.declared.types.Series.{Series}
use Rattle.water_model.specs.declared.types.MonthRecord.{MonthRecord}
use Rattle.tests_basins.proofs.resumed.record_of.Goals as goal

-- the last record of a run that stands for it alone
first_partial : (run : RunView) (b : Basin) (series : Series) (one : MonthRecord) → run.basin ≡ b →
    run.series ≡ series → one ≡ run.last → RunStandsFor run (run.last ∷ []) → IsPartialHistory b series (one ∷ [])
first_partial run b series one of_basin of_series same stands = rw (same, ← of_basin, ← of_series) stands.partial

pub returns : goal.returns
returns g c =
    let first = c.first_record-kept.ensures in
    let run = c.first_record-kept.new.run in
    IfOk-weaker c.first_record-kept.result (λ kept. kept.value ≡ run.last)
    (λ kept. IsPartialHistory c.args.basin.now c.args.series.now (kept.value ∷ []))
    (λ kept same. first_partial run c.args.basin.now c.args.series.now kept.value
    (first.basin ∙ c.in_ok-run.ensures.basin) (first.series ∙ c.in_ok-run.ensures.series) same first.stands)
    first.copied
