-- A run goes through one month more.
use Rattle.std.proofs.Common.{◌≡◌, ◌∙◌, ℕ, ◌+◌, ◌<◌, sym, ap, subst, arith, List, [], ◌∷◌, ◌++◌, map, inl, inr}
use Rattle.std.proofs.Common.{length-append}
use Rattle.std.proofs.lemmas.List.{map-append}
use Rattle.lag_returns.specs.Lags.{InTransit}
use Rattle.lag_returns.specs.Lags as lag
use Rattle.water_model.specs.declared.types.Basin.{Basin}
use Rattle.water_model.specs.declared.types.Series.{Series}
use Rattle.water_model.specs.declared.types.MonthRecord.{MonthRecord}
use Rattle.water_model.proofs.Histories.{at_end, one_month_more, opens_with_last}
use Rattle.month_terms.specs.Terms.{HasUsed}
use Rattle.water_model.specs.History.{Follows, HasReaches, HaveReaches}
use Rattle.month_fold.specs.Runs.{EngineView, RunView, RunStandsFor, WentThrough, run_with}

-- a run stands for the months that it went through where their sets are the reaches
pub stands_for : (run : RunView) (records : List MonthRecord) → WentThrough run records →
    HaveReaches run.basin records → RunStandsFor run records
stands_for run records went reaches = assumption

pub went_through : (run : RunView) (records : List MonthRecord) → RunStandsFor run records → WentThrough run records
went_through run records stands = assumption

-- what is lent of an engine is what the engine keeps
pub went_lent : (engine : EngineView) (series : Series) (done : ℕ) (records : List MonthRecord) (last : MonthRecord)
    (used : List ℕ) → last ≡ engine.last → used ≡ engine.used → WentThrough (run_with engine series done) records →
    WentThrough (run_with (record engine { last = last; used = used }) series done) records
went_lent engine series done records last used same_last same_used went =
    rw same_used (assumption (ap (λ m. m.closing) same_last ∙ went.stored))

pub went_next : (run : RunView) (records : List MonthRecord) (m : MonthRecord) (lags : List InTransit)
    (used : List ℕ) → WentThrough run records →
    run.done < run.basin.months → Follows run.basin run.series records m →
    lag.LagsStandFor lags run.basin.returns (map (λ k. k.delivered) records ++ m.delivered ∷ []) →
    HasUsed run.basin (map (λ k. k.delivered) records ++ m.delivered ∷ []) used →
    WentThrough (record run { done = run.done + 1; last = m; lags = lags; used = used }) (records ++ m ∷ [])
went_next run records m lags used went left follows way spent = record {
  valid = went.valid;
  fits = went.fits;
  partial = one_month_more run.basin run.series records m went.partial (omega (arith, went.done)) follows;
  done = omega (arith, went.done, length-append records (m ∷ []));
  stored = sym (opens_with_last run.basin records m);
  lags = rw delivered way;
  used = rw delivered spent;
}
  where
    delivered : map (λ k. k.delivered) (records ++ m ∷ []) ≡ map (λ k. k.delivered) records ++ m.delivered ∷ []
    delivered = map-append (λ (k : MonthRecord). k.delivered) records (m ∷ [])

pub reaches_next : (b : Basin) (records : List MonthRecord) (m : MonthRecord) → HaveReaches b records →
    HasReaches b m → HaveReaches b (records ++ m ∷ [])
reaches_next b records m reaches next i k at = elim (at_end records m k i at) [
  | inl within ↦ reaches i k within
  | inr last ↦ subst (HasReaches b) last.1 next
]
