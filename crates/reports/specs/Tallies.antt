-- What is kept of the months of a run, instead of the months.
use Rattle.std.specs.Prelude.{◌≡◌, ℕ, ◌+◌, ◌<◌, ◌^◌, max, List, [], ◌∷◌, ◌++◌, map, sum, sum_by, slice_index}
use Rattle.month_fold.specs.Runs.{RunView, RunStandsFor}
use Rattle.duality.specs.Balance.{total_inflow, diverted}
use Rattle.water_model.specs.History.{IsPartialHistory}
use Rattle.water_model.specs.Indices.{indices_of}
use Rattle.water_model.specs.declared.types.Basin.{Basin}
use Rattle.water_model.specs.declared.types.Series.{Series}
use Rattle.water_model.specs.declared.types.MonthRecord.{MonthRecord}
use Rattle.reports.specs.Ends.{IsRun}
use Rattle.reports.specs.Figures.{shortage, short_months, wanted, delivered, worst_month, waters_of, called_count}
use Rattle.reports.specs.declared.figures.RightFigures.{RightFigures}
use Rattle.reports.specs.declared.tally.Tally.{Tally}
use Rattle.reports.specs.declared.called.Trial.{Trial}
use Rattle.reports.specs.declared.waters.Waters.{Waters}

-- the greatest of what f says of the elements, or 0 where there are none
abbrev pub greatest_of : {X : Type 0} → (X → ℕ) → List X → ℕ
greatest_of f [] = 0
greatest_of f (x ∷ xs) = max (f x) (greatest_of f xs)

-- the figures of a right over some months
unfoldable pub figures_of : List MonthRecord → ℕ → RightFigures
figures_of records right = record {
  short_months = short_months records right;
  wanted = wanted records right;
  delivered = delivered records right;
  greatest = greatest_of (λ m. shortage m right) records;
  worst = worst_month records right;
}

-- a tally of some months: the figures of each right, and the water
pub record IsTally (b : Basin) (series : Series) (records : List MonthRecord) (t : Tally) : Type 0 where
  pub rights : t.rights ≡ map (figures_of records) (indices_of b.rights)
  pub waters : t.waters ≡ waters_of b series records

-- a tally of some months, and of how many right-months of them had a calling right
pub record IsTrial (b : Basin) (series : Series) (records : List MonthRecord) (t : Trial) : Type 0 where
  pub tally : IsTally b series records t.tally
  pub called : t.called ≡ called_count b records

-- What is kept of months, a tally or a trial, is of the months before a month. `IsOf` says what it is to be of some.
pub record IsKeptBefore {Kept : Type 0} (IsOf : Basin → Series → List MonthRecord → Kept → Type 0) (b : Basin)
    (series : Series) (kept : Kept) (m : MonthRecord) : Type 0 where
  pub records : List MonthRecord
  pub partial : IsPartialHistory b series (records ++ m ∷ [])
  pub is : IsOf b series records kept

-- it is of the months that a run went through
pub record IsKeptOf {Kept : Type 0} (IsOf : Basin → Series → List MonthRecord → Kept → Type 0) (run : RunView)
    (kept : Kept) : Type 0 where
  pub records : List MonthRecord
  pub stands : RunStandsFor run records
  pub is : IsOf run.basin run.series records kept

-- it is of a whole run
pub record IsKeptOfRun {Kept : Type 0} (IsOf : Basin → Series → List MonthRecord → Kept → Type 0) (b : Basin)
    (series : Series) (kept : Kept) : Type 0 where
  pub records : List MonthRecord
  pub run : IsRun b series records
  pub is : IsOf b series records kept

-- the sums of a right's figures and of one month more fit
pub record HasRoom (f : RightFigures) (m : MonthRecord) (right : ℕ) : Type 0 where
  pub short_months : f.short_months + 1 < 2 ^ 32
  pub wanted : f.wanted + slice_index m.want right < 2 ^ 64
  pub delivered : f.delivered + slice_index m.delivered right < 2 ^ 64

-- and those of the water, and what came into the month is what is left of it and went out
pub record HasRoomForMonth (b : Basin) (series : Series) (w : Waters) (m : MonthRecord) : Type 0 where
  pub inflows : w.inflows + total_inflow b series m.index < 2 ^ 64
  pub returns : w.returns + sum m.returned < 2 ^ 64
  pub closing : sum m.closing < 2 ^ 64
  pub evaporated : w.evaporated + sum m.evaporated < 2 ^ 64
  pub to_diversions : w.diverted + diverted b m < 2 ^ 64
  pub out : w.out + sum m.plan.out < 2 ^ 64
  pub month : sum m.closing + sum m.evaporated + diverted b m + sum m.plan.out < 2 ^ 64
  pub balance : sum m.opening + total_inflow b series m.index + sum m.returned
      ≡ sum m.closing + sum m.evaporated + diverted b m + sum m.plan.out

-- the sums over some rights fit
pub record AreBounded (rights : List RightFigures) : Type 0 where
  pub short_months : sum_by (λ f. f.short_months) rights < 2 ^ 64
  pub wanted : sum_by (λ f. f.wanted) rights < 2 ^ 64
  pub delivered : sum_by (λ f. f.delivered) rights < 2 ^ 64
