-- What is kept of the records that were read, and what each step of the reading does.
use Rattle.std.specs.Prelude.{◌≡◌, ℕ, ◌++◌, ◌∷◌, [], List, map, Option, Some, None, Result, Ok, Err, MatchResult}
use Rattle.water_model.specs.Valid.{IsSeriesOf}
use Rattle.water_model.specs.declared.types.Basin.{Basin}
use Rattle.water_model.specs.declared.types.Series.{Series}
use Rattle.inflow_file.specs.SeriesFaults.{IsRefusalOf, SpellsAmounts, amount_for, body_of, due, entries_of}
use Rattle.inflow_file.specs.SeriesFaults.{first_fault, missing, record_fault, table_fault}
use Rattle.inflow_file.specs.declared.entry.SeriesRecord.{SeriesRecord}
use Rattle.inflow_file.specs.declared.refused.SeriesFault.{SeriesFault}
use Rattle.inflow_file.specs.declared.refused.SeriesRefused.{SeriesRefused}

-- the amounts that entries give for what is due, where they give one
unfoldable pub given : Basin → List SeriesRecord → List (Option ℕ)
given b entries = map (λ d. amount_for entries d.0 d.1) (due b)

-- the same of the records after the header
abbrev pub given_by : Basin → List (List (List ℕ)) → List (Option ℕ)
given_by b rows = given b (entries_of b rows)

-- a record after some others is taken, or refused by its first fault
abbrev pub Takes : Basin → List (List (List ℕ)) → List (List ℕ) → List (Option ℕ) → List (Option ℕ) →
    Result (Unit {0}) SeriesFault → Type 0
Takes b before row old new result = old ≡ given_by b before → MatchResult result
    (λ _. (record_fault b before row ≡ None) × (new ≡ given_by b (before ++ row ∷ [])))
    (λ fault. record_fault b before row ≡ Some fault)

-- all records after the header are taken, or the first at fault is reported
abbrev pub TakesAll : Basin → List (List (List ℕ)) → List (Option ℕ) → Result (Unit {0}) SeriesRefused → Type 0
TakesAll b rows new (Ok done) = (first_fault b [] 2 rows ≡ None) × (new ≡ given_by b rows)
TakesAll b rows new (Err e) = IsRefusalOf (first_fault b [] 2 rows) e

-- all records of a table are taken, so that nothing but a missing amount can be at fault
pub record TookTable (b : Basin) (table : List (List (List ℕ))) (amounts : List (Option ℕ)) : Type 0 where
  pub fault : table_fault b table ≡ missing b (entries_of b (body_of b table))
  pub given : amounts ≡ given_by b (body_of b table)

-- they are, or the first fault is reported
abbrev pub TakesTable : Basin → List (List (List ℕ)) → List (Option ℕ) → Result (Unit {0}) SeriesRefused → Type 0
TakesTable b table new (Ok done) = TookTable b table new
TakesTable b table new (Err e) = IsRefusalOf (table_fault b table) e

-- the series of the records after the header is complete, or an amount is missing
abbrev pub Completes : Basin → List (List (List ℕ)) → Result Series SeriesRefused → Type 0
Completes b rows (Ok series) = (missing b (entries_of b rows) ≡ None) × IsSeriesOf b series ×
    SpellsAmounts b rows series
Completes b rows (Err e) = IsRefusalOf (missing b (entries_of b rows)) e
