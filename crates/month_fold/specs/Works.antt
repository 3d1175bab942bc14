-- The work of runs: searches push, and months are solved.
use Rattle.std.specs.Prelude.{ℕ, ◌+◌, ◌*◌, ◌≤◌}
use Rattle.senior_hold.specs.MonthNetwork.{month_pushes}
use Rattle.water_model.specs.declared.types.Basin.{Basin}

-- how often searches pushed, and how many months were solved
pub record WorkDone : Type 0 where
  pub pushes : ℕ
  pub months : ℕ

abbrev pub no_work : WorkDone
no_work = record { pushes = 0; months = 0 }

-- from one to the other at most `count` months of a basin were solved, and searches pushed at most as often as the
-- bound of a month allows for each of them
pub record Solves (count : ℕ) (b : Basin) (before after : WorkDone) : Type 0 where
  pub months : after.months ≤ before.months + count
  pub pushes : after.pushes ≤ before.pushes + count * month_pushes b

-- at most the months of a whole run were
abbrev pub SolvesRun : Basin → WorkDone → WorkDone → Type 0
SolvesRun b before after = Solves b.months b before after

-- at most `count` months of each of two basins were
pub record SolvesBoth (count : ℕ) (b c : Basin) (before after : WorkDone) : Type 0 where
  pub months : after.months ≤ before.months + 2 * count
  pub pushes : after.pushes ≤ before.pushes + count * (month_pushes b + month_pushes c)
