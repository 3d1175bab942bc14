-- Months are solved one after the other.
use Rattle.std.proofs.Common.{ℕ, ◌+◌, ◌*◌, ◌<◌, ◌≤◌, arith}
use Rattle.std.proofs.Math.Nat.{add-mul, mul-le-mul_right}
use Rattle.senior_hold.specs.MonthNetwork.{month_pushes}
use Rattle.water_model.specs.declared.types.Basin.{Basin}
use Rattle.month_fold.specs.Works.{Solves, SolvesBoth, WorkDone}

pub Solves-none : (b : Basin) (w : WorkDone) → Solves 0 b w w
Solves-none b w = record { months = omega arith; pushes = omega arith }

-- some months, and then some more
pub Solves-then : (i j : ℕ) (b : Basin) (first before after : WorkDone) → Solves i b first before →
    Solves j b before after → Solves (i + j) b first after
Solves-then i j b first before after so_far more = record {
  months = omega (arith, so_far.months, more.months);
  pushes = omega (arith, add-mul i j (month_pushes b), so_far.pushes, more.pushes);
}

-- they are within a greater number
pub Solves-within : (i n : ℕ) (b : Basin) (before after : WorkDone) → i ≤ n → Solves i b before after →
    Solves n b before after
Solves-within i n b before after l solves =
    let most : i * month_pushes b ≤ n * month_pushes b = mul-le-mul_right (month_pushes b) l in
    record {
      months = omega (arith, l, solves.months);
      pushes = omega (arith, most, solves.pushes);
    }

-- some months and one more are within those of a run
pub within_run : (b : Basin) (first before after : WorkDone) (i : ℕ) → Solves i b first before →
    Solves 1 b before after → i < b.months →
    Solves b.months b first after
within_run b first before after i so_far more l =
    Solves-within (i + 1) b.months b first after (omega (arith, l)) (Solves-then i 1 b first before after so_far more)

pub SolvesBoth-none : (b c : Basin) (w : WorkDone) → SolvesBoth 0 b c w w
SolvesBoth-none b c w = record { months = omega arith; pushes = omega arith }

-- a month of one, and then a month of the other
pub SolvesBoth-one : (b c : Basin) (first before after : WorkDone) → Solves 1 b first before →
    Solves 1 c before after → SolvesBoth 1 b c first after
SolvesBoth-one b c first before after one other = record {
  months = omega (arith, one.months, other.months);
  pushes = omega (arith, one.pushes, other.pushes);
}

pub SolvesBoth-then : (i : ℕ) (b c : Basin) (first before after : WorkDone) → SolvesBoth i b c first before →
    SolvesBoth 1 b c before after → SolvesBoth (i + 1) b c first after
SolvesBoth-then i b c first before after so_far more = record {
  months = omega (arith, so_far.months, more.months);
  pushes = omega (arith, add-mul i 1 (month_pushes b + month_pushes c), so_far.pushes, more.pushes);
}

pub SolvesBoth-within : (i n : ℕ) (b c : Basin) (before after : WorkDone) → i ≤ n → SolvesBoth i b c before after →
    SolvesBoth n b c before after
SolvesBoth-within i n b c before after l solves =
    let most : i * (month_pushes b + month_pushes c) ≤ n * (month_pushes b + month_pushes c) =
    mul-le-mul_right (month_pushes b + month_pushes c) l in
    record {
      months = omega (arith, l, solves.months);
      pushes = omega (arith, most, solves.pushes);
    }
