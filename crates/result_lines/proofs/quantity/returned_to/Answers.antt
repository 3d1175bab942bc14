use Rattle.std.proofs.Common.{◌≡◌, ℕ, false, replicate, refl, zero, suc}
use Rattle.water_model.specs.Lookups.{has}
use Rattle.result_lines.proofs.quantity.returned_to.Goals as goal

-- nothing is marked
none_marked : (count n : ℕ) → has (replicate count false) n ≡ false
none_marked zero n = refl
none_marked (suc count) zero = refl
none_marked (suc count) (suc n) = none_marked count n

pub loop-row-init : goal.loop-row-init
loop-row-init c = record { count = refl; each = λ n l. none_marked 2000 n }
