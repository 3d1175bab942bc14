-- What a record shows of a month's draws.
use Rattle.std.specs.Prelude.{◌≡◌, ℕ, ◌<◌, ◌≤◌, Bool, List, length, slice_index, Option, Some, None}
use Rattle.water_text.specs.declared.month.Month.{Month}
use Rattle.water_model.specs.Accounts.{Ledger}
use Rattle.water_model.specs.Courses.{IsCourse, IsStop, after_draw}
use Rattle.water_model.specs.Draws.{AreTaken, cap_of}
use Rattle.water_model.specs.Stores.{drawing_node, drawn_node}
use Rattle.water_model.specs.declared.types.Basin.{Basin}

-- What a record shows of a draw: that it is within its cap, a course with it, and a stop where it is below its cap. A
-- draw that is its cap has no set.
pub record IsShownBy (b : Basin) (month : Month) (held : ℕ → ℕ) (supply taken : List ℕ) (from to cap amount : ℕ)
    (flow out : List ℕ) (set : Option (List Bool)) : Type 0
  where
    pub within : amount ≤ cap
    pub course : IsCourse b month held supply (after_draw taken from to amount) flow out
    pub full : amount ≡ cap → set ≡ None
    pub stopped : amount < cap → (stop : List Bool) × (set ≡ Some stop)
        × IsStop b month held supply (after_draw taken from to amount) from to stop

-- What a record shows of a month's draws: for each, after those before it, a course, and a stop where it is below its
-- cap.
pub record AreShownBy (b : Basin) (month : Month) (held : ℕ → ℕ) (supply : List ℕ) (asked number : ℕ → ℕ)
    (delivered : List ℕ) (l : Ledger) (amounts : List ℕ) (flow out : ℕ → List ℕ) (set : ℕ → Option (List Bool)) : Type 0
  where
    pub one_each : length amounts ≡ length b.draws
    pub each : (j : ℕ) → j < length b.draws → (from to : ℕ) → drawn_node b j ≡ Some from →
        drawing_node b j ≡ Some to → (taken : List ℕ) → AreTaken b delivered l j amounts taken →
        IsShownBy b month held supply taken from to (cap_of b asked number delivered l amounts j)
        (slice_index amounts j) (flow j) (out j) (set j)
