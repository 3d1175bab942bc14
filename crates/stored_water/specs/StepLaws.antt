-- What a month's plan and draws are gives what the laws over accounts and draws ask of them.
use Rattle.std.specs.Prelude.{◌≡◌, ℕ, ◌<◌, ◌≤◌, List, length, slice_index}
use Rattle.duality.specs.Laws.{AreDeliveries}
use Rattle.stored_water.specs.AccountLaws.{AreOfZones, EvaporatesWithin, FillsWithinWant}
use Rattle.stored_water.specs.DrawLaws.{AddsCarried, AreCapped}
use Rattle.water_model.specs.Accounts.{IsLedger, Ledger, first_want, natural_at}
use Rattle.water_model.specs.Draws.{AreDrawn, AreSited}
use Rattle.water_model.specs.Hydrology.{stored_at}
use Rattle.water_model.specs.Plans.{IsPlan}
use Rattle.water_model.specs.Stores.{sum_in_reservoir}
use Rattle.water_model.specs.declared.types.Basin.{Basin}
use Rattle.water_model.specs.declared.types.Plan.{Plan}
use Rattle.water_model.specs.declared.types.Series.{Series}
use Rattle.water_text.specs.declared.month.Month.{Month}

-- A plan with the wants of the first step fills no zone beyond its want.
abbrev pub PlansFillWithinWant : Type 0
PlansFillWithinWant =
    (b : Basin) (series : Series) (month : Month) (i : ℕ) (number : ℕ → ℕ) (natural want used delivered : List ℕ)
    (l : Ledger) (p : Plan) → AreOfZones b → IsPlan b month natural want p → AreDeliveries b want p delivered →
    ((r : ℕ) → r < length b.rights → slice_index want r ≡ first_want b series i number used l.carried r) →
    FillsWithinWant b i number used delivered l

-- The supply of the first step and what accounts carry are the whole supply, which has all that is stored.
abbrev pub SuppliesAddCarried : Type 0
SuppliesAddCarried =
    (b : Basin) (opening evaporated : List ℕ) (number : ℕ → ℕ) (delivered amounts natural supply : List ℕ)
    (l : Ledger) →
    IsLedger b opening evaporated number delivered amounts l → AreOfZones b → EvaporatesWithin opening evaporated →
    ((v : ℕ) → v < length b.reservoirs → sum_in_reservoir b (slice_index l.opening) v ≤ slice_index opening v) →
    ((n : ℕ) → n < length b.nodes → stored_at b opening evaporated n ≤ slice_index supply n) →
    ((n : ℕ) → n < length b.nodes → slice_index natural n ≡ natural_at b supply l.carried n) →
    AddsCarried b l natural supply

-- A month's draws are within their caps.
abbrev pub DrawnAreCapped : Type 0
DrawnAreCapped =
    (b : Basin) (month : Month) (held : ℕ → ℕ) (supply : List ℕ) (asked number : ℕ → ℕ) (delivered : List ℕ)
    (l : Ledger) (amounts : List ℕ) → AreSited b →
    AreDrawn b month held supply asked number delivered l amounts → AreCapped b asked number delivered l amounts
