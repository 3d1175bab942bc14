-- Laws over accounts.
use Rattle.std.specs.Prelude.{◌≡◌, ℕ, ◌+◌, ◌-◌, ◌<◌, ◌≤◌, true, false, List, [], ◌∷◌, length, slice_index, sum_by}
use Rattle.std.specs.Prelude.{All, Some, slice_get}
use Rattle.water_model.specs.Accounts.{Ledger, IsLedger, zone_want, stock_of, closing_with, is_in_season}
use Rattle.water_model.specs.Hydrology.{stored_at, volume_of}
use Rattle.water_model.specs.Stores.{is_owned, space_of, zone_of, sum_in_zone, sum_in_reservoir, sum_at_node}
use Rattle.water_model.specs.Stores.{reservoir_of_right}
use Rattle.water_model.specs.declared.types.Account.{Account}
use Rattle.water_model.specs.declared.types.Basin.{Basin}

-- no reservoir loses more than it opens with
abbrev pub EvaporatesWithin : List ℕ → List ℕ → Type 0
EvaporatesWithin opening evaporated = (v : ℕ) → slice_index evaporated v ≤ slice_index opening v

-- no account is drawn on for more than it holds after its fill
abbrev pub IsDrawnWithin : Basin → Ledger → Type 0
IsDrawnWithin b l = (k : ℕ) → k < length b.accounts → slice_index l.drawn k ≤ stock_of l k

-- no owned zone is delivered more than it wants in month i
abbrev pub FillsWithinWant : Basin → ℕ → (ℕ → ℕ) → (used delivered : List ℕ) → Ledger → Type 0
FillsWithinWant b i number used delivered l =
    (zone : ℕ) → is_owned b zone ≡ true → slice_index delivered zone ≤ zone_want b i number used l.carried zone

-- what an account opens with and is filled with is what it loses, spills, is drawn on for and holds at the end
abbrev pub IsBalancedAt : Ledger → ℕ → Type 0
IsBalancedAt l k =
    slice_index l.opening k + slice_index l.filled k
    ≡ slice_index l.lost k + slice_index l.spilled k + slice_index l.drawn k + slice_index l.closing k

-- An account's books balance.
abbrev pub BooksBalance : Type 0
BooksBalance =
    (b : Basin) (opening evaporated : List ℕ) (number : ℕ → ℕ) (delivered amounts : List ℕ) (l : Ledger) →
    IsLedger b opening evaporated number delivered amounts l → EvaporatesWithin opening evaporated →
    IsDrawnWithin b l → (k : ℕ) → k < length b.accounts → IsBalancedAt l k

-- Fills add up. The accounts of a zone are filled with all that it takes.
abbrev pub FillsAddUp : Type 0
FillsAddUp =
    (b : Basin) (opening evaporated : List ℕ) (number : ℕ → ℕ) (i : ℕ) (used delivered amounts : List ℕ)
    (l : Ledger) → IsLedger b opening evaporated number delivered amounts l →
    FillsWithinWant b i number used delivered l → (zone : ℕ) → is_owned b zone ≡ true →
    sum_in_zone b (slice_index l.filled) zone ≡ slice_index delivered zone

-- Accounts stay within their space. Where no account opens above its space, none is above it after its fill, nor at the
-- end.
abbrev pub AccountsStayWithinSpace : Type 0
AccountsStayWithinSpace =
    (b : Basin) (opening evaporated : List ℕ) (number : ℕ → ℕ) (i : ℕ) (used delivered amounts : List ℕ)
    (l : Ledger) → IsLedger b opening evaporated number delivered amounts l →
    FillsWithinWant b i number used delivered l →
    ((k : ℕ) → k < length b.accounts → slice_index l.opening k ≤ space_of b k) →
    (k : ℕ) → k < length b.accounts → (stock_of l k ≤ space_of b k) × (slice_index l.closing k ≤ space_of b k)

-- Zones stay within their numbers. In every month, in its season or out of it, the accounts of a zone hold no more than
-- its number after spill and fill.
abbrev pub ZonesStayWithinNumber : Type 0
ZonesStayWithinNumber =
    (b : Basin) (opening evaporated : List ℕ) (number : ℕ → ℕ) (i : ℕ) (used delivered amounts : List ℕ)
    (l : Ledger) → IsLedger b opening evaporated number delivered amounts l →
    FillsWithinWant b i number used delivered l → (zone : ℕ) → is_owned b zone ≡ true →
    sum_in_zone b (stock_of l) zone ≤ number zone

-- Nothing fills out of season. What an account carries then stays, but for its draws.
abbrev pub NothingFillsOutOfSeason : Type 0
NothingFillsOutOfSeason =
    (b : Basin) (opening evaporated : List ℕ) (number : ℕ → ℕ) (i : ℕ) (used delivered amounts : List ℕ)
    (l : Ledger) → IsLedger b opening evaporated number delivered amounts l →
    FillsWithinWant b i number used delivered l → (zone k : ℕ) → is_in_season b i zone ≡ false →
    zone_of b k ≡ Some zone → k < length b.accounts →
    (slice_index l.filled k ≡ 0) × (slice_index l.closing k ≡ slice_index l.carried k - slice_index l.drawn k)

-- Fills stay within volumes. An owned zone with a volume fills no more in a month than is left of it in the water year.
abbrev pub FillsStayWithinVolume : Type 0
FillsStayWithinVolume =
    (b : Basin) (i : ℕ) (number : ℕ → ℕ) (used delivered : List ℕ) (l : Ledger) →
    FillsWithinWant b i number used delivered l → (zone volume : ℕ) → is_owned b zone ≡ true →
    volume_of b zone ≡ Some volume → slice_index used zone ≤ volume →
    slice_index used zone + slice_index delivered zone ≤ volume

-- Accounts hold no more than their reservoir. Where the accounts of a reservoir open with no more than it does, they
-- carry no more than evaporation leaves in it, and at the end hold no more than it closes with.
abbrev pub AccountsStayWithinReservoir : Type 0
AccountsStayWithinReservoir =
    (b : Basin) (opening evaporated : List ℕ) (number : ℕ → ℕ) (delivered amounts : List ℕ) (l : Ledger)
    (reservoir : ℕ) →
    IsLedger b opening evaporated number delivered amounts l → EvaporatesWithin opening evaporated →
    sum_in_reservoir b (slice_index l.opening) reservoir ≤ slice_index opening reservoir →
    (sum_in_reservoir b (slice_index l.carried) reservoir
    ≤ slice_index opening reservoir - slice_index evaporated reservoir)
    × (sum_in_reservoir b (slice_index l.closing) reservoir ≤ closing_with b delivered l.closing reservoir)

-- months in a row: each opens with what the one before it holds at its end, and the first with these amounts
abbrev pub AreInRow : List ℕ → List Ledger → Type 0
AreInRow holding [] = Unit {0}
AreInRow holding (l ∷ ledgers) = (l.opening ≡ holding) × AreInRow l.closing ledgers

abbrev pub last_holding : List ℕ → List Ledger → List ℕ
last_holding holding [] = holding
last_holding holding (l ∷ ledgers) = last_holding l.closing ledgers

-- Books balance over months. What an account held before the first of them and was filled with in all is what it lost,
-- spilled and was drawn on for in all, and holds after the last.
abbrev pub BooksBalanceOverMonths : Type 0
BooksBalanceOverMonths =
    (holding : List ℕ) (ledgers : List Ledger) (k : ℕ) → AreInRow holding ledgers →
    All (λ l. IsBalancedAt l k) ledgers →
    slice_index holding k + sum_by (λ l. slice_index l.filled k) ledgers
    ≡ sum_by (λ l. slice_index l.lost k) ledgers
    + sum_by (λ l. slice_index l.spilled k) ledgers
    + sum_by (λ l. slice_index l.drawn k) ledgers
    + slice_index (last_holding holding ledgers) k

-- two ledgers that agree
pub record AreSameLedgers (l m : Ledger) : Type 0 where
  pub lost : l.lost ≡ m.lost
  pub spilled : l.spilled ≡ m.spilled
  pub carried : l.carried ≡ m.carried
  pub filled : l.filled ≡ m.filled
  pub drawn : l.drawn ≡ m.drawn
  pub closing : l.closing ≡ m.closing

-- What accounts carry is determined by what opens and evaporates. It doesn't hang on the first step, which deals out
-- the rest, nor on draws.
abbrev pub CarriedIsOne : Type 0
CarriedIsOne =
    (b : Basin) (opening evaporated : List ℕ) (number : ℕ → ℕ) (delivered amounts others draws : List ℕ)
    (l m : Ledger) →
    IsLedger b opening evaporated number delivered amounts l →
    IsLedger b opening evaporated number others draws m → l.opening ≡ m.opening →
    (l.lost ≡ m.lost) × (l.spilled ≡ m.spilled) × (l.carried ≡ m.carried)

-- One ledger. What accounts open with, reservoirs open with and lose, rights are delivered and draws amount to
-- determines a month's ledger.
abbrev pub LedgerIsOne : Type 0
LedgerIsOne =
    (b : Basin) (opening evaporated : List ℕ) (number : ℕ → ℕ) (delivered amounts : List ℕ) (l m : Ledger) →
    IsLedger b opening evaporated number delivered amounts l →
    IsLedger b opening evaporated number delivered amounts m → l.opening ≡ m.opening → AreSameLedgers l m

-- each account is of a zone
abbrev pub AreOfZones : Basin → Type 0
AreOfZones b =
    (k : ℕ) (a : Account) → slice_get b.accounts k ≡ Some a → (v : ℕ) × (reservoir_of_right b a.zone ≡ Some v)

-- What accounts carry is there. At each node the accounts carry no more than evaporation leaves there, so that the
-- supply of the first step is the whole supply less what they carry.
abbrev pub CarriedIsStored : Type 0
CarriedIsStored =
    (b : Basin) (opening evaporated : List ℕ) (number : ℕ → ℕ) (delivered amounts : List ℕ) (l : Ledger) (node : ℕ) →
    IsLedger b opening evaporated number delivered amounts l → AreOfZones b → EvaporatesWithin opening evaporated →
    ((v : ℕ) → v < length b.reservoirs → sum_in_reservoir b (slice_index l.opening) v ≤ slice_index opening v) →
    sum_at_node b (slice_index l.carried) node ≤ stored_at b opening evaporated node
