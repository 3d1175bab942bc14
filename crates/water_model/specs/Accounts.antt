-- Accounts of stored water: what each loses, spills, carries, is filled with and holds in a month. An amount by account
-- has one number for each account, in the order of the basin.
use Rattle.std.specs.Prelude.{◌≡◌, ℕ, suc, ◌+◌, ◌-◌, ◌<◌, min, Bool, false, not, ◌&&◌, ◌==◌, List, length, slice_index}
use Rattle.std.specs.Prelude.{map, Option, Some, None, if◌then◌else◌}
use Rattle.finite_sums.specs.Sums.{total_where, when}
use Rattle.water_model.specs.Lookups.{of_entry, has}
use Rattle.water_model.specs.Basin.{is_zone_of}
use Rattle.water_model.specs.Hydrology.{in_year, volume_of, want_by_volume, want_of}
use Rattle.water_model.specs.Shares.{share, with_first}
use Rattle.water_model.specs.Stores.{zone_of, reservoir_of, space_of, is_of_zone, is_in_reservoir, is_owned}
use Rattle.water_model.specs.Stores.{sum_in_zone, sum_in_reservoir, sum_at_node}
use Rattle.water_model.specs.declared.types.Basin.{Basin}
use Rattle.water_model.specs.declared.types.Series.{Series}

-- Loss. A reservoir's evaporation is shared by weights: first what it holds beside its accounts, then what each of its
-- accounts holds. So the first part is nobody's.
abbrev pub loss_weight : Basin → (opening held : List ℕ) → ℕ → ℕ → ℕ
loss_weight b opening held reservoir =
    with_first (slice_index opening reservoir - sum_in_reservoir b (slice_index held) reservoir)
    (λ k. when (is_in_reservoir b k reservoir) (slice_index held k))

abbrev pub loss_with : Basin → (opening evaporated held : List ℕ) → Option ℕ → ℕ → ℕ
loss_with b opening evaporated held None account = 0
loss_with b opening evaporated held (Some reservoir) account =
    share (suc (length b.accounts)) (slice_index evaporated reservoir) (loss_weight b opening held reservoir)
    (suc account)

abbrev pub loss_of : Basin → (opening evaporated held : List ℕ) → ℕ → ℕ
loss_of b opening evaporated held account = loss_with b opening evaporated held (reservoir_of b account) account

-- what an account holds after its loss
abbrev pub left_of : List ℕ → List ℕ → ℕ → ℕ
left_of held lost account = slice_index held account - slice_index lost account

-- an amount by zone, shared among the zone's accounts by weights
abbrev pub share_in_zone : Basin → (ℕ → ℕ) → (ℕ → ℕ) → Option ℕ → ℕ → ℕ
share_in_zone b amount weight None account = 0
share_in_zone b amount weight (Some zone) account =
    share (length b.accounts) (amount zone) (λ k. when (is_of_zone b k zone) (weight k)) account

-- Spill. What a zone's accounts hold after their losses beyond the zone's number is shared by what they hold then, and
-- goes to the river. So the number of an owned zone is a curve of what may be held, in its season and out of it.
abbrev pub excess_of : Basin → (ℕ → ℕ) → (held lost : List ℕ) → ℕ → ℕ
excess_of b number held lost zone = sum_in_zone b (left_of held lost) zone - number zone

abbrev pub spill_of : Basin → (ℕ → ℕ) → (held lost : List ℕ) → ℕ → ℕ
spill_of b number held lost account =
    share_in_zone b (excess_of b number held lost) (left_of held lost) (zone_of b account) account

-- the room of an account for its fill: its space beyond what it carries
abbrev pub room_of : Basin → List ℕ → ℕ → ℕ
room_of b carried account = space_of b account - slice_index carried account

-- whether a zone fills in the calendar month of month i: whether that is in its season
abbrev pub is_in_season : Basin → ℕ → ℕ → Bool
is_in_season b i zone = of_entry b.rights zone (λ r. has r.season (in_year b i)) false

-- The want of an owned zone. Out of its season it is 0, and what its accounts carry stays. In its season it is the
-- least of its number less what its accounts carry, of their room, and of what is left of its volume in the water year.
abbrev pub zone_want : Basin → ℕ → (ℕ → ℕ) → (used carried : List ℕ) → ℕ → ℕ
zone_want b i number used carried zone =
    when (is_in_season b i zone)
    (want_by_volume (volume_of b zone)
    (min (number zone - sum_in_zone b (slice_index carried) zone) (sum_in_zone b (room_of b carried) zone))
    (slice_index used zone))

-- The first step deals out by date what is nobody's: a node's whole supply less what the accounts there carry. An owned
-- zone has the want above, and any other right its own.
abbrev pub natural_at : Basin → (supply carried : List ℕ) → ℕ → ℕ
natural_at b supply carried node = slice_index supply node - sum_at_node b (slice_index carried) node

abbrev pub first_want : Basin → Series → ℕ → (ℕ → ℕ) → (used carried : List ℕ) → ℕ → ℕ
first_want b series i number used carried right =
    if is_owned b right then zone_want b i number used carried right
    else want_of b series right i (slice_index used right)

-- Fill. What an owned zone takes in the first step is shared among its accounts by their room.
abbrev pub fill_of : Basin → (delivered carried : List ℕ) → ℕ → ℕ
fill_of b delivered carried account =
    share_in_zone b (slice_index delivered) (room_of b carried) (zone_of b account) account

-- a month of accounts: what each holds as the month opens, loses, spills, carries, is filled with, is drawn on for, and
-- holds as the month ends
pub record Ledger : Type 0 where
  pub opening : List ℕ
  pub lost : List ℕ
  pub spilled : List ℕ
  pub carried : List ℕ
  pub filled : List ℕ
  pub drawn : List ℕ
  pub closing : List ℕ

-- what an account holds after its fill, before any draw
abbrev pub stock_of : Ledger → ℕ → ℕ
stock_of l account = slice_index l.carried account + slice_index l.filled account

-- what the first draws took from an account, and what they brought to a diversion
abbrev pub draws_on : Basin → ℕ → ℕ → Bool
draws_on b draw account = of_entry b.draws draw (λ d. d.account == account) false

abbrev pub draws_for : Basin → ℕ → ℕ → Bool
draws_for b draw right = of_entry b.draws draw (λ d. d.diversion == right) false

abbrev pub drawn_from : Basin → ℕ → List ℕ → ℕ → ℕ
drawn_from b count amounts account = total_where count (λ j. draws_on b j account) (λ j. slice_index amounts j)

abbrev pub drawn_by : Basin → ℕ → List ℕ → ℕ → ℕ
drawn_by b count amounts right = total_where count (λ j. draws_for b j right) (λ j. slice_index amounts j)

-- each list has one number for each account
pub record FitsAccounts (b : Basin) (l : Ledger) : Type 0 where
  pub opening : length l.opening ≡ length b.accounts
  pub lost : length l.lost ≡ length b.accounts
  pub spilled : length l.spilled ≡ length b.accounts
  pub carried : length l.carried ≡ length b.accounts
  pub filled : length l.filled ≡ length b.accounts
  pub drawn : length l.drawn ≡ length b.accounts
  pub closing : length l.closing ≡ length b.accounts

-- The ledger of a month in which reservoirs open with and lose these amounts, zones have these numbers, rights are
-- delivered these amounts in the first step, and draws have these amounts: losses, spills and fills are the shares, and
-- each account carries and holds what is left.
pub record IsLedger (b : Basin) (opening evaporated : List ℕ) (number : ℕ → ℕ) (delivered amounts : List ℕ)
    (l : Ledger) : Type 0
  where
    pub fits : FitsAccounts b l
    pub lost : (k : ℕ) → k < length b.accounts → slice_index l.lost k ≡ loss_of b opening evaporated l.opening k
    pub spilled : (k : ℕ) → k < length b.accounts → slice_index l.spilled k ≡ spill_of b number l.opening l.lost k
    pub carried : (k : ℕ) → k < length b.accounts → slice_index l.carried k
        ≡ left_of l.opening l.lost k - slice_index l.spilled k
    pub filled : (k : ℕ) → k < length b.accounts → slice_index l.filled k ≡ fill_of b delivered l.carried k
    pub drawn : (k : ℕ) → k < length b.accounts → slice_index l.drawn k ≡ drawn_from b (length b.draws) amounts k
    pub closing : (k : ℕ) → k < length b.accounts → slice_index l.closing k ≡ stock_of l k - slice_index l.drawn k

-- what accounts hold as a month opens: what they hold when the run begins, and later what they held as the month before
-- ended
abbrev pub holding_after : Basin → List Ledger → List ℕ
holding_after b before = of_entry before (length before - 1) (λ l. l.closing) (map (λ a. a.stored) b.accounts)

-- what a reservoir closes with: the takes of its zones that no account is of, and what its accounts hold
abbrev pub closing_with : Basin → (delivered holds : List ℕ) → ℕ → ℕ
closing_with b delivered holds reservoir =
    total_where (length b.rights) (λ r. is_zone_of b r reservoir && not (is_owned b r)) (λ r. slice_index delivered r)
    + sum_in_reservoir b (slice_index holds) reservoir
