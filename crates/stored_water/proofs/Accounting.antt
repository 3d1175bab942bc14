-- What accounts hold: the books of a month.
use Rattle.std.proofs.Common.{◌≡◌, ℕ, zero, suc, ◌+◌, ◌-◌, ◌*◌, ◌/◌, ◌<◌, ◌≤◌, Bool, true, false, refl, sym, ◌∙◌, ap}
use Rattle.std.proofs.Common.{arith, List, [], ◌∷◌, length, inl, inr, add-zero}
use Rattle.std.proofs.Math.Nat.{zero-mul, zero-div}
use Rattle.std.proofs.lemmas.Bool.{cases_lt, cases_Bool, cond-true, cond-false, eq-eqb, or_left, or_right}
use Rattle.std.proofs.lemmas.Bool.Decides.{nat_tests}
use Rattle.std.specs.List.{list_any}
use Rattle.water_model.specs.Lookups.{of_entry}
use Rattle.std.specs.Prelude.{◌==◌, if◌then◌else◌, slice_index, Option, Some, None, min}
use Rattle.finite_sums.specs.Sums.{total, when}
use Rattle.finite_sums.proofs.Totals.{total_same, total_zero, total_first, total_where_le}
use Rattle.water_model.specs.Basin.{is_at}
use Rattle.water_model.specs.Hydrology.{want_by_volume, volume_of}
use Rattle.water_model.specs.declared.types.Basin.{Basin}
use Rattle.water_model.proofs.Sets.{total_where_add}
use Rattle.water_model.specs.Shares.{share}
use Rattle.water_model.specs.declared.types.Account.{Account}
use Rattle.water_model.specs.Accounts.{Ledger, IsLedger, is_in_season, room_of, zone_want, stock_of, loss_with}
use Rattle.water_model.specs.Accounts.{loss_weight, left_of, share_in_zone, excess_of, spill_of, fill_of}
use Rattle.water_model.specs.Stores.{is_owned, is_of_zone, zone_of, space_of, sum_in_zone, sum_in_reservoir}
use Rattle.water_model.specs.Stores.{reservoir_of, is_in_reservoir}
use Rattle.stored_water.specs.AccountLaws.{EvaporatesWithin, FillsWithinWant, BooksBalance, FillsAddUp}
use Rattle.stored_water.specs.AccountLaws.{AccountsStayWithinSpace, ZonesStayWithinNumber, AccountsStayWithinReservoir}
use Rattle.stored_water.specs.AccountLaws.{NothingFillsOutOfSeason, FillsStayWithinVolume}
use Rattle.stored_water.proofs.ShareProofs.{shares_fit, shares_sum_up, part_is, part_of_none}

-- ---- shares

-- a weight of 0 has no part
pub share_of_none : (n amount : ℕ) (weight : ℕ → ℕ) (i : ℕ) → weight i ≡ 0 → share n amount weight i ≡ 0
share_of_none n amount weight i none = elim (cases_lt 0 (total n weight)) [
  | inl some ↦
      (let same : amount * (total i weight + weight i) / total n weight ≡ amount * total i weight / total n weight =
      ap (λ w. amount * w / total n weight) (ap (λ w. total i weight + w) none ∙ add-zero (total i weight)) in
      omega (arith, part_is amount (total i weight) (weight i) (total n weight) some))
  | inr nothing ↦ part_of_none amount (total i weight) (weight i) (total n weight) (omega arith)
]

-- and of nothing no weight has a part
share_of_nothing : (n amount : ℕ) (weight : ℕ → ℕ) (i : ℕ) → amount ≡ 0 → share n amount weight i ≡ 0
share_of_nothing n amount weight i none = elim (cases_lt 0 (total n weight)) [
  | inl some ↦
      omega (
        arith,
        part_is amount (total i weight) (weight i) (total n weight) some,
        of_zero (total i weight + weight i),
        of_zero (total i weight),
      )
  | inr nothing ↦ part_of_none amount (total i weight) (weight i) (total n weight) (omega arith)
]
  where
    of_zero : (x : ℕ) → amount * x / total n weight ≡ 0
    of_zero x = ap (λ a. a * x / total n weight) none ∙ (ap (λ y. y / total n weight) (zero-mul x)
        ∙ zero-div (total n weight))

-- an amount that is at most the sum of the weights is dealt out whole
pub shares_whole : (n amount : ℕ) (weight : ℕ → ℕ) → amount ≤ total n weight →
    total n (λ i. share n amount weight i) ≡ amount
shares_whole n amount weight fits = elim (cases_lt 0 (total n weight)) [
  | inl some ↦ shares_sum_up n amount weight some
  | inr nothing ↦
      omega (
        arith,
        total_zero n (λ i. share n amount weight i)
            (λ i l. part_of_none amount (total i weight) (weight i) (total n weight) (omega arith)),
      )
]

when_le : (t : Bool) (x : ℕ) → when t x ≤ x
when_le true x = omega arith
when_le false x = omega arith

-- ---- zones

pub at_some : (o : Option ℕ) (n : ℕ) → is_at o n ≡ true → o ≡ Some n
at_some None n h = cc
at_some (Some k) n h = let same : k ≡ n = grind (arith, nat_tests) in ap (λ x. Some x) same

-- the zone of an account is owned
owned_in : (accounts : List Account) (k zone : ℕ) → of_entry accounts k (λ a. Some a.zone) None ≡ Some zone →
    list_any (λ a. a.zone == zone) accounts ≡ true
owned_in [] k zone h = cc
owned_in (a ∷ accounts) zero zone h =
    or_left (a.zone == zone) (list_any (λ x. x.zone == zone) accounts) (eq-eqb a.zone zone (cc))
owned_in (a ∷ accounts) (suc k) zone h =
    or_right (a.zone == zone) (list_any (λ x. x.zone == zone) accounts) (owned_in accounts k zone h)

pub zone_is_owned : (b : Basin) (k zone : ℕ) → zone_of b k ≡ Some zone → is_owned b zone ≡ true
zone_is_owned b k zone h = owned_in b.accounts k zone h

-- a zone's amount is dealt out whole among its accounts
pub zone_shares : (b : Basin) (amount weight : ℕ → ℕ) (zone : ℕ) →
    amount zone ≤ sum_in_zone b weight zone →
    sum_in_zone b (λ k. share_in_zone b amount weight (zone_of b k) k) zone ≡ amount zone
zone_shares b amount weight zone fits =
    total_same (length b.accounts)
    (λ k. if is_of_zone b k zone then share_in_zone b amount weight (zone_of b k) k else 0)
    (λ k. share (length b.accounts) (amount zone) (λ j. when (is_of_zone b j zone) (weight j)) k)
    (λ k l. one k)
    ∙ shares_whole (length b.accounts) (amount zone) (λ j. when (is_of_zone b j zone) (weight j)) fits
  where
    one : (k : ℕ) →
        (if is_of_zone b k zone then share_in_zone b amount weight (zone_of b k) k else 0)
        ≡ share (length b.accounts) (amount zone) (λ j. when (is_of_zone b j zone) (weight j)) k
    one k = elim (cases_Bool (is_of_zone b k zone)) [
      | inl of_it ↦
          cond-true (is_of_zone b k zone) (share_in_zone b amount weight (zone_of b k) k) 0 of_it
          ∙ ap (λ o. share_in_zone b amount weight o k) (at_some (zone_of b k) zone of_it)
      | inr other ↦
          cond-false (is_of_zone b k zone) (share_in_zone b amount weight (zone_of b k) k) 0 other
          ∙ sym (share_of_none (length b.accounts) (amount zone) (λ j. when (is_of_zone b j zone) (weight j)) k
          (cond-false (is_of_zone b k zone) (weight k) 0 other))
    ]

-- and no account gets more than its weight
pub zone_share_fits : (b : Basin) (amount weight : ℕ → ℕ) (k : ℕ) (o : Option ℕ) →
    ((zone : ℕ) → o ≡ Some zone → amount zone ≤ sum_in_zone b weight zone) →
    share_in_zone b amount weight o k ≤ weight k
zone_share_fits b amount weight k None fits = omega arith
zone_share_fits b amount weight k (Some zone) fits =
    omega (
      arith,
      shares_fit (length b.accounts) (amount zone) (λ j. when (is_of_zone b j zone) (weight j)) k
          (fits zone refl),
      when_le (is_of_zone b k zone) (weight k),
    )

season_le : (t : Bool) (x most : ℕ) → x ≤ most → when t x ≤ most
season_le true x most h = h
season_le false x most h = omega arith

want_le : (o : Option ℕ) (number used : ℕ) → want_by_volume o number used ≤ number
want_le None number used = omega arith
want_le (Some volume) number used = omega arith

same_in_zone : (b : Basin) (f g : ℕ → ℕ) (zone : ℕ) →
    ((k : ℕ) → k < length b.accounts → f k ≡ g k) → sum_in_zone b f zone ≡ sum_in_zone b g zone
same_in_zone b f g zone same =
    total_same _ _ _ (λ k l. ap (λ x. if is_of_zone b k zone then x else 0) (same k l))

-- ---- a month

module _ (b : Basin) (opening evaporated : List ℕ) (number : ℕ → ℕ)
    (delivered amounts : List ℕ) (l : Ledger)
    (is : IsLedger b opening evaporated number delivered amounts l)
  where
    -- the weights of a reservoir sum up to what it opens with, or more where its accounts hold more
    weights_sum : (v : ℕ) → total (suc (length b.accounts)) (loss_weight b opening l.opening v)
        ≡ slice_index opening v - sum_in_reservoir b (slice_index l.opening) v
        + sum_in_reservoir b (slice_index l.opening) v
    weights_sum v = total_first (length b.accounts) (loss_weight b opening l.opening v)

    loss_fits : EvaporatesWithin opening evaporated → (k : ℕ) (o : Option ℕ) →
        loss_with b opening evaporated l.opening o k ≤ slice_index l.opening k
    loss_fits within k None = omega arith
    loss_fits within k (Some v) =
        omega (
          arith,
          shares_fit (suc (length b.accounts)) (slice_index evaporated v) (loss_weight b opening l.opening v)
              (suc k) (omega (arith, weights_sum v, within v)),
          when_le (is_in_reservoir b k v) (slice_index l.opening k),
        )

    lost_within : EvaporatesWithin opening evaporated → (k : ℕ) → k < length b.accounts →
        slice_index l.lost k ≤ slice_index l.opening k
    lost_within within k m = omega (arith, is.lost k m, loss_fits within k (reservoir_of b k))

    spilled_within : (k : ℕ) → k < length b.accounts → slice_index l.spilled k ≤ left_of l.opening l.lost k
    spilled_within k m =
        omega (
          arith,
          is.spilled k m,
          zone_share_fits b (excess_of b number l.opening l.lost) (left_of l.opening l.lost) k
              (zone_of b k) (λ zone e. omega arith),
        )

    -- what is carried in a zone is what is left after losses, up to the number
    carried_in_zone : (zone : ℕ) →
        sum_in_zone b (slice_index l.carried) zone + excess_of b number l.opening l.lost zone
        ≡ sum_in_zone b (left_of l.opening l.lost) zone
    carried_in_zone zone =
        omega (
          arith,
          zone_shares b (excess_of b number l.opening l.lost) (left_of l.opening l.lost) zone
              (omega arith),
          same_in_zone b (left_of l.opening l.lost)
              (λ k. slice_index l.carried k + spill_of b number l.opening l.lost k) zone
              (λ k m. omega (arith, is.carried k m, is.spilled k m, spilled_within k m)),
          total_where_add (length b.accounts) (λ k. is_of_zone b k zone) (λ k. slice_index l.carried k)
              (λ k. spill_of b number l.opening l.lost k),
        )

    module _ (i : ℕ) (used : List ℕ) (fills : FillsWithinWant b i number used delivered l) where
      fill_fits : (zone : ℕ) → is_owned b zone ≡ true →
          (slice_index delivered zone ≤ sum_in_zone b (room_of b l.carried) zone)
          × (slice_index delivered zone ≤ number zone - sum_in_zone b (slice_index l.carried) zone)
      fill_fits zone own = (omega (arith, fills zone own, most), omega (arith, fills zone own, most))
        where
          most : zone_want b i number used l.carried zone
              ≤ min (number zone - sum_in_zone b (slice_index l.carried) zone)
              (sum_in_zone b (room_of b l.carried) zone)
          most = season_le (is_in_season b i zone) _ _ (want_le (volume_of b zone) _ (slice_index used zone))

      filled_within : (k : ℕ) → k < length b.accounts → slice_index l.filled k ≤ room_of b l.carried k
      filled_within k m =
          omega (
            arith,
            is.filled k m,
            zone_share_fits b (slice_index delivered) (room_of b l.carried) k (zone_of b k)
                (λ zone e. (fill_fits zone (zone_is_owned b k zone e)).0),
          )

      filled_in_zone : (zone : ℕ) → is_owned b zone ≡ true →
          sum_in_zone b (slice_index l.filled) zone ≡ slice_index delivered zone
      filled_in_zone zone own =
          same_in_zone b (slice_index l.filled) (fill_of b delivered l.carried) zone is.filled
          ∙ zone_shares b (slice_index delivered) (room_of b l.carried) zone (fill_fits zone own).0

      stock_in_zone : (zone : ℕ) → is_owned b zone ≡ true →
          sum_in_zone b (stock_of l) zone ≤ number zone
      stock_in_zone zone own =
          omega (
            arith,
            carried_in_zone zone,
            filled_in_zone zone own,
            (fill_fits zone own).1,
            total_where_add (length b.accounts) (λ k. is_of_zone b k zone) (λ k. slice_index l.carried k)
                (λ k. slice_index l.filled k),
          )

      within_space : ((k : ℕ) → k < length b.accounts → slice_index l.opening k ≤ space_of b k) → (k : ℕ) →
          k < length b.accounts →
          (stock_of l k ≤ space_of b k) × (slice_index l.closing k ≤ space_of b k)
      within_space opens k m =
          let stays : stock_of l k ≤ space_of b k =
          omega (arith, opens k m, is.carried k m, filled_within k m) in
          (stays, omega (arith, is.closing k m))

    -- what a reservoir's accounts lose is its evaporation, but for what is lost beside them
    lost_in_reservoir : (v : ℕ) → slice_index evaporated v ≤ slice_index opening v →
        sum_in_reservoir b (slice_index l.opening) v ≤ slice_index opening v →
        slice_index evaporated v + sum_in_reservoir b (slice_index l.opening) v
        ≤ slice_index opening v + sum_in_reservoir b (slice_index l.lost) v
    lost_in_reservoir v within held =
        omega (
          arith,
          weights_sum v,
          shares_whole (suc (length b.accounts)) (slice_index evaporated v)
              (loss_weight b opening l.opening v) (omega (arith, weights_sum v)),
          total_first (length b.accounts)
              (λ i. share (suc (length b.accounts)) (slice_index evaporated v)
              (loss_weight b opening l.opening v) i),
          shares_fit (suc (length b.accounts)) (slice_index evaporated v) (loss_weight b opening l.opening v)
              0 (omega (arith, weights_sum v)),
          total_same (length b.accounts)
              (λ k. if is_in_reservoir b k v then slice_index l.lost k else 0)
              (λ k. share (suc (length b.accounts)) (slice_index evaporated v)
              (loss_weight b opening l.opening v) (suc k))
              one,
        )
      where
        one : (k : ℕ) → k < length b.accounts →
            (if is_in_reservoir b k v then slice_index l.lost k else 0)
            ≡ share (suc (length b.accounts)) (slice_index evaporated v) (loss_weight b opening l.opening v)
            (suc k)
        one k m = elim (cases_Bool (is_in_reservoir b k v)) [
          | inl in_it ↦
              cond-true (is_in_reservoir b k v) (slice_index l.lost k) 0 in_it
              ∙ (is.lost k m
              ∙ ap (λ o. loss_with b opening evaporated l.opening o k)
              (at_some (reservoir_of b k) v in_it))
          | inr other ↦
              cond-false (is_in_reservoir b k v) (slice_index l.lost k) 0 other
              ∙ sym (share_of_none (suc (length b.accounts)) (slice_index evaporated v)
              (loss_weight b opening l.opening v) (suc k)
              (cond-false (is_in_reservoir b k v) (slice_index l.opening k) 0 other))
        ]

    carried_in_reservoir : EvaporatesWithin opening evaporated → (v : ℕ) →
        sum_in_reservoir b (slice_index l.opening) v ≤ slice_index opening v →
        sum_in_reservoir b (slice_index l.carried) v ≤ slice_index opening v - slice_index evaporated v
    carried_in_reservoir within v held =
        omega (
          arith,
          within v,
          lost_in_reservoir v (within v) held,
          total_where_le (length b.accounts) (λ k. is_in_reservoir b k v)
              (λ k. is_in_reservoir b k v) (λ k. slice_index l.carried k + slice_index l.lost k)
              (slice_index l.opening)
              (λ k m h. (h, omega (arith, is.carried k m, lost_within within k m))),
          total_where_add (length b.accounts) (λ k. is_in_reservoir b k v) (λ k. slice_index l.carried k)
              (λ k. slice_index l.lost k),
        )

-- ---- the laws

pub books_balance : BooksBalance
books_balance b opening evaporated number delivered amounts l is within drawn k m =
    omega (
      arith,
      lost_within b opening evaporated number delivered amounts l is within k m,
      spilled_within b opening evaporated number delivered amounts l is k m,
      is.carried k m,
      is.closing k m,
      drawn k m,
    )

pub fills_add_up : FillsAddUp
fills_add_up b opening evaporated number i used delivered amounts l is fills =
    filled_in_zone b opening evaporated number delivered amounts l is i used fills

pub accounts_stay_within_space : AccountsStayWithinSpace
accounts_stay_within_space b opening evaporated number i used delivered amounts l is fills =
    within_space b opening evaporated number delivered amounts l is i used fills

pub zones_stay_within_number : ZonesStayWithinNumber
zones_stay_within_number b opening evaporated number i used delivered amounts l is fills =
    stock_in_zone b opening evaporated number delivered amounts l is i used fills

pub nothing_fills_out_of_season : NothingFillsOutOfSeason
nothing_fills_out_of_season b opening evaporated number i used delivered amounts l is fills zone k closed of_it m =
    (none, omega (arith, is.closing k m, none))
  where
    want_none : zone_want b i number used l.carried zone ≡ 0
    want_none = cond-false (is_in_season b i zone) _ 0 closed

    taken_none : slice_index delivered zone ≡ 0
    taken_none = omega (arith, fills zone (zone_is_owned b k zone of_it), want_none)

    none : slice_index l.filled k ≡ 0
    none =
        omega (
          arith,
          is.filled k m,
          ap (λ o. share_in_zone b (slice_index delivered) (room_of b l.carried) o k) of_it,
          share_of_nothing (length b.accounts) (slice_index delivered zone)
              (λ j. when (is_of_zone b j zone) (room_of b l.carried j)) k taken_none,
        )

pub fills_stay_within_volume : FillsStayWithinVolume
fills_stay_within_volume b i number used delivered l fills zone volume own has_volume used_within =
    omega (arith, fills zone own, season_le (is_in_season b i zone) _ _ within, used_within)
  where
    within : want_by_volume (volume_of b zone)
        (min (number zone - sum_in_zone b (slice_index l.carried) zone) (sum_in_zone b (room_of b l.carried) zone))
        (slice_index used zone) ≤ volume - slice_index used zone
    within = rw has_volume (omega arith)

pub accounts_stay_within_reservoir : AccountsStayWithinReservoir
accounts_stay_within_reservoir b opening evaporated number delivered amounts l v is within held = (
  carried_in_reservoir b opening evaporated number delivered amounts l is within v held,
  omega arith,
)
