-- What links carry in a month.
use Rattle.std.proofs.Common.{◌≡◌, ℕ, ◌-◌, ◌*◌, ◌^◌, ◌<◌, ◌≤◌, Bool, true, false, refl, ap, arith, length}
use Rattle.std.specs.Prelude.{slice_get, if◌then◌else◌, Option, Some, None, unwrap_or, option_map, pos}
use Rattle.std.proofs.lemmas.Bool.{false≢true}
use Rattle.std.proofs.Math.Nat.{mul-le-mul_left}
use Rattle.water_text.specs.Months.{IsMonth, days_of}
use Rattle.water_text.specs.declared.month.Month.{Month}
use Rattle.water_text.proofs.DayNumbers.{days_in-days_in_month, days_in_month-le}
use Rattle.water_model.specs.Basin.{is_river}
use Rattle.water_model.specs.Network.{is_river_kind}
use Rattle.water_model.specs.Plans.{carry_of, carry_of_kind}
use Rattle.water_model.specs.Valid.{IsValidBasin, IsValidLink, IsValidCarry}
use Rattle.water_model.specs.declared.types.Basin.{Basin}
use Rattle.water_model.specs.declared.types.Carry.{Carry}
use Rattle.water_model.specs.declared.types.Carry.TheVariants.{River, Canal}
use Rattle.water_model.specs.declared.types.Link.{Link}
use Rattle.water_model.proofs.Valid.{entry_holds}

-- no month has more than 31 days
pub days_most : (m : Month) → IsMonth m → days_of m ≤ 31
days_most m is = rw (days_in-days_in_month m.year m.month is.month.0 is.month.1) (days_in_month-le (pos m.year) m.month)

-- what a canal carries while it isn't shut
pub days_carry : (per_day : ℕ) (month : Month) → per_day ≤ 10 ^ 9 → IsMonth month → per_day * days_of month ≤ 10 ^ 15
days_carry per_day month h is = small per_day (days_of month) h (days_most month is)
  where
    small : (d n : ℕ) → d ≤ 10 ^ 9 → n ≤ 31 → d * n ≤ 10 ^ 15
    small d n h k = let most : d * n ≤ d * 31 = mul-le-mul_left d k in omega arith

-- what a river carries
pub river_carry : (b : Basin) (month : Month) (e : ℕ) → is_river b e ≡ true → carry_of b month e ≡ 10 ^ 15
river_carry b month e river = of_carry (slice_get b.links e) river
  where
    of_kind : (c : Carry) → is_river_kind c ≡ true → carry_of_kind c month ≡ 10 ^ 15
    of_kind River h = refl
    of_kind (Canal per_day shut) h = absurd (false≢true h)

    of_carry : (o : Option Link) → unwrap_or (option_map (λ (l : Link). is_river_kind l.carry) o) false ≡ true →
        unwrap_or (option_map (λ (l : Link). carry_of_kind l.carry month) o) 0 ≡ 10 ^ 15
    of_carry None h = absurd (false≢true h)
    of_carry (Some l) h = of_kind l.carry h

-- no link carries more than a river
pub carry_most : (b : Basin) (month : Month) (e : ℕ) → IsValidBasin b → IsMonth month → e < length b.links →
    carry_of b month e ≤ 10 ^ 15
carry_most b month e valid is l =
    let entry = entry_holds (λ l. IsValidLink b l) b.links e valid.links l in
    let at : carry_of b month e ≡ carry_of_kind entry.0.carry month =
    ap (λ o. unwrap_or (option_map (λ x. carry_of_kind x.carry month) o) 0) entry.1 in
    rw at (by_kind entry.0.carry entry.2.carry)
  where
    by_kind : (c : Carry) → IsValidCarry c → carry_of_kind c month ≤ 10 ^ 15
    by_kind River h = omega arith
    by_kind (Canal per_day shut) h = by_shut (unwrap_or (slice_get shut (month.month - 1)) false)
      where
        by_shut : (t : Bool) → (if t then 0 else per_day * days_of month) ≤ 10 ^ 15
        by_shut true = omega arith
        by_shut false = days_carry per_day month h.0 is
