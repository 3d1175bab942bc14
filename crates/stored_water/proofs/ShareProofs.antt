-- The parts of an amount.
use Rattle.std.proofs.Common.{◌≡◌, ℕ, zero, suc, ◌+◌, ◌-◌, ◌*◌, ◌/◌, ◌<◌, ◌≤◌, false, true, sym, ◌∙◌, ap, arith, inl}
use Rattle.std.proofs.Common.{inr}
use Rattle.std.proofs.Math.Nat.{mul-add, add-mul, mul-zero, zero-div, div-zero, mul-le-mul_left, mul-le-mul_right}
use Rattle.std.proofs.Math.Nat.{one-mul, mul-div_cancel, add-mul-div_left, le-div_iff_mul-le, div-mul-le_self}
use Rattle.std.proofs.Math.Nat.{lt-div-mul-add}
use Rattle.std.proofs.lemmas.Bool.{cases_lt}
use Rattle.std.proofs.lemmas.Bool.Decides.{nat_tests}
use Rattle.std.specs.Prelude.{◌==◌, if◌then◌else◌}
use Rattle.finite_sums.specs.Sums.{total}
use Rattle.finite_sums.proofs.Totals.{total_same, total_zero}
use Rattle.water_model.specs.Shares.{part, share}
use Rattle.stored_water.specs.ShareLaws.{SharesSumUp, SharesFit, SharesAreInProportion, OrderChangesNoSum}

pub quotient_rises : (x y d : ℕ) → x ≤ y → x / d ≤ y / d
quotient_rises x y d le = elim (cases_lt 0 d) [
  | inl some ↦ (le-div_iff_mul-le {k = d} {x = x / d} {y = y} some).1 (omega (arith, div-mul-le_self x d))
  | inr none ↦ of_zero d (omega arith)
]
  where
    of_zero : (d : ℕ) → d ≡ 0 → x / d ≤ y / d
    of_zero d e = rw (e, div-zero x, div-zero y) (omega arith)

not_zero : (all : ℕ) → 0 < all → (all == 0) ≡ false
not_zero all some = grind (arith, nat_tests)

is_zero : (all : ℕ) → all ≡ 0 → (all == 0) ≡ true
is_zero all none = grind (arith, nat_tests)

pub part_is : (amount before weight all : ℕ) → 0 < all →
    part amount before weight all ≡ amount * (before + weight) / all - amount * before / all
part_is amount before weight all some =
    ap (λ t. if t then 0 else amount * (before + weight) / all - amount * before / all) (not_zero all some)

pub part_of_none : (amount before weight all : ℕ) → all ≡ 0 → part amount before weight all ≡ 0
part_of_none amount before weight all none =
    ap (λ t. if t then 0 else amount * (before + weight) / all - amount * before / all) (is_zero all none)

-- the parts up to an index telescope
up_to : (i amount all : ℕ) (weight : ℕ → ℕ) →
    total i (λ k. amount * (total k weight + weight k) / all - amount * total k weight / all)
    ≡ amount * total i weight / all
unfolding total
up_to zero amount all weight = sym (ap (λ x. x / all) (mul-zero amount) ∙ zero-div all)
up_to (suc i) amount all weight =
    omega (
      arith,
      up_to i amount all weight,
      quotient_rises (amount * total i weight) (amount * (total i weight + weight i)) all
          (mul-le-mul_left amount (omega arith)),
    )

-- so do those that are dealt out of all weights
pub shares_up_to : (i n amount : ℕ) (weight : ℕ → ℕ) → 0 < total n weight →
    total i (λ k. share n amount weight k) ≡ amount * total i weight / total n weight
shares_up_to i n amount weight some =
    total_same i (λ k. share n amount weight k)
    (λ k. amount * (total k weight + weight k) / total n weight - amount * total k weight / total n weight)
    (λ k l. part_is amount (total k weight) (weight k) (total n weight) some)
    ∙ up_to i amount (total n weight) weight

pub shares_sum_up : SharesSumUp
shares_sum_up n amount weight some = shares_up_to n n amount weight some ∙ mul-div_cancel amount some

pub shares_fit : SharesFit
shares_fit n amount weight i fits = elim (cases_lt 0 (total n weight)) [
  | inl some ↦
      omega (
        arith,
        part_is amount (total i weight) (weight i) (total n weight) some,
        quotient_rises (amount * (total i weight + weight i))
            (amount * total i weight + total n weight * weight i) (total n weight)
            (omega (
              arith,
              mul-add amount (total i weight) (weight i),
              mul-le-mul_right (weight i) fits,
            )),
        add-mul-div_left (amount * total i weight) (weight i) some,
      )
  | inr none ↦ omega (arith, part_of_none amount (total i weight) (weight i) (total n weight) (omega arith))
]

-- two quotients and what is between them
between : (x y gap all : ℕ) → 0 < all → x ≤ y → gap + x / all ≡ y / all →
    (y < x + gap * all + all) × (gap * all + x < y + all)
between x y gap all some le e =
    let times : gap * all + x / all * all ≡ y / all * all = sym (add-mul gap (x / all) all) ∙ ap (λ q. q * all) e in
    let low : x / all * all ≤ x = div-mul-le_self x all in
    let high : y / all * all ≤ y = div-mul-le_self y all in
    let below : x < x / all * all + all = lt-div-mul-add some in
    let above : y < y / all * all + all = lt-div-mul-add some in
    (omega arith, omega arith)

pub shares_are_in_proportion : SharesAreInProportion
shares_are_in_proportion n amount weight i some = record {
  not_below = omega (
    arith,
    bounds.0,
    more,
    add-mul (share n amount weight i) 1 (total n weight),
    one-mul (total n weight),
  );
  not_above = omega (arith, bounds.1, more);
}
  where
    more : amount * (total i weight + weight i) ≡ amount * total i weight + amount * weight i
    more = mul-add amount (total i weight) (weight i)

    rises : amount * total i weight / total n weight ≤ amount * (total i weight + weight i) / total n weight
    rises = quotient_rises (amount * total i weight) (amount * (total i weight + weight i)) (total n weight)
        (omega (arith, more))

    bounds : (amount * (total i weight + weight i)
        < amount * total i weight + share n amount weight i * total n weight + total n weight)
        × (share n amount weight i * total n weight + amount * total i weight
        < amount * (total i weight + weight i) + total n weight)
    bounds =
        between (amount * total i weight) (amount * (total i weight + weight i)) (share n amount weight i)
        (total n weight) some (omega (arith, more))
        (omega (arith, rises, part_is amount (total i weight) (weight i) (total n weight) some))

pub order_changes_no_sum : OrderChangesNoSum
order_changes_no_sum n amount weight other same = elim (cases_lt 0 (total n weight)) [
  | inl some ↦ shares_sum_up n amount weight some ∙ sym (shares_sum_up n amount other (omega arith))
  | inr none ↦
      total_zero n (λ i. share n amount weight i)
      (λ i l. part_of_none amount (total i weight) (weight i) (total n weight) (omega arith))
      ∙ sym (total_zero n (λ i. share n amount other i)
      (λ i l. part_of_none amount (total i other) (other i) (total n other) (omega arith)))
]
