-- What was used of volumes, month by month.
use Rattle.std.proofs.Common.{◌≡◌, ℕ, zero, suc, ◌+◌, ◌-◌, ◌*◌, ◌/◌, ◌%◌, ◌<◌, ◌≤◌, Bool, true, false, refl, sym, ◌∙◌}
use Rattle.std.proofs.Common.{ap, arith, List, [], ◌∷◌, ◌++◌, length, length-append}
use Rattle.std.specs.Prelude.{◌==◌, slice_index, slice_get, Option, Some, None, if◌then◌else◌, is_some, unwrap_or}
use Rattle.std.specs.Prelude.{option_map, nat_lt}
use Rattle.std.proofs.lemmas.Bool.Decides.{nat_tests}
use Rattle.finite_sums.specs.Sums.{total_where}
use Rattle.finite_sums.proofs.Totals.{total_same, total_where_more, total_where_start, total_most}
use Rattle.water_model.specs.Hydrology.{delivered_in, water_year, begins_year, used_in_year, used_by_volume, used_of}
use Rattle.water_model.specs.Hydrology.{volume_of}
use Rattle.water_model.specs.Valid.{IsValidBasin}
use Rattle.water_model.specs.declared.types.Basin.{Basin}
use Rattle.water_model.specs.declared.types.Right.{Right}
use Rattle.water_model.proofs.Sets.{total_where_none_pass}
use Rattle.month_terms.specs.Terms.{HasUsed}

-- what was delivered before stays, where one month more is delivered
delivered_stays : (deliveries : List (List ℕ)) (delivered : List ℕ) (r j : ℕ) → j < length deliveries →
    delivered_in (deliveries ++ delivered ∷ []) r j ≡ delivered_in deliveries r j
delivered_stays [] delivered r j l = absurd (omega arith)
delivered_stays (d ∷ ds) delivered r zero l = refl
delivered_stays (d ∷ ds) delivered r (suc j) l = delivered_stays ds delivered r j (omega arith)

delivered_last : (deliveries : List (List ℕ)) (delivered : List ℕ) (r : ℕ) →
    delivered_in (deliveries ++ delivered ∷ []) r (length deliveries) ≡ slice_index delivered r
delivered_last [] delivered r = refl
delivered_last (d ∷ ds) delivered r = delivered_last ds delivered r

-- the water year, by the months since January of the first year
water_years : (first k start : ℕ) → 1 ≤ start → start ≤ 12 →
    (if nat_lt (k % 12 + 1) start then first + k / 12 else first + k / 12 + 1) ≡ first + (k + 13 - start) / 12
water_years first k start low high = by (nat_lt (k % 12 + 1) start) refl
  where
    below : nat_lt (k % 12 + 1) start ≡ true → k % 12 + 1 < start
    below e = grind (arith, nat_tests)

    above : nat_lt (k % 12 + 1) start ≡ false → start ≤ k % 12 + 1
    above e = grind (arith, nat_tests)

    by : (t : Bool) → nat_lt (k % 12 + 1) start ≡ t →
        (if t then first + k / 12 else first + k / 12 + 1) ≡ first + (k + 13 - start) / 12
    by true e = let l = below e in omega arith
    by false e = let l = above e in omega arith

water_year_is : (b : Basin) (i : ℕ) → IsValidBasin b →
    water_year b i ≡ b.first.year + (b.first.month - 1 + i + 13 - b.year_start) / 12
water_year_is b i valid =
    water_years b.first.year (b.first.month - 1 + i) b.year_start valid.format.year_start.0 valid.format.year_start.1

-- where a water year begins, no month before lies in it; else it is that of the month before
year_anew : (b : Basin) (n j : ℕ) → IsValidBasin b → begins_year b (n + 1) ≡ true → j < n + 1 →
    (water_year b j == water_year b (n + 1)) ≡ false
year_anew b n j valid e l = differ (water_year b j) (water_year b (n + 1))
    (let here : (b.first.month - 1 + (n + 1)) % 12 + 1 ≡ b.year_start =
    equal ((b.first.month - 1 + (n + 1)) % 12 + 1) b.year_start e in
    omega (
      arith,
      water_year_is b j valid,
      water_year_is b (n + 1) valid,
      valid.format.year_start.0,
      valid.format.year_start.1,
    ))
  where
    equal : (x y : ℕ) → (x == y) ≡ true → x ≡ y
    equal x y e = grind (arith, nat_tests)

    differ : (x y : ℕ) → x < y → (x == y) ≡ false
    differ x y l = grind (arith, nat_tests)

year_same : (b : Basin) (n : ℕ) → IsValidBasin b → begins_year b (n + 1) ≡ false → water_year b (n + 1) ≡ water_year b n
year_same b n valid e =
    let here = differ ((b.first.month - 1 + (n + 1)) % 12 + 1) b.year_start e in
    omega (
      arith,
      here,
      water_year_is b n valid,
      water_year_is b (n + 1) valid,
      valid.format.year_start.0,
      valid.format.year_start.1,
    )
  where
    differ : (x y : ℕ) → (x == y) ≡ false → x ≡ y → ⊥
    differ x y e same = grind (arith, nat_tests)

-- the use of one month more
goes_on : (b : Basin) (deliveries : List (List ℕ)) (delivered : List ℕ) (r : ℕ) → IsValidBasin b →
    begins_year b (length deliveries + 1) ≡ false →
    used_in_year b (deliveries ++ delivered ∷ []) r (length deliveries + 1) ≡ used_in_year b deliveries r
    (length deliveries) + slice_index delivered r
goes_on b deliveries delivered r valid e =
    ap (λ y. total_where (n + 1) (λ j. water_year b j == y) (λ j. delivered_in more r j)) (year_same b n valid e)
    ∙ (total_where_more n (λ j. water_year b j == water_year b n) (λ j. delivered_in more r j)
    ∙ both _ _ _ _ before (ap (λ t. if t then delivered_in more r n else 0) (same (water_year b n))
    ∙ delivered_last deliveries delivered r))
  where
    n : ℕ
    n = length deliveries

    more : List (List ℕ)
    more = deliveries ++ delivered ∷ []

    same : (y : ℕ) → (y == y) ≡ true
    same y = grind (arith, nat_tests)

    both : (x y p q : ℕ) → x ≡ p → y ≡ q → x + y ≡ p + q
    both x y p q e f = omega arith

    before : total_where n (λ j. water_year b j == water_year b n) (λ j. delivered_in more r j) ≡ used_in_year b
        deliveries r n
    before = total_same n (λ j. if water_year b j == water_year b n then delivered_in more r j else 0)
        (λ j. if water_year b j == water_year b n then delivered_in deliveries r j else 0)
        (λ j l. ap (λ x. if water_year b j == water_year b n then x else 0)
        (delivered_stays deliveries delivered r j l))

begins_anew : (b : Basin) (deliveries : List (List ℕ)) (r n : ℕ) → IsValidBasin b → begins_year b (n + 1) ≡ true →
    used_in_year b deliveries r (n + 1) ≡ 0
begins_anew b deliveries r n valid e =
    total_where_none_pass (n + 1) (λ j. water_year b j == water_year b (n + 1)) (λ j. delivered_in deliveries r j)
    (λ j l. year_anew b n j valid e l)

-- what a right used, by its volume
used_is : (b : Basin) (deliveries : List (List ℕ)) (r i : ℕ) →
    used_of b deliveries r i ≡ used_by_volume (volume_of b r) (used_in_year b deliveries r i)
used_is b deliveries r i = by (slice_get b.rights r)
  where
    by : (o : Option Right) → unwrap_or (option_map (λ x. used_by_volume x.volume (used_in_year b deliveries r i)) o) 0
        ≡ used_by_volume (unwrap_or (option_map (λ x. x.volume) o) None) (used_in_year b deliveries r i)
    by None = refl
    by (Some x) = refl

one_more : (deliveries : List (List ℕ)) (delivered : List ℕ) →
    length (deliveries ++ delivered ∷ []) ≡ length deliveries + 1
one_more deliveries delivered = omega (arith, length-append deliveries (delivered ∷ []))

pub used_more : (b : Basin) (deliveries : List (List ℕ)) (delivered old new : List ℕ) → IsValidBasin b →
    HasUsed b deliveries old →
    begins_year b (length deliveries + 1) ≡ false → length new ≡ length b.rights →
    ((r : ℕ) → r < length b.rights →
    slice_index new r ≡ slice_index old r + (if is_some (volume_of b r) then slice_index delivered r else 0)) →
    HasUsed b (deliveries ++ delivered ∷ []) new
used_more b deliveries delivered old new valid has e count each = record {
  count = count;
  each = λ r l.
      each r l ∙ (by (volume_of b r) (used_in_year b deliveries r (length deliveries))
      (used_in_year b (deliveries ++ delivered ∷ []) r (length deliveries + 1))
      (slice_index old r) (slice_index delivered r) (has.each r l ∙ used_is b deliveries r (length deliveries))
      (goes_on b deliveries delivered r valid e)
      ∙ sym (ap (used_of b (deliveries ++ delivered ∷ []) r) (one_more deliveries delivered)
      ∙ used_is b (deliveries ++ delivered ∷ []) r (length deliveries + 1)));
}
  where
    by : (v : Option ℕ) (before after old d : ℕ) → old ≡ used_by_volume v before → after ≡ before + d →
        old + (if is_some v then d else 0) ≡ used_by_volume v after
    by None before after old d e f = omega arith
    by (Some volume) before after old d e f = omega arith

pub used_anew : (b : Basin) (deliveries : List (List ℕ)) (delivered new : List ℕ) → IsValidBasin b →
    begins_year b (length deliveries + 1) ≡ true → length new ≡ length b.rights → ((r : ℕ) → slice_index new r ≡ 0) →
    HasUsed b (deliveries ++ delivered ∷ []) new
used_anew b deliveries delivered new valid e count none = record {
  count = count;
  each = λ r l.
      none r ∙ sym (ap (used_of b (deliveries ++ delivered ∷ []) r) (one_more deliveries delivered)
      ∙ (used_is b (deliveries ++ delivered ∷ []) r (length deliveries + 1)
      ∙ by (volume_of b r) _ (begins_anew b (deliveries ++ delivered ∷ []) r (length deliveries) valid e)));
}
  where
    by : (v : Option ℕ) (used : ℕ) → used ≡ 0 → used_by_volume v used ≡ 0
    by None used e = refl
    by (Some volume) used e = e

-- before the first month nothing is used
pub nothing_used : (b : Basin) (used : List ℕ) → length used ≡ length b.rights → ((r : ℕ) → slice_index used r ≡ 0) →
    HasUsed b [] used
nothing_used b used count none = record {
  count = count;
  each = λ r l. none r
      ∙ sym (used_is b [] r 0
      ∙ by (volume_of b r) _ (total_where_start (λ j. water_year b j == water_year b 0) (λ j. delivered_in [] r j)));
}
  where
    by : (v : Option ℕ) (used : ℕ) → used ≡ 0 → used_by_volume v used ≡ 0
    by None used e = refl
    by (Some volume) used e = e

-- in i months no more is used than i times the most that a month delivers
pub used_most : (b : Basin) (deliveries : List (List ℕ)) (r i most : ℕ) →
    ((j : ℕ) → delivered_in deliveries r j ≤ most) → used_of b deliveries r i ≤ i * most
used_most b deliveries r i most small =
    rw (used_is b deliveries r i) (by (volume_of b r) (used_in_year b deliveries r i)
    (total_most i most (λ j. if water_year b j == water_year b i then delivered_in deliveries r j else 0)
    (λ j l. term (water_year b j == water_year b i) (delivered_in deliveries r j) (small j))))
  where
    term : (t : Bool) (x : ℕ) → x ≤ most → (if t then x else 0) ≤ most
    term true x h = h
    term false x h = omega arith

    by : (v : Option ℕ) (used : ℕ) → used ≤ i * most → used_by_volume v used ≤ i * most
    by None used h = omega arith
    by (Some volume) used h = h
