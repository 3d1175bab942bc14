-- What is due by what a row keeps is what the sums over all months say.
use Rattle.std.proofs.Common.{◌≡◌, ◌∙◌, ℕ, ◌+◌, ◌-◌, ◌*◌, ◌/◌, ◌%◌, ◌<◌, List, length, get_or, refl, sym, ap}
use Rattle.std.proofs.Common.{arith, inl, inr, true, false}
use Rattle.std.specs.Prelude.{slice_index, nat_lt, unwrap_or}
use Rattle.std.proofs.lemmas.Bool.{cases_Bool, ltb-true, ltb-false}
use Rattle.std.proofs.lemmas.List.{length-map, length-drop, get_or-drop}
use Rattle.std.proofs.lemmas.Option.{slice_get-map, unwrap_or-slice_get}
use Rattle.std.proofs.Math.Nat.{mul-add}
use Rattle.circular_buffer.specs.Buffer.{keep_last}
use Rattle.finite_sums.proofs.Totals.{total_start, total_more}
use Rattle.water_model.specs.Hydrology.{delivered_in, delivered_before, returned_by}
use Rattle.lag_returns.specs.ReturnFlows.{due, arriving}
use Rattle.lag_returns.specs.Lags.{InTransit, IsInTransit, delivered_to}

delivered_at : (deliveries : List (List ℕ)) (right j : ℕ) →
    get_or (delivered_to deliveries right) j 0 ≡ delivered_in deliveries right j
delivered_at deliveries right j =
    sym (unwrap_or-slice_get (delivered_to deliveries right) j 0)
    ∙ ap (λ o. unwrap_or o 0) (slice_get-map (λ d. slice_index d right) deliveries j)

-- how many deliveries are on their way
in_transit : (deliveries : List (List ℕ)) (right lag : ℕ) →
    length (keep_last lag (delivered_to deliveries right)) ≡ length deliveries - (length deliveries - lag)
in_transit deliveries right lag =
    let n = length-map deliveries (λ d. slice_index d right) in
    omega (arith, n, length-drop (length (delivered_to deliveries right) - lag) (delivered_to deliveries right))

-- the oldest of them
oldest : (deliveries : List (List ℕ)) (right lag : ℕ) →
    slice_index (keep_last lag (delivered_to deliveries right)) 0 ≡ delivered_in deliveries right
    (length deliveries - lag)
oldest deliveries right lag =
    get_or-drop (length (delivered_to deliveries right) - lag) (delivered_to deliveries right) 0 0
    ∙ ap (λ n. get_or (delivered_to deliveries right) n 0) (index (length-map deliveries (λ d. slice_index d right)))
    ∙ delivered_at deliveries right (length deliveries - lag)
  where
    index : {n m : ℕ} → n ≡ m → n - lag + 0 ≡ m - lag
    index e = omega arith

-- what came to be due now, beside the remainder
pub record IsDue (deliveries : List (List ℕ)) (w : InTransit) (amount : ℕ) : Type 0 where
  pub more : delivered_before deliveries w.row.right (length deliveries + 1 - w.row.lag)
      ≡ delivered_before deliveries w.row.right (length deliveries - w.row.lag) + amount
  pub parts : due w ≡ (w.row.part * delivered_before deliveries w.row.right (length deliveries - w.row.lag)) % 10000 +
      w.row.part * amount

pub is_due : {deliveries : List (List ℕ)} {w : InTransit} → IsInTransit deliveries w → (amount : ℕ) ×
    IsDue deliveries w amount
is_due {deliveries} {w} h = elim (cases_Bool (nat_lt (length w.waiting) w.row.lag)) [
  | inl bounded ↦ (0, none bounded)
  | inr full ↦ (delivered_in deliveries w.row.right (length deliveries - w.row.lag), some full)
]
  where
    waiting : length w.waiting ≡ length deliveries - (length deliveries - w.row.lag)
    waiting = ap length h.waiting ∙ in_transit deliveries w.row.right w.row.lag

    none_due : nat_lt (length w.waiting) w.row.lag ≡ true → due w ≡ 0
    none_due bounded = rw bounded refl

    due_of_oldest : nat_lt (length w.waiting) w.row.lag ≡ false →
        due w ≡ w.remainder + w.row.part * slice_index w.waiting 0
    due_of_oldest full = rw full refl

    -- nothing came back yet
    begins : length deliveries < w.row.lag → delivered_before deliveries w.row.right (length deliveries - w.row.lag) ≡ 0
    begins l =
        let e : length deliveries - w.row.lag ≡ 0 = omega arith in
        ap (delivered_before deliveries w.row.right) e ∙ total_start (λ k. delivered_in deliveries w.row.right k)

    no_parts : (p d : ℕ) → d ≡ 0 → 0 ≡ (p * d) % 10000 + p * 0
    no_parts p d e = rw e (omega arith)

    none : nat_lt (length w.waiting) w.row.lag ≡ true → IsDue deliveries w 0
    none bounded =
        let l = ltb-true (length w.waiting) w.row.lag bounded in
        let m : length deliveries < w.row.lag = omega (arith, waiting) in
        let e : length deliveries + 1 - w.row.lag ≡ length deliveries - w.row.lag = omega arith in
        record {
          more = omega (arith, ap (delivered_before deliveries w.row.right) e);
          parts = none_due bounded
              ∙ no_parts w.row.part (delivered_before deliveries w.row.right (length deliveries - w.row.lag))
              (begins m);
        }

    some : nat_lt (length w.waiting) w.row.lag ≡ false →
        IsDue deliveries w (delivered_in deliveries w.row.right (length deliveries - w.row.lag))
    some full =
        let l = ltb-false (length w.waiting) w.row.lag full in
        let e : length deliveries + 1 - w.row.lag ≡ length deliveries - w.row.lag + 1 = omega (arith, waiting) in
        record {
          more = ap (delivered_before deliveries w.row.right) e
              ∙ total_more (length deliveries - w.row.lag) (λ k. delivered_in deliveries w.row.right k);
          parts = due_of_oldest full ∙ ap (λ r. r + w.row.part * slice_index w.waiting 0) h.remainder ∙ ap (λ d.
              (w.row.part * delivered_before deliveries w.row.right (length deliveries - w.row.lag)) % 10000 +
              w.row.part * d) (ap (λ xs. slice_index xs 0) h.waiting ∙ oldest deliveries w.row.right w.row.lag);
        }

quotient : (x y : ℕ) → (x % 10000 + y) / 10000 ≡ (x + y) / 10000 - x / 10000
quotient x y = omega arith

pub remainder : (x y : ℕ) → (x % 10000 + y) % 10000 ≡ (x + y) % 10000
remainder x y = omega arith

pub arriving_is : {deliveries : List (List ℕ)} {w : InTransit} → IsInTransit deliveries w →
    arriving w ≡ returned_by w.row deliveries (length deliveries)
arriving_is {deliveries} {w} h = by (is_due h)
  where
    by : (amount : ℕ) × IsDue deliveries w amount → arriving w ≡ returned_by w.row deliveries (length deliveries)
    by found = rw (found.1.parts, quotient, found.1.more, mul-add) refl
