-- What stands in reservoirs: what accounts carry there, and what reservoirs close with.
use Rattle.std.proofs.Common.{◌≡◌, ℕ, ◌-◌, ◌<◌, true, false, refl, sym, ◌∙◌, ap, arith, List, length}
use Rattle.std.proofs.lemmas.Bool.{and_parts, not-true}
use Rattle.std.proofs.lemmas.Bool.Decides.{nat_tests}
use Rattle.std.specs.Prelude.{◌==◌, ◌&&◌, not, if◌then◌else◌, slice_index, slice_get, Option, Some, None, unwrap_or}
use Rattle.std.specs.Prelude.{option_map}
use Rattle.finite_sums.specs.Sums.{total_where}
use Rattle.finite_sums.proofs.Totals.{total_same, total_where_le}
use Rattle.finite_sums.proofs.Terms.{same_where, none_where}
use Rattle.water_model.specs.Basin.{is_at, node_of_reservoir, is_zone_of}
use Rattle.water_model.specs.Valid.{is_diversion}
use Rattle.water_model.specs.declared.types.Basin.{Basin}
use Rattle.water_model.specs.declared.types.Reservoir.{Reservoir}
use Rattle.water_model.proofs.Sets.{total_crossing}
use Rattle.water_model.proofs.Valid.{entry_at}
use Rattle.water_model.specs.declared.types.Draw.{Draw}
use Rattle.water_model.specs.Stores.{is_owned, sum_in_zone, reservoir_of_right, is_in_reservoir}
use Rattle.water_model.specs.Accounts.{stock_of, drawn_from, drawn_by, draws_for}
use Rattle.stored_water.specs.AccountLaws.{CarriedIsStored}
use Rattle.stored_water.specs.DrawLaws.{ClosingIsTakes, AreForDiversions}
use Rattle.stored_water.proofs.Accounting.{at_some, accounts_stay_within_reservoir}
use Rattle.stored_water.proofs.Regrouped.{by_reservoirs, by_reservoir_zones, zone_test, node_via, kinds_apart}

pub carried_is_stored : CarriedIsStored
carried_is_stored b opening evaporated number delivered amounts l n is zones within held =
    omega (
      arith,
      by_reservoirs b n (slice_index l.carried) zones,
      total_where_le (length b.reservoirs) (λ v. is_at (node_of_reservoir b v) n)
          (λ v. is_at (node_of_reservoir b v) n)
          (λ v. total_where (length b.accounts) (λ k. is_in_reservoir b k v) (slice_index l.carried))
          (λ v. slice_index opening v - slice_index evaporated v)
          (λ v m h. (
            h,
            (accounts_stay_within_reservoir b opening evaporated number delivered amounts l v is within
                (held v m)).0,
          )),
    )

-- no draw is for a zone
none_for_zone : (b : Basin) (amounts : List ℕ) (r v : ℕ) → AreForDiversions b →
    is_zone_of b r v ≡ true → drawn_by b (length b.draws) amounts r ≡ 0
none_for_zone b amounts r v for_diversions zone =
    none_where (length b.draws) (λ j. draws_for b j r) (λ j. slice_index amounts j)
    (λ j l h. absurd (of_get j (slice_get b.draws j) (for_diversions j) h))
  where
    of_get : (j : ℕ) (o : Option Draw) → ((d : Draw) → o ≡ Some d → is_diversion b d.diversion ≡ true) →
        unwrap_or (option_map (λ d. d.diversion == r) o) false ≡ true → ⊥
    of_get j None diversions h = cc
    of_get j (Some d) diversions h =
        let same : d.diversion ≡ r = grind (arith, nat_tests) in
        kinds_apart b r v (sym (ap (is_diversion b) same) ∙ diversions d refl)
        (at_some (reservoir_of_right b r) v (sym (zone_test b r v) ∙ zone))

pub closing_is_takes : ClosingIsTakes
closing_is_takes b opening evaporated number delivered amounts take l v is m for_diversions after =
    omega (
      arith,
      total_crossing (length b.rights) (λ r. is_zone_of b r v) (λ r. is_owned b r) (λ r. slice_index take r),
      same_where (length b.rights) (λ r. is_zone_of b r v && not (is_owned b r)) (λ r. slice_index take r)
          (λ r. slice_index delivered r) free,
      same_where (length b.rights) (λ r. is_zone_of b r v && is_owned b r) (λ r. slice_index take r)
          (λ r. sum_in_zone b kept r)
          (λ r k h. after.owned r k (and_parts (is_zone_of b r v) (is_owned b r) h).1),
      by_reservoir_zones b v kept,
      total_same (length b.accounts) (λ k. if is_in_reservoir b k v then kept k else 0)
          (λ k. if is_in_reservoir b k v then slice_index l.closing k else 0)
          (λ k h. ap (λ x. if is_in_reservoir b k v then x else 0) (closes k h)),
    )
  where
    kept : ℕ → ℕ
    kept k = stock_of l k - drawn_from b (length b.draws) amounts k

    closes : (k : ℕ) → k < length b.accounts → kept k ≡ slice_index l.closing k
    closes k h = sym (is.closing k h ∙ ap (λ x. stock_of l k - x) (is.drawn k h))

    free : (r : ℕ) → r < length b.rights → is_zone_of b r v && not (is_owned b r) ≡ true →
        slice_index take r ≡ slice_index delivered r
    free r k h =
        let tests = and_parts (is_zone_of b r v) (not (is_owned b r)) h in
        let entry = entry_at b.reservoirs v m in
        let at : node_of_reservoir b v ≡ Some entry.0.node =
        ap (λ o. unwrap_or (option_map (λ (x : Reservoir). Some x.node) o) None) entry.1 in
        omega (
          arith,
          after.others r entry.0.node k (not-true (is_owned b r) tests.1)
              (node_via b r v (at_some (reservoir_of_right b r) v (sym (zone_test b r v) ∙ tests.0)) ∙ at),
          none_for_zone b amounts r v for_diversions tests.0,
        )
