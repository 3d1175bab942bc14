-- How large the amounts of a partial history's months can be.
use Rattle.std.proofs.Common.{◌≡◌, ℕ, ◌+◌, ◌-◌, ◌*◌, ◌^◌, ◌<◌, ◌≤◌, refl, ◌∙◌, ap, arith, List, length, map, take}
use Rattle.std.proofs.Common.{inl, inr, get_or}
use Rattle.std.specs.Prelude.{slice_index, slice_get, Option, Some, None, unwrap_or, option_map, All, sum_by}
use Rattle.std.proofs.lemmas.Bool.{cases_lt}
use Rattle.std.proofs.lemmas.List.{get_or_past}
use Rattle.std.proofs.lemmas.List.Sums.{sum_by-le}
use Rattle.std.proofs.lemmas.Option.{slice_get-get_or, slice_get-map, get_or_from_slice_get}
use Rattle.finite_sums.specs.Sums.{total}
use Rattle.finite_sums.proofs.Totals.{total_add}
use Rattle.water_model.specs.Basin.{instream_link}
use Rattle.water_model.specs.Plans.{delivery_by_link}
use Rattle.water_model.specs.Hydrology.{inflow_at, returned_at, stored_at, delivered_in}
use Rattle.water_model.specs.History.{IsPartialHistory, Follows, opening_after}
use Rattle.water_model.specs.Valid.{IsValidBasin, IsValidReservoir, IsSeriesOf}
use Rattle.water_model.specs.declared.types.Basin.{Basin}
use Rattle.water_model.specs.declared.types.Series.{Series}
use Rattle.water_model.specs.declared.types.MonthRecord.{MonthRecord}
use Rattle.water_model.proofs.Lists.{prefix_partial}
use Rattle.water_model.proofs.Valid.{entry_holds}
use Rattle.water_model.proofs.Wants.{want_most}
use Rattle.month_terms.proofs.Bounds.{inflows_small, returns_small, first_stored, later_stored}

-- what a record delivers is small, and so is what it takes
pub record IsSmall (b : Basin) (m : MonthRecord) : Type 0 where
  pub takes : (r : ℕ) → r < length b.rights → slice_index m.plan.take r ≤ 10 ^ 9
  pub delivered : (r : ℕ) → slice_index m.delivered r ≤ 10 ^ 9

pub follows_small : (b : Basin) (series : Series) (before : List MonthRecord) (m : MonthRecord) → IsValidBasin b →
    IsSeriesOf b series → Follows b series before m → IsSmall b m
follows_small b series before m valid fits follows = record { takes = takes; delivered = delivered }
  where
    wanted : (r : ℕ) → r < length b.rights → slice_index m.want r ≤ 10 ^ 9
    wanted r l = rw (follows.after.want r l) (want_most b series r m.index (slice_index m.used r) valid fits l)

    takes : (r : ℕ) → r < length b.rights → slice_index m.plan.take r ≤ 10 ^ 9
    takes r l = omega (arith, follows.after.plan.wants r l, wanted r l)

    by_link : (o : Option ℕ) (r w : ℕ) → w ≤ 10 ^ 9 → slice_index m.plan.take r ≤ 10 ^ 9 →
        delivery_by_link o w m.plan r ≤ 10 ^ 9
    by_link None r w h k = k
    by_link (Some link) r w h k = omega arith

    delivered : (r : ℕ) → slice_index m.delivered r ≤ 10 ^ 9
    delivered r = elim (cases_lt r (length b.rights)) [
      | inl within ↦
          rw (follows.after.delivered r within)
          (by_link (instream_link b r) r (slice_index m.want r) (wanted r within) (takes r within))
      | inr past ↦ rw (get_or_past m.delivered r 0 (omega (arith, follows.after.fits.delivered))) (omega arith)
    ]

-- what holds of each month that follows a partial history holds of all months of one
pub each_month : (P : MonthRecord → Type 0) (b : Basin) (series : Series) (records : List MonthRecord) →
    IsPartialHistory b series records →
    ((before : List MonthRecord) (m : MonthRecord) → IsPartialHistory b series before → Follows b series before m →
    P m) → All P records
each_month P b series records partial h =
    λ k d l. h (take k records) (get_or records k d) (prefix_partial b series records k partial)
    (partial.each k (get_or records k d) (slice_get-get_or records k d l))

-- what a right was delivered in all months
pub delivered_small : (b : Basin) (series : Series) (records : List MonthRecord) (r : ℕ) → IsValidBasin b →
    IsSeriesOf b series → IsPartialHistory b series records →
    sum_by (λ m. slice_index m.delivered r) records ≤ length records * 10 ^ 9
delivered_small b series records r valid fits partial =
    sum_by-le (λ m. slice_index m.delivered r) (10 ^ 9) records
    (each_month _ b series records partial
    (λ before m prefix follows. (follows_small b series before m valid fits follows).delivered r))

pub deliveries_small : (b : Basin) (series : Series) (records : List MonthRecord) → IsValidBasin b →
    IsSeriesOf b series →
    IsPartialHistory b series records → (r j : ℕ) → delivered_in (map (λ m. m.delivered) records) r j ≤ 10 ^ 9
deliveries_small b series records valid fits partial r j =
    rw (slice_get-map (λ m. m.delivered) records j) (of_month (slice_get records j) refl)
  where
    of_month : (o : Option MonthRecord) → slice_get records j ≡ o →
        unwrap_or (option_map (λ (delivered : List ℕ). slice_index delivered r) (option_map (λ m. m.delivered) o))
        0 ≤ 10 ^ 9
    of_month None e = omega arith
    of_month (Some m) e = (follows_small b series (take j records) m valid fits (partial.each j m e)).delivered r

-- what the reservoirs hold when a month opens
pub stored_small : (b : Basin) (series : Series) (records : List MonthRecord) (evaporated : List ℕ) → IsValidBasin b →
    IsSeriesOf b series →
    IsPartialHistory b series records →
    total (length b.nodes) (λ n. stored_at b (opening_after b records) evaporated n) ≤ 32 * 10 ^ 12
stored_small b series records evaporated valid fits partial = by_last (slice_get records (length records - 1)) refl
  where
    opens : Option MonthRecord → List ℕ
    opens o = unwrap_or (option_map (λ m. m.closing) o) (map (λ v. v.opening) b.reservoirs)

    first : (v : ℕ) → v < length b.reservoirs → slice_index (map (λ v. v.opening) b.reservoirs) v ≤ 16 * 10 ^ 9
    first v l =
        let entry = entry_holds (λ x. IsValidReservoir b x) b.reservoirs v valid.reservoirs l in
        let at : slice_get (map (λ v. v.opening) b.reservoirs) v ≡ Some entry.0.opening =
        slice_get-map (λ v. v.opening) b.reservoirs v ∙ ap (λ o. option_map (λ v. v.opening) o) entry.1 in
        rw (get_or_from_slice_get (map (λ v. v.opening) b.reservoirs) v entry.0.opening 0 at)
        (omega (arith, entry.2.opening))

    by_last : (o : Option MonthRecord) → slice_get records (length records - 1) ≡ o →
        total (length b.nodes) (λ n. stored_at b (opening_after b records) evaporated n) ≤ 32 * 10 ^ 12
    by_last None e = rw (ap opens e) (first_stored b (map (λ v. v.opening) b.reservoirs) evaporated valid first)
    by_last (Some m) e =
        let follows = partial.each (length records - 1) m e in
        let small = follows_small b series (take (length records - 1) records) m valid fits follows in
        let most = later_stored b m.closing evaporated m.plan.take valid follows.closing small.takes in
        rw (ap opens e) (omega (arith, most))

-- the whole supply of a month
pub supply_small : (b : Basin) (series : Series) (records : List MonthRecord) (evaporated : List ℕ) (i : ℕ) →
    IsValidBasin b → IsSeriesOf b series →
    IsPartialHistory b series records →
    total (length b.nodes)
    (λ n. inflow_at b series n i + returned_at b (map (λ m. m.delivered) records) n i + stored_at b
    (opening_after b records) evaporated n) ≤ 36 * 10 ^ 12
supply_small b series records evaporated i valid fits partial =
    let parts =
    total_add (length b.nodes) (λ n. inflow_at b series n i + returned_at b (map (λ m. m.delivered) records) n i)
    (λ n. stored_at b (opening_after b records) evaporated n) in
    let more =
    total_add (length b.nodes) (λ n. inflow_at b series n i)
    (λ n. returned_at b (map (λ m. m.delivered) records) n i) in
    omega (
      arith,
      parts,
      more,
      inflows_small b series i valid fits,
      returns_small b (map (λ m. m.delivered) records) i valid (deliveries_small b series records valid fits partial),
      stored_small b series records evaporated valid fits partial,
    )
