-- The amounts of a history are those of a text.
use Rattle.std.proofs.Common.{◌≡◌, ℕ, zero, suc, ◌+◌, ◌-◌, ◌*◌, ◌^◌, ◌<◌, ◌≤◌, refl, sym, ap, subst, ◌∙◌, arith, List}
use Rattle.std.proofs.Common.{[], ◌∷◌, length, map, take}
use Rattle.std.specs.Prelude.{Option, Some, None, option_map, unwrap_or, slice_get, slice_index}
use Rattle.std.proofs.lemmas.List.Elements.{All-from_get_or}
use Rattle.std.proofs.lemmas.Option.{get_or_from_slice_get}
use Rattle.finite_sums.specs.Sums.{total}
use Rattle.finite_sums.proofs.Totals.{term_le_total, total_same, total_where_most}
use Rattle.water_model.proofs.Carries.{carry_most}
use Rattle.water_model.proofs.Wants.{want_most}
use Rattle.month_terms.proofs.Amounts.{follows_small, deliveries_small, supply_small}
use Rattle.month_terms.proofs.Bounds.{returns_small}
use Rattle.month_terms.proofs.WaterYears.{used_most}
use Rattle.water_model.proofs.Histories.{IsMonth-run_month}
use Rattle.water_text.specs.Months.{IsMonth}
use Rattle.water_model.specs.History.{IsPartialHistory, Follows, opening_after, is_zone_of}
use Rattle.water_model.specs.Hydrology.{inflow_at, returned_at, stored_at, evaporation, in_year}
use Rattle.water_model.specs.Valid.{IsValidBasin, IsValidReservoir, IsSeriesOf}
use Rattle.result_lines.specs.Quantities.{amounts_of}
use Rattle.result_lines.specs.declared.quantity.Quantity.{Quantity}
use Rattle.result_lines.specs.declared.quantity.Quantity.TheVariants as quantity
use Rattle.water_model.specs.declared.types.Basin.{Basin}
use Rattle.water_model.specs.declared.types.Series.{Series}
use Rattle.water_model.specs.declared.types.MonthRecord.{MonthRecord}
use Rattle.water_model.specs.declared.types.Reservoir as reservoir
use Rattle.duality.proofs.Balance.{plan_balance}
use Rattle.water_model.proofs.Valid.{entry_holds, entry_at}
use Rattle.water_model.proofs.Lists.{prefix_partial}
use Rattle.result_reader.specs.Records.{AreTextAmounts, HasTextAmounts, AreTextMonths}
use Rattle.result_reader.proofs.Histories.{IsTextMonth-Follows}

all_small : (xs : List ℕ) {n : ℕ} → length xs ≡ n → ((k : ℕ) → k < n → slice_index xs k ≤ 10 ^ 15) → AreTextAmounts xs
all_small xs len h = All-from_get_or (λ x. x ≤ 10 ^ 15) xs 0 (λ k l. h k (omega arith))

-- Reservoirs.

closing_small : {b : Basin} {series : Series} {before : List MonthRecord} {m : MonthRecord} → IsValidBasin b →
    IsSeriesOf b series → Follows b series before m → (v : ℕ) → v < length b.reservoirs →
    slice_index m.closing v ≤ 10 ^ 15
closing_small {b} {series} {before} {m} valid fits f v l =
    omega (
      arith,
      f.closing v l,
      valid.bounded.rights,
      total_where_most (length b.rights) (10 ^ 9) (λ r. is_zone_of b r v)
          (λ r. slice_index m.plan.take r) (follows_small b series before m valid fits f).takes,
    )

opening_small : {b : Basin} {series : Series} {before : List MonthRecord} → IsValidBasin b → IsSeriesOf b series →
    IsPartialHistory b series before → {v : ℕ} → v < length b.reservoirs →
    slice_index (opening_after b before) v ≤ 10 ^ 15
opening_small {b} {series} {before} valid fits partial {v} l = by_last (slice_get before (length before - 1)) refl
  where
    opens : Option MonthRecord → List ℕ
    opens o = unwrap_or (option_map (λ m. m.closing) o) (map (λ v. v.opening) b.reservoirs)

    first : slice_index (map (λ v. v.opening) b.reservoirs) v ≤ 10 ^ 15
    first =
        let entry = entry_holds (λ x. IsValidReservoir b x) b.reservoirs v valid.reservoirs l in
        let at : slice_get (map (λ v. v.opening) b.reservoirs) v ≡ Some entry.0.opening =
        mapped b.reservoirs v ∙ ap (λ o. option_map (λ v. v.opening) o) entry.1 in
        rw (get_or_from_slice_get (map (λ v. v.opening) b.reservoirs) v entry.0.opening 0 at)
        (omega (arith, entry.2.opening))
      where
        mapped : (xs : List reservoir.Reservoir) (k : ℕ) →
            slice_get (map (λ v. v.opening) xs) k ≡ option_map (λ v. v.opening) (slice_get xs k)
        mapped [] k = refl
        mapped (x ∷ xs) zero = refl
        mapped (x ∷ xs) (suc k) = mapped xs k

    by_last : (o : Option MonthRecord) → slice_get before (length before - 1) ≡ o →
        slice_index (opening_after b before) v ≤ 10 ^ 15
    by_last None e = rw (ap opens e) first
    by_last (Some m) e = rw (ap opens e) (closing_small valid fits (partial.each (length before - 1) m e) v l)

-- what a month supplies is small

whole_supply : {b : Basin} {series : Series} {before : List MonthRecord} {m : MonthRecord} → IsValidBasin b →
    IsSeriesOf b series → IsPartialHistory b series before →
    Follows b series before m → total (length b.nodes) (λ n. slice_index m.supply n) ≤ 36 * 10 ^ 12
whole_supply {b} {series} {before} {m} valid fits partial f =
    let small = supply_small b series before m.evaporated m.index valid fits partial in
    let same = total_same (length b.nodes) (λ n. slice_index m.supply n)
    (λ n. inflow_at b series n m.index + returned_at b (map (λ k. k.delivered) before) n m.index + stored_at b
    (opening_after b before) m.evaporated n)
    (λ n l. f.after.supply n l ∙ rw (f.after.returned n l, f.opening) refl) in
    omega (arith, small, same)

pub history_amounts : {b : Basin} {series : Series} {before : List MonthRecord} {m : MonthRecord} → IsValidBasin b →
    IsSeriesOf b series → IsPartialHistory b series before →
    length before < b.months → Follows b series before m → HasTextAmounts m
history_amounts {b} {series} {before} {m} valid fits partial left f = record {
  listed = listed;
  delivered = all_small m.delivered f.after.fits.delivered
      (λ r l. omega (arith, (follows_small b series before m valid fits f).delivered r));
  want = all_small m.want f.after.fits.want (λ r l. omega (arith, wanted r l));
}
  where
    month : IsMonth m.month
    month = subst IsMonth (sym f.after.month) (IsMonth-run_month b m.index valid.run (omega (arith, f.after.index)))

    opening : (v : ℕ) → v < length b.reservoirs → slice_index m.opening v ≤ 10 ^ 15
    opening v l = rw (f.opening) (opening_small valid fits partial l)

    evaporated : (v : ℕ) → v < length b.reservoirs → slice_index m.evaporated v ≤ 10 ^ 15
    evaporated v l =
        let entry = entry_at b.reservoirs v l in
        let is : slice_index m.evaporated v ≡ evaporation entry.0.area (slice_index m.opening v)
        (slice_index entry.0.rate (in_year b m.index)) = f.after.evaporated v l ∙ ap (λ o. unwrap_or (option_map
        (λ (r : reservoir.Reservoir). evaporation r.area (slice_index m.opening v)
        (slice_index r.rate (in_year b m.index))) o) 0) entry.1 in
        omega (arith, is, opening v l)

    wanted : (r : ℕ) → r < length b.rights → slice_index m.want r ≤ 10 ^ 9
    wanted r l = rw (f.after.want r l) (want_most b series r m.index (slice_index m.used r) valid fits l)

    listed : (q : Quantity) → AreTextAmounts (amounts_of q m)
    listed quantity.Opening = all_small m.opening f.after.fits.opening opening
    listed quantity.Evaporated = all_small m.evaporated f.after.fits.evaporated evaporated
    listed quantity.Returned = all_small m.returned f.after.fits.returned (λ n l. omega (
      arith,
      f.after.returned n l,
      term_le_total (length b.nodes) (λ n. returned_at b (map (λ k. k.delivered) before) n m.index) n l,
      returns_small b (map (λ k. k.delivered) before) m.index valid
          (deliveries_small b series before valid fits partial),
    ))
    listed quantity.Used = all_small m.used f.after.fits.used
        (λ r l. omega (
          arith,
          f.after.used r l,
          used_most b (map (λ k. k.delivered) before) r m.index (10 ^ 9)
              (deliveries_small b series before valid fits partial r),
          f.after.index,
          valid.run.months.1,
        ))
    listed quantity.Flow = all_small m.plan.flow f.after.plan.flow_len
        (λ e l. omega (arith, f.after.plan.carries e l, carry_most b m.month e valid month l))
    listed quantity.Outflow = all_small m.plan.out f.after.plan.out_len (λ n l. omega (
      arith,
      term_le_total (length b.nodes) (λ n. slice_index m.plan.out n) n l,
      plan_balance b m.month m.supply m.want m.plan valid f.after.plan,
      whole_supply valid fits partial f,
    ))
    listed quantity.Closing = all_small m.closing f.after.fits.closing (closing_small valid fits f)

-- the records of a history are such as a text gives
pub history_texts : {b : Basin} {series : Series} {records : List MonthRecord} → IsValidBasin b → IsSeriesOf b series →
    IsPartialHistory b series records → AreTextMonths b series records
history_texts {b} {series} {records} valid fits h = record {
  within = h.within;
  each = λ i m e. (let f = h.each i m e in
      IsTextMonth-Follows b series (take i records) m f
      (history_amounts valid fits (prefix_partial b series records i h) (left i m e) f));
}
  where
    shorter : {X : Type 0} (xs : List X) (i : ℕ) (x : X) → slice_get xs i ≡ Some x → length (take i xs) < length xs
    shorter [] i x e = cc
    shorter (y ∷ ys) zero x e = omega arith
    shorter (y ∷ ys) (suc i) x e = omega (arith, shorter ys i x e)

    left : (i : ℕ) (m : MonthRecord) → slice_get records i ≡ Some m → length (take i records) < b.months
    left i m e = omega (arith, shorter records i m e, h.within)
