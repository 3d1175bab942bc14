-- The sums of a run are small.
use Rattle.std.proofs.Common.{◌≡◌, ℕ, ◌+◌, ◌*◌, ◌^◌, ◌<◌, ◌≤◌, ◌∙◌, ap, arith, List, []}
use Rattle.std.proofs.Common.{◌∷◌, ◌++◌, length, map, get_or, length-append}
use Rattle.std.specs.Prelude.{is_some, sum, sum_by, slice_index, nat_lt}
use Rattle.std.proofs.lemmas.List.Sums.{sum_by-le, sum_by_push, sum-map, count_by-le-length}
use Rattle.finite_sums.specs.Sums.{total}
use Rattle.finite_sums.proofs.Totals.{total_same}
use Rattle.duality.specs.Balance.{IsBalanced, total_inflow, diverted}
use Rattle.water_model.specs.History.{IsPartialHistory, Follows, calling_right}
use Rattle.water_model.specs.Hydrology.{returned_at}
use Rattle.water_model.specs.Indices.{indices_of}
use Rattle.water_model.specs.Valid.{IsValidBasin, IsSeriesOf}
use Rattle.water_model.specs.declared.types.Basin.{Basin}
use Rattle.water_model.specs.declared.types.Series.{Series}
use Rattle.water_model.specs.declared.types.MonthRecord.{MonthRecord}
use Rattle.duality.proofs.Balance.{balanced, month_balance}
use Rattle.water_model.proofs.Sets.{sum_total}
use Rattle.water_model.proofs.Order.{length-numbers_from}
use Rattle.water_model.proofs.Histories.{last_follows, opens_with_last}
use Rattle.water_model.proofs.Wants.{want_most}
use Rattle.month_terms.proofs.Amounts.{each_month, delivered_small, deliveries_small}
use Rattle.month_terms.proofs.Bounds.{inflows_small, returns_small}
use Rattle.reports.specs.Figures.{waters_of, wanted, called_in, called_count}
use Rattle.reports.specs.Tallies.{figures_of, HasRoom, HasRoomForMonth}
use Rattle.reports.specs.declared.figures.RightFigures.{RightFigures}
use Rattle.reports.specs.declared.waters.Waters.{Waters}
use Rattle.reports.proofs.Sums.{openings_small}

-- the figures of a right
pub wanted_small : (b : Basin) (series : Series) (records : List MonthRecord) (r : ℕ) → IsValidBasin b →
    IsSeriesOf b series →
    IsPartialHistory b series records → r < length b.rights → wanted records r ≤ length records * 10 ^ 9
wanted_small b series records r valid fits partial l =
    sum_by-le (λ m. slice_index m.want r) (10 ^ 9) records (each_month _ b series records partial most)
  where
    most : (before : List MonthRecord) (m : MonthRecord) → IsPartialHistory b series before →
        Follows b series before m → slice_index m.want r ≤ 10 ^ 9
    most before m prefix follows =
        rw (follows.after.want r l) (want_most b series r m.index (slice_index m.used r) valid fits l)

-- there is room for one month more
pub right_room : (b : Basin) (series : Series) (records : List MonthRecord) (m : MonthRecord) (r : ℕ)
    (f : RightFigures) → IsValidBasin b → IsSeriesOf b series →
    IsPartialHistory b series (records ++ m ∷ []) → r < length b.rights → f ≡ figures_of records r → HasRoom f m r
unfolding figures_of
right_room b series records m r f valid fits partial l is = record {
  short_months =
      omega (
        arith,
        months,
        ap (λ v. v.short_months) is,
        count_by-le-length (λ k. nat_lt (slice_index k.delivered r) (slice_index k.want r)) records,
        length-append records (m ∷ []),
      );
  wanted = omega (
    arith,
    months,
    ap (λ v. v.wanted) is,
    wanted_small b series (records ++ m ∷ []) r valid fits partial l,
    sum_by_push (λ k. slice_index k.want r) records m,
  );
  delivered =
      omega (
        arith,
        months,
        ap (λ v. v.delivered) is,
        delivered_small b series (records ++ m ∷ []) r valid fits partial,
        sum_by_push (λ k. slice_index k.delivered r) records m,
      );
}
  where
    months : length (records ++ m ∷ []) ≤ 1200
    months = omega (arith, partial.within, valid.run.months.1)

-- what comes in over the months
inflows_all_small : (b : Basin) (series : Series) (records : List MonthRecord) → IsValidBasin b → IsSeriesOf b series →
    IsPartialHistory b series records →
    sum_by (λ m. total_inflow b series m.index) records ≤ length records * (2 * 10 ^ 12)
inflows_all_small b series records valid fits partial =
    sum_by-le (λ m. total_inflow b series m.index) (2 * 10 ^ 12) records
    (λ k d l. inflows_small b series (get_or records k d).index valid fits)

returns_all_small : (b : Basin) (series : Series) (records : List MonthRecord) → IsValidBasin b → IsSeriesOf b series →
    IsPartialHistory b series records →
    sum_by (λ m. sum m.returned) records ≤ length records * (2 * 10 ^ 12)
returns_all_small b series records valid fits partial =
    sum_by-le (λ m. sum m.returned) (2 * 10 ^ 12) records (each_month _ b series records partial most)
  where
    most : (before : List MonthRecord) (m : MonthRecord) → IsPartialHistory b series before →
        Follows b series before m → sum m.returned ≤ 2 * 10 ^ 12
    most before m prefix follows =
        let whole : sum m.returned ≡ total (length b.nodes) (λ n. slice_index m.returned n) =
        sum_total m.returned ∙ ap (λ k. total k (λ n. slice_index m.returned n)) follows.after.fits.returned in
        let each =
        total_same (length b.nodes) (λ n. slice_index m.returned n)
        (λ n. returned_at b (map (λ k. k.delivered) before) n m.index) follows.after.returned in
        omega (
          arith,
          whole,
          each,
          returns_small b (map (λ k. k.delivered) before) m.index valid
              (deliveries_small b series before valid fits prefix),
        )

-- and so what is left and went out
pub record AreSmall (w : Waters) : Type 0 where
  pub inflows : w.inflows < 2 ^ 64
  pub returns : w.returns < 2 ^ 64
  pub closing : w.closing < 2 ^ 64
  pub evaporated : w.evaporated < 2 ^ 64
  pub diverted : w.diverted < 2 ^ 64
  pub out : w.out < 2 ^ 64

opening_small : (b : Basin) → IsValidBasin b → sum (map (λ v. v.opening) b.reservoirs) ≤ 32 * 10 ^ 12
opening_small b valid = omega (arith, sum-map (λ v. v.opening) b.reservoirs, openings_small b valid)

few_months : (b : Basin) (series : Series) (records : List MonthRecord) → IsValidBasin b →
    IsPartialHistory b series records → length records ≤ 1200
few_months b series records valid partial = omega (arith, partial.within, valid.run.months.1)

waters_small : (b : Basin) (series : Series) (records : List MonthRecord) → IsValidBasin b → IsSeriesOf b series →
    IsPartialHistory b series records →
    AreSmall (waters_of b series records)
unfolding waters_of
waters_small b series records valid fits partial = record {
  inflows = omega (arith, inflows, months);
  returns = omega (arith, returns, months);
  closing = omega (arith, sides, months, opening, inflows, returns);
  evaporated = omega (arith, sides, months, opening, inflows, returns);
  diverted = omega (arith, sides, months, opening, inflows, returns);
  out = omega (arith, sides, months, opening, inflows, returns);
}
  where
    sides : IsBalanced b series records
    sides = balanced b series records valid partial

    opening : sum (map (λ v. v.opening) b.reservoirs) ≤ 32 * 10 ^ 12
    opening = opening_small b valid

    inflows : sum_by (λ m. total_inflow b series m.index) records ≤ length records * (2 * 10 ^ 12)
    inflows = inflows_all_small b series records valid fits partial

    returns : sum_by (λ m. sum m.returned) records ≤ length records * (2 * 10 ^ 12)
    returns = returns_all_small b series records valid fits partial

    months : length records ≤ 1200
    months = few_months b series records valid partial

pub month_room : (b : Basin) (series : Series) (records : List MonthRecord) (m : MonthRecord) (w : Waters) →
    IsValidBasin b → IsSeriesOf b series →
    IsPartialHistory b series (records ++ m ∷ []) → w ≡ waters_of b series records → HasRoomForMonth b series w m
unfolding waters_of
month_room b series records m w valid fits partial is = record {
  inflows =
      omega (arith, all.inflows, ap (λ v. v.inflows) is, sum_by_push (λ k. total_inflow b series k.index) records m);
  returns = omega (arith, all.returns, ap (λ v. v.returns) is, sum_by_push (λ k. sum k.returned) records m);
  closing = omega (arith, all.closing, ap (λ xs. sum xs) (opens_with_last b records m));
  evaporated = omega (arith, all.evaporated, ap (λ v. v.evaporated) is, sum_by_push (λ k. sum k.evaporated) records m);
  to_diversions = omega (arith, all.diverted, ap (λ v. v.diverted) is, sum_by_push (λ k. diverted b k) records m);
  out = omega (arith, all.out, ap (λ v. v.out) is, sum_by_push (λ k. sum k.plan.out) records m);
  month =
      omega (
        arith,
        balanced b series (records ++ m ∷ []) valid partial,
        opening_small b valid,
        inflows_all_small b series (records ++ m ∷ []) valid fits partial,
        returns_all_small b series (records ++ m ∷ []) valid fits partial,
        few_months b series (records ++ m ∷ []) valid partial,
        ap (λ xs. sum xs) (opens_with_last b records m),
        sum_by_push (λ k. sum k.evaporated) records m,
        sum_by_push (λ k. diverted b k) records m,
        sum_by_push (λ k. sum k.plan.out) records m,
      );
  balance = month_balance b series records m valid (last_follows b series records m partial);
}
  where
    all : AreSmall (waters_of b series (records ++ m ∷ []))
    all = waters_small b series (records ++ m ∷ []) valid fits partial

-- how many right-months had a calling right
called_in_bounded : (b : Basin) (m : MonthRecord) → called_in b m ≤ length b.rights
called_in_bounded b m =
    omega (
      arith,
      count_by-le-length (λ right. is_some (calling_right b m right)) (indices_of b.rights),
      length-numbers_from 0 (length b.rights),
    )

pub called_room : (b : Basin) (records : List MonthRecord) (m : MonthRecord) → IsValidBasin b →
    length records ≤ b.months → called_count b records + called_in b m < 2 ^ 64
called_room b records m valid within =
    let most : called_count b records ≤ length records * 2000 =
    sum_by-le (λ k. called_in b k) 2000 records
    (λ k d l. omega (arith, called_in_bounded b (get_or records k d), valid.bounded.rights)) in
    omega (arith, most, within, called_in_bounded b m, valid.bounded.rights, valid.run.months.1)
