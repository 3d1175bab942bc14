use Rattle.std.proofs.Common.{◌≡◌, ◌∙◌, ◌+◌, ◌-◌, ℕ, List, refl, sym, ap, ap₂, arith, length}
use Rattle.std.specs.Prelude.{slice_index}
use Rattle.water_text.specs.declared.month.Month.{Month}
use Rattle.water_model.specs.Hydrology.{evaporation, in_year, inflow_at, stored_at, want_of}
use Rattle.water_model.specs.Lookups.{of_entry}
use Rattle.water_model.specs.declared.types.Reservoir.{Reservoir}
use Rattle.water_model.proofs.Lists.{whole_rows}
use Rattle.month_terms.proofs.month.settle.Goals as goal

pub copy_from_slice-requires : goal.copy_from_slice-requires
copy_from_slice-requires c =
    ap length c.as_mut_slice.ensures.value ∙ (c.requires.month.fits.opening
    ∙ sym (ap length c.as_slice.ensures ∙ c.requires.month.fits.closing))

pub evaporate-requires : goal.evaporate-requires
evaporate-requires c =
    let opening_len = c.copy_from_slice.ensures.len ∙ ap length c.as_mut_slice.ensures.value in
    record {
      basin = c.requires.basin;
      tables = c.requires.tables;
      month = c.month_at-date.ensures.valid;
      opening = ap length (c.as_slice-2.ensures ∙ whole_rows c.args.month.now.opening _ opening_len)
          ∙ (opening_len ∙ c.requires.month.fits.opening);
      evaporated = ap length c.as_mut_slice-2.ensures.value ∙ c.requires.month.fits.evaporated;
    }

pub write_inflows-requires : goal.write_inflows-requires
write_inflows-requires c = record {
  calendar = c.requires.calendar;
  basin = c.requires.basin;
  series = c.requires.series;
  index = c.requires.index;
  returned = ap length c.as_slice-3.ensures ∙ c.requires.month.fits.returned;
  supply = ap length c.as_mut_slice-3.ensures.value ∙ c.requires.month.fits.supply;
  small = λ n l.
      omega (
        arith,
        c.requires.small c.args.month.now.closing n l,
        ap (λ (xs : List ℕ). slice_index xs n) c.as_slice-3.ensures,
      );
}

pub add_stored-requires-clause-opening : goal.add_stored-requires-clause-opening
add_stored-requires-clause-opening c =
    let opening_len = c.copy_from_slice.ensures.len ∙ ap length c.as_mut_slice.ensures.value in
    ap length (c.as_slice-4.ensures ∙ whole_rows c.args.month.now.opening _ opening_len)
    ∙ (opening_len ∙ c.requires.month.fits.opening)

pub add_stored-requires-clause-evaporated : goal.add_stored-requires-clause-evaporated
add_stored-requires-clause-evaporated c =
    let evaporated_len = c.evaporate.auto.evaporated ∙ ap length c.as_mut_slice-2.ensures.value in
    ap length (c.as_slice-5.ensures ∙ whole_rows c.args.month.now.evaporated _ evaporated_len)
    ∙ (evaporated_len ∙ c.requires.month.fits.evaporated)

pub add_stored-requires-clause-supply : goal.add_stored-requires-clause-supply
add_stored-requires-clause-supply c =
    let supply_len = c.write_inflows.ensures.length ∙ ap length c.as_mut_slice-3.ensures.value in
    ap length (c.as_mut_slice-4.ensures.value ∙ whole_rows c.args.month.now.supply _ supply_len)
    ∙ (supply_len ∙ c.requires.month.fits.supply)

pub add_stored-requires-clause-small : goal.add_stored-requires-clause-small
add_stored-requires-clause-small c = λ n l.
    let b = c.args.basin.now in
    let supply_len = c.write_inflows.ensures.length ∙ ap length c.as_mut_slice-3.ensures.value in
    let opening_len = c.copy_from_slice.ensures.len ∙ ap length c.as_mut_slice.ensures.value in
    let before : slice_index c.as_mut_slice-4.result.now n
    ≡ inflow_at b c.args.series.now n c.args.index + slice_index c.args.month.now.returned n =
    ap (λ (xs : List ℕ). slice_index xs n) (c.as_mut_slice-4.ensures.value
    ∙ whole_rows c.args.month.now.supply _ supply_len)
    ∙ (c.write_inflows.ensures.each n l
    ∙ ap (λ (xs : List ℕ). inflow_at b c.args.series.now n c.args.index + slice_index xs n) c.as_slice-3.ensures) in
    let stored : stored_at b c.as_slice-4.result.now c.as_slice-5.result.now n
    ≡ stored_at b c.args.month.now.closing c.as_slice-5.result.now n =
    ap (λ (xs : List ℕ). stored_at b xs c.as_slice-5.result.now n) (c.as_slice-4.ensures
    ∙ (whole_rows c.args.month.now.opening _ opening_len ∙ (c.copy_from_slice.ensures.after ∙ c.as_slice.ensures))) in
    omega (arith, before, stored, c.requires.small c.as_slice-5.result.now n l)

pub write_wants-requires : goal.write_wants-requires
write_wants-requires c = record {
  calendar = c.requires.calendar;
  basin = c.requires.basin;
  series = c.requires.series;
  index = c.requires.index;
  used = ap length c.as_slice-6.ensures ∙ c.requires.month.fits.used;
  want = ap length c.as_mut_slice-5.ensures.value ∙ c.requires.month.fits.want;
}

pub returns : goal.returns
returns c =
    let b = c.args.basin.now in
    let index = c.args.index in
    let old = c.args.month.now in
    let opening_len = c.copy_from_slice.ensures.len ∙ ap length c.as_mut_slice.ensures.value in
    let evaporated_len = c.evaporate.auto.evaporated ∙ ap length c.as_mut_slice-2.ensures.value in
    let evaporated_is = whole_rows old.evaporated _ evaporated_len in
    let inflows_len = c.write_inflows.ensures.length ∙ ap length c.as_mut_slice-3.ensures.value in
    let inflows_are = c.as_mut_slice-4.ensures.value ∙ whole_rows old.supply _ inflows_len in
    let supply_len = c.add_stored.ensures.length ∙ ap length c.as_mut_slice-4.ensures.value in
    let supply_is = whole_rows _ c.add_stored.new.supply supply_len in
    let want_len = c.write_wants.ensures.length ∙ ap length c.as_mut_slice-5.ensures.value in
    let want_is = whole_rows old.want _ want_len in
    record {
      index_is = refl;
      month = c.month_at-date.ensures.month;
      calendar = c.month_at-date.ensures.valid;
      opening = whole_rows old.opening _ opening_len ∙ (c.copy_from_slice.ensures.after ∙ c.as_slice.ensures);
      evaporated = record {
        count = ap length evaporated_is ∙ (evaporated_len ∙ c.requires.month.fits.evaporated);
        each = λ v l. ap (λ (xs : List ℕ). slice_index xs v) evaporated_is
            ∙ (c.evaporate.ensures.each v l
            ∙ (ap (λ (m : Month). of_entry b.reservoirs v (λ (r : Reservoir).
            evaporation r.area (slice_index c.as_slice-2.result.now v) (slice_index r.rate (m.month - 1))) 0)
            c.month_at-date.ensures.month
            ∙ ap (λ (xs : List ℕ). of_entry b.reservoirs v (λ (r : Reservoir).
            evaporation r.area (slice_index xs v) (slice_index r.rate (in_year b index))) 0) c.as_slice-2.ensures));
      };
      supply = record {
        count = ap length supply_is ∙ (supply_len
            ∙ (ap length (whole_rows old.supply _ inflows_len) ∙ (inflows_len ∙ c.requires.month.fits.supply)));
        each = λ n l. ap (λ (xs : List ℕ). slice_index xs n) supply_is
            ∙ (c.add_stored.ensures.each n l
            ∙ ap₂ (λ (x y : ℕ). x + y)
            (ap (λ (xs : List ℕ). slice_index xs n) inflows_are
            ∙ (c.write_inflows.ensures.each n l
            ∙ ap (λ (xs : List ℕ). inflow_at b c.args.series.now n index + slice_index xs n) c.as_slice-3.ensures))
            (ap₂ (λ (xs ys : List ℕ). stored_at b xs ys n) c.as_slice-4.ensures c.as_slice-5.ensures));
      };
      want = record {
        count = ap length want_is ∙ (want_len ∙ c.requires.month.fits.want);
        each = λ r l. ap (λ (xs : List ℕ). slice_index xs r) want_is
            ∙ (c.write_wants.ensures.each r l
            ∙ ap (λ (xs : List ℕ). want_of b c.args.series.now r index (slice_index xs r)) c.as_slice-6.ensures);
      };
      rest = refl;
    }
