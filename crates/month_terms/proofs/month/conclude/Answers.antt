use Rattle.std.proofs.Common.{◌∙◌, ℕ, List, refl, ap, arith, length}
use Rattle.std.specs.Prelude.{slice_index}
use Rattle.finite_sums.specs.Sums.{total_where}
use Rattle.water_model.specs.History.{is_zone_of}
use Rattle.water_model.specs.Plans.{delivery}
use Rattle.water_model.proofs.Lists.{whole_rows}
use Rattle.month_terms.proofs.month.conclude.Goals as goal

pub write_deliveries-requires : goal.write_deliveries-requires
write_deliveries-requires c = record {
  calendar = c.requires.calendar;
  basin = c.requires.basin;
  want = ap length c.as_slice.ensures ∙ c.requires.month.fits.want;
  flow = c.requires.month.flow;
  take = c.requires.month.take;
  delivered = ap length c.as_mut_slice.ensures.value ∙ c.requires.month.fits.delivered;
}

pub close_zones-requires : goal.close_zones-requires
close_zones-requires c = record {
  basin = c.requires.basin;
  take = ap length c.as_slice-2.ensures ∙ c.requires.month.take;
  small = λ r l. omega (arith, ap (λ (xs : List ℕ). slice_index xs r) c.as_slice-2.ensures, c.requires.small r l);
  closing = ap length c.as_mut_slice-2.ensures.value ∙ c.requires.month.fits.closing;
}

pub returns : goal.returns
returns c =
    let b = c.args.basin.now in
    let old = c.args.month.now in
    let delivered_len = c.write_deliveries.ensures.length ∙ ap length c.as_mut_slice.ensures.value in
    let delivered_is = whole_rows old.delivered _ delivered_len in
    let closing_len = c.close_zones.ensures.length ∙ ap length c.as_mut_slice-2.ensures.value in
    let closing_is = whole_rows old.closing _ closing_len in
    record {
      delivered_count = ap length delivered_is ∙ (delivered_len ∙ c.requires.month.fits.delivered);
      delivered = λ r l. ap (λ (xs : List ℕ). slice_index xs r) delivered_is
          ∙ (c.write_deliveries.ensures.each r l
          ∙ ap (λ (xs : List ℕ). delivery b xs old.plan r) c.as_slice.ensures);
      closing_count = ap length closing_is ∙ (closing_len ∙ c.requires.month.fits.closing);
      closing = λ v l. ap (λ (xs : List ℕ). slice_index xs v) closing_is
          ∙ (c.close_zones.ensures.each v l
          ∙ ap (λ (xs : List ℕ). total_where (length b.rights) (λ r. is_zone_of b r v) (λ r. slice_index xs r))
          c.as_slice-2.ensures);
      rest = refl;
    }
