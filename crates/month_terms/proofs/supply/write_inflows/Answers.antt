use Rattle.std.proofs.Common.{◌∙◌, ◌+◌, ◌-◌, ℕ, List, sym, ap, arith, subst, length, ◌<◌}
use Rattle.std.specs.Prelude.{slice_index}
use Rattle.std.proofs.lemmas.List.{length-map}
use Rattle.water_text.specs.declared.month.Month.{Month}
use Rattle.water_model.specs.declared.types.Node.{Node}
use Rattle.month_terms.specs.Calendars.{monthly_inflow}
use Rattle.month_terms.proofs.Calendars.{inflow_within, inflow_is}
use Rattle.month_terms.proofs.supply.write_inflows.Goals as goal

pub write_sums-requires : goal.write_sums-requires
write_sums-requires c =
    let b = c.args.basin.now in
    let p = c.month_at.result.month - 1 in
    let month = c.index-month.result.now in
    let is = c.requires.calendar.months.each p month c.index-month.ensures in
    record {
      first = ap length c.as_slice.ensures ∙ (ap length is.inflows
          ∙ (length-map b.nodes (λ (n : Node). monthly_inflow n.inflow p) ∙ sym c.requires.supply));
      second = c.requires.returned ∙ sym c.requires.supply;
      small = λ n l.
          let inside = subst (λ (k : ℕ). n < k) c.requires.supply l in
          omega (
            arith,
            ap (λ (xs : List ℕ). slice_index xs n) c.as_slice.ensures,
            inflow_within b c.args.series.now n c.args.index p month is
                (ap (λ (m : Month). m.month - 1) c.month_at.ensures.month) inside,
            c.requires.small n inside,
          );
    }

pub write_gauged-requires : goal.write_gauged-requires
write_gauged-requires c =
    let b = c.args.basin.now in
    let p = c.month_at.result.month - 1 in
    let month = c.index-month.result.now in
    let is = c.requires.calendar.months.each p month c.index-month.ensures in
    record {
      basin = c.requires.basin;
      series = c.requires.series;
      index = c.requires.index;
      returned = c.requires.returned;
      supply = c.write_sums.ensures.length ∙ c.requires.supply;
      small = c.requires.small;
      others = λ n l no_gauge. c.write_sums.ensures.each n (subst (λ (k : ℕ). n < k) (sym c.requires.supply) l)
          ∙ ap (λ (x : ℕ). x + slice_index c.args.returned.now n)
          (ap (λ (xs : List ℕ). slice_index xs n) c.as_slice.ensures
          ∙ inflow_is b c.args.series.now n c.args.index p month is
          (ap (λ (m : Month). m.month - 1) c.month_at.ensures.month) l no_gauge);
    }

pub returns : goal.returns
returns c = record {
  length = c.write_gauged.ensures.length ∙ c.write_sums.ensures.length;
  each = c.write_gauged.ensures.each;
}
