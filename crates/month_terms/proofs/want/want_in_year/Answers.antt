use Rattle.std.proofs.Common.{◌∙◌, ℕ, sym, ap}
use Rattle.std.specs.Prelude.{min, None, unwrap_or, option_map}
use Rattle.water_text.specs.declared.month.Month.{Month}
use Rattle.water_model.specs.Basin.{link_of_kind}
use Rattle.water_model.specs.Hydrology.{cap_by_link, run_month}
use Rattle.water_model.specs.Plans.{carry_of}
use Rattle.water_model.specs.declared.types.Right.{Right}
use Rattle.water_model.specs.declared.types.RightKind.{RightKind}
use Rattle.month_terms.specs.Calendars.{monthly_want}
use Rattle.month_terms.proofs.Calendars.{instream_within, want_stands}
use Rattle.month_terms.proofs.want.want_in_year.Goals as goal

pub carry_of-requires : goal.carry_of-requires
carry_of-requires c = record {
  basin = c.requires.basin;
  month = c.requires.valid;
  link = (instream_within c.args.basin.now c.args.right c.in-Instream.link c.requires.basin
      (ap (λ o. unwrap_or (option_map (λ (x : Right). link_of_kind x.kind) o) None) c.index-entry.ensures
      ∙ ap link_of_kind c.in-Instream.is)).1;
}

pub returns-in-Instream : goal.returns-in-Instream
returns-in-Instream c =
    let b = c.args.basin.now in
    let number = monthly_want c.index-entry.result.now.want c.args.position in
    want_stands b c.args.series.now c.args.right c.args.index c.args.position c.args.used c.min.result
    c.index-entry.result.now c.index-entry.ensures (sym c.is_series.ensures ∙ c.if-is_series.false) (sym c.is_some.ensures ∙ c.if-is_some.false)
    c.requires.position
    (c.min.ensures ∙ ap (λ (n : ℕ). min n c.carry_of.result) c.monthly_want-number.ensures
    ∙ (ap (λ (n : ℕ). min number n) (c.carry_of.ensures
    ∙ ap (λ (m : Month). carry_of b m c.in-Instream.link) c.requires.month)
    ∙ sym (ap (λ (k : RightKind). cap_by_link b (run_month b c.args.index) (link_of_kind k) number) c.in-Instream.is)))

pub returns-in-Diversion : goal.returns-in-Diversion
returns-in-Diversion c =
    let b = c.args.basin.now in
    let number = monthly_want c.index-entry.result.now.want c.args.position in
    want_stands b c.args.series.now c.args.right c.args.index c.args.position c.args.used c.monthly_want-number.result
    c.index-entry.result.now c.index-entry.ensures (sym c.is_series.ensures ∙ c.if-is_series.false) (sym c.is_some.ensures ∙ c.if-is_some.false)
    c.requires.position
    (c.monthly_want-number.ensures
    ∙ sym (ap (λ (k : RightKind). cap_by_link b (run_month b c.args.index) (link_of_kind k) number) c.in-Diversion.is))

pub returns-in-Zone : goal.returns-in-Zone
returns-in-Zone c =
    let b = c.args.basin.now in
    let number = monthly_want c.index-entry.result.now.want c.args.position in
    want_stands b c.args.series.now c.args.right c.args.index c.args.position c.args.used c.monthly_want-number.result
    c.index-entry.result.now c.index-entry.ensures (sym c.is_series.ensures ∙ c.if-is_series.false) (sym c.is_some.ensures ∙ c.if-is_some.false)
    c.requires.position
    (c.monthly_want-number.ensures
    ∙ sym (ap (λ (k : RightKind). cap_by_link b (run_month b c.args.index) (link_of_kind k) number) c.in-Zone.is))
