use Rattle.std.proofs.Common.{◌≡◌, ◌+◌, ◌∙◌, sym, ap, length, true, false}
use Rattle.std.specs.Prelude.{slice_index}
use Rattle.water_model.specs.Hydrology.{begins_year}
use Rattle.month_terms.proofs.WaterYears.{used_more, used_anew}
use Rattle.water_model.proofs.Lists.{no_numbers}
use Rattle.month_terms.proofs.used.use_month.Goals as goal

pub returns-then-begins_year-clause-each : goal.returns-then-begins_year-clause-each
returns-then-begins_year-clause-each c = λ deliveries count has.
    let begins : begins_year c.args.basin.now (length deliveries + 1) ≡ true =
    ap (λ n. begins_year c.args.basin.now (n + 1)) count ∙ (sym c.begins_year.ensures ∙ c.if-begins_year.true) in
    used_anew c.args.basin.now deliveries c.args.delivered.now c.fill.new.self c.requires.basin begins
    (c.fill.ensures.len ∙ c.requires.used)
    (λ r. ap (λ xs. slice_index xs r) (c.fill.ensures.after (λ y h. h)) ∙ no_numbers _ r)

pub returns-else-begins_year-clause-each : goal.returns-else-begins_year-clause-each
returns-else-begins_year-clause-each c = λ deliveries count has.
    let goes_on : begins_year c.args.basin.now (length deliveries + 1) ≡ false =
    ap (λ n. begins_year c.args.basin.now (n + 1)) count ∙ (sym c.begins_year.ensures ∙ c.if-begins_year.false) in
    used_more c.args.basin.now deliveries c.args.delivered.now c.args.used.now c.add_deliveries.new.used
    c.requires.basin has goes_on
    (c.add_deliveries.ensures.length ∙ c.requires.used) c.add_deliveries.ensures.each
