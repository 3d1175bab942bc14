use Rattle.std.proofs.Common.{subst}
use Rattle.cert_check.specs.Standing.{IsAnswer}
use Rattle.cert_check.specs.Whole.{text_verdict}
use Rattle.basin_cli.specs.Bytes.{AreSpelled}
use Rattle.basin_cli.proofs.FoundBytes.{accepted_found, faultless, refuted_found}
use Rattle.basin_cli.proofs.found.check_result.Goals as goal

pub returns-in-Ok-Ok : goal.returns-in-Ok-Ok
returns-in-Ok-Ok c =
    let spelled : AreSpelled c.args.basin.now c.args.series.now c.in-Ok.basin c.in-Ok-accept_series.series = record {
      basin_spelled = c.in-Ok.ensures.spelled;
      series_spelled = c.in-Ok-accept_series.ensures.spelled;
      valid = c.in-Ok.ensures.valid;
      fits = c.in-Ok-accept_series.ensures.fits;
    } in
    accepted_found c.args.basin.now c.args.series.now c.args.text.now c.in-Ok.basin c.in-Ok-accept_series.series
    c.in-Ok-Ok.field-0-0
    (faultless c.args.basin.now c.args.series.now c.in-Ok.basin c.in-Ok-accept_series.series c.in-Ok.ensures.sound
    spelled
    c.in-Ok-accept_series.ensures.sound)
    spelled
    (subst (λ answer. IsAnswer c.in-Ok.basin answer
    (text_verdict c.in-Ok.basin c.in-Ok-accept_series.series c.args.text.now))
    c.in-Ok-Ok.field-0-is c.in-Ok-Ok.ensures)

pub returns-in-Ok-Err : goal.returns-in-Ok-Err
returns-in-Ok-Err c =
    let spelled : AreSpelled c.args.basin.now c.args.series.now c.in-Ok.basin c.in-Ok-accept_series.series = record {
      basin_spelled = c.in-Ok.ensures.spelled;
      series_spelled = c.in-Ok-accept_series.ensures.spelled;
      valid = c.in-Ok.ensures.valid;
      fits = c.in-Ok-accept_series.ensures.fits;
    } in
    refuted_found c.args.basin.now c.args.series.now c.args.text.now c.in-Ok.basin c.in-Ok-accept_series.series
    c.in-Ok-Err.field-0-0
    (faultless c.args.basin.now c.args.series.now c.in-Ok.basin c.in-Ok-accept_series.series c.in-Ok.ensures.sound
    spelled
    c.in-Ok-accept_series.ensures.sound)
    spelled
    (subst (λ answer. IsAnswer c.in-Ok.basin answer
    (text_verdict c.in-Ok.basin c.in-Ok-accept_series.series c.args.text.now))
    c.in-Ok-Err.field-0-is c.in-Ok-Err.ensures)
