use Rattle.std.proofs.Common.{subst}
use Rattle.inflow_file.specs.SeriesFaults.{IsSeriesRefusal}
use Rattle.basin_cli.proofs.Missing.{refusal_nameable}
use Rattle.basin_cli.proofs.files.accept_series.Goals as goal

pub missing_inflow-requires-clause-month : goal.missing_inflow-requires-clause-month
missing_inflow-requires-clause-month c =
    (refusal_nameable c.args.basin.now c.args.text.now _ c.requires.basin
    (subst (λ e. IsSeriesRefusal e c.args.basin.now c.args.text.now) c.in-Err-Missing.field-0-is
    c.in-Err-Missing.ensures.refused)).0

pub missing_inflow-requires-clause-node : goal.missing_inflow-requires-clause-node
missing_inflow-requires-clause-node c =
    (refusal_nameable c.args.basin.now c.args.text.now _ c.requires.basin
    (subst (λ e. IsSeriesRefusal e c.args.basin.now c.args.text.now) c.in-Err-Missing.field-0-is
    c.in-Err-Missing.ensures.refused)).1

pub missing_want-requires-clause-month : goal.missing_want-requires-clause-month
missing_want-requires-clause-month c =
    (refusal_nameable c.args.basin.now c.args.text.now _ c.requires.basin
    (subst (λ e. IsSeriesRefusal e c.args.basin.now c.args.text.now) c.in-Err-MissingWant.field-0-is
    c.in-Err-MissingWant.ensures.refused)).0

pub missing_want-requires-clause-right : goal.missing_want-requires-clause-right
missing_want-requires-clause-right c =
    (refusal_nameable c.args.basin.now c.args.text.now _ c.requires.basin
    (subst (λ e. IsSeriesRefusal e c.args.basin.now c.args.text.now) c.in-Err-MissingWant.field-0-is
    c.in-Err-MissingWant.ensures.refused)).1
