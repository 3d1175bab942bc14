use Rattle.std.proofs.lemmas.Result.{err_from_is_err_and}
use Rattle.basin_cli.specs.Command.{named}
use Rattle.basin_cli.specs.Failed.{inputs_to}
use Rattle.basin_cli.specs.declared.ending.File.TheVariants as file
use Rattle.basin_cli.proofs.Failing.{asks_one, asks_then, stops_at}
use Rattle.basin_cli.proofs.files.read_inputs.Goals as goal

pub returns-in_err-basin-clause-up_to : goal.returns-in_err-basin-clause-up_to
returns-in_err-basin-clause-up_to g c =
    let p = err_from_is_err_and c.from_residual.result c.from_residual.ensures.1 in
    rw (p.1, p.2)
    (stops_at (inputs_to (named c.args.inputs)) _ _ file.Basin c.in_err-basin.field-0.0 c.in_err-basin.ensures.at
    (asks_one _ _ _ c.read_basin_file.ensures.asked))

pub returns-in_err-series-clause-up_to : goal.returns-in_err-series-clause-up_to
returns-in_err-series-clause-up_to g c =
    let p = err_from_is_err_and c.from_residual-in_err-series.result c.from_residual-in_err-series.ensures.1 in
    rw (p.1, p.2)
    (stops_at (inputs_to (named c.args.inputs)) _ _ file.Series c.in_err-series.field-0.0 c.in_err-series.ensures.at
    (asks_then _ _ _ _ _ (asks_one _ _ _ c.read_basin_file.ensures.asked) c.read_series.ensures.reads))

pub returns-clause-reads : goal.returns-clause-reads
returns-clause-reads g c =
    asks_then _ _ _ _ _ (asks_one _ _ _ c.read_basin_file.ensures.asked) c.read_series.ensures.reads
