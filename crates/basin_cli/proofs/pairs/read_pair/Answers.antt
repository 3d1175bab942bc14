use Rattle.std.proofs.lemmas.Result.{err_from_is_err_and}
use Rattle.basin_cli.specs.Command.{named}
use Rattle.basin_cli.specs.Failed.{pair_to}
use Rattle.basin_cli.specs.Header.{table_of}
use Rattle.basin_cli.specs.declared.ending.File.TheVariants as file
use Rattle.basin_cli.proofs.Failing.{asks_then, stops_at}
use Rattle.basin_cli.proofs.Stops.{first_stops, rose_since, second_stops, series_known, table_stops}
use Rattle.basin_cli.proofs.pairs.read_pair.Goals as goal

pub returns-in_err-text-clause-stops : goal.returns-in_err-text-clause-stops
returns-in_err-text-clause-stops g c =
    let p = err_from_is_err_and c.from_residual-in_err-text.result c.from_residual-in_err-text.ensures.1 in
    let both = c.in_ok-basin.ensures in
    rw (p.1, p.2)
    (table_stops (named c.args.inputs) c.args.second.now _ _ c.in_ok-basin.basin c.in_ok-basin.other both.text
    both.second_text _ _ c.in_err-text.field-0.0 both.same.known (rose_since _ _ _ both.later) both.months
    c.in_err-text.ensures.named c.in_err-text.ensures.ends)

pub returns-in_err-text-clause-up_to : goal.returns-in_err-text-clause-up_to
returns-in_err-text-clause-up_to g c =
    let p = err_from_is_err_and c.from_residual-in_err-text.result c.from_residual-in_err-text.ensures.1 in
    rw (p.1, p.2)
    (stops_at (pair_to (named c.args.inputs) c.args.second.now) _ _ file.Series c.in_err-text.field-0.0
    c.in_err-text.ensures.at (asks_then _ _ _ _ _ c.in_ok-basin.ensures.reads c.read_table.ensures.reads))

pub returns-in_err-series-clause-stops : goal.returns-in_err-series-clause-stops
returns-in_err-series-clause-stops g c =
    let p = err_from_is_err_and c.from_residual-in_err-series.result c.from_residual-in_err-series.ensures.1 in
    let both = c.in_ok-basin.ensures in
    rw (p.1, p.2)
    (first_stops (named c.args.inputs) c.args.second.now _ _ c.in_ok-basin.basin c.in_ok-basin.other both.text
    both.second_text _ _ both.same.known both.months (rw c.table.ensures c.in_ok-text.ensures.bytes)
    (rw c.table.ensures c.in_ok-text.ensures.within) c.in_err-series.field-0.0 c.in_err-series.ensures.ends)

pub returns-in_err-series-clause-up_to : goal.returns-in_err-series-clause-up_to
returns-in_err-series-clause-up_to g c =
    let p = err_from_is_err_and c.from_residual-in_err-series.result c.from_residual-in_err-series.ensures.1 in
    rw (p.1, p.2)
    (stops_at (pair_to (named c.args.inputs) c.args.second.now) _ _ file.Series c.in_err-series.field-0.0
    c.in_err-series.ensures.at (asks_then _ _ _ _ _ c.in_ok-basin.ensures.reads c.read_table.ensures.reads))

pub returns-in-Err-clause-stops : goal.returns-in-Err-clause-stops
returns-in-Err-clause-stops g c =
    let both = c.in_ok-basin.ensures in
    rw c.of_second.ensures.is
    (second_stops (named c.args.inputs) c.args.second.now _ _ c.in_ok-basin.basin c.in_ok-basin.other both.text
    both.second_text _ (table_of c.in_ok-text.text) both.same.known both.months c.in_ok-text.ensures.bytes
    c.in_ok-text.ensures.within c.in-Err.ending (rw c.table.ensures at c.in_ok-series.ensures.sound)
    (rw c.table-2.ensures at c.in-Err.ensures.ends))

pub returns-in-Err-clause-up_to : goal.returns-in-Err-clause-up_to
returns-in-Err-clause-up_to g c =
    stops_at (pair_to (named c.args.inputs) c.args.second.now) _ _ file.Series c.of_second.result
    (c.of_second.ensures.at c.in-Err.ensures.at)
    (asks_then _ _ _ _ _ c.in_ok-basin.ensures.reads c.read_table.ensures.reads)

pub returns-in-Err-clause-printable : goal.returns-in-Err-clause-printable
returns-in-Err-clause-printable g c = c.of_second.ensures.printable c.in-Err.ensures.printable

pub returns-clause-paired : goal.returns-clause-paired
returns-clause-paired g c =
    let both = c.in_ok-basin.ensures in
    let text = table_of c.in_ok-text.text in
    record {
      valid = both.valid;
      second_valid = both.second_valid;
      months = both.months;
      fits = c.in_ok-series.ensures.fits;
      second_fits = c.in-Ok.ensures.fits;
      loaded = record {
        from_basin = both.text;
        from_series = series_known _ _ _ text _ _ both.same.known c.in_ok-text.ensures.bytes (record {
          within = c.in_ok-text.ensures.within;
          sound = rw c.table.ensures at c.in_ok-series.ensures.sound;
          spelled = rw c.table.ensures at c.in_ok-series.ensures.spelled;
        });
      };
      second_loaded = record {
        from_basin = both.second_text;
        from_series = series_known _ _ _ text _ _ both.same.known c.in_ok-text.ensures.bytes (record {
          within = c.in_ok-text.ensures.within;
          sound = rw c.table-2.ensures at c.in-Ok.ensures.sound;
          spelled = rw c.table-2.ensures at c.in-Ok.ensures.spelled;
        });
      };
    }
