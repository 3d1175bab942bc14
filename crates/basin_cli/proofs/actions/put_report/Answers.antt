use Rattle.std.proofs.Common.{refl, rules}
use Rattle.reports.specs.Ends.{IsRun}
use Rattle.reports.specs.Reports.{report_text}
use Rattle.basin_cli.proofs.Flushed.{kept, prefixes}
use Rattle.basin_cli.proofs.Stops.{rose_since}
use Rattle.basin_cli.proofs.actions.put_report.Goals as goal

pub returns-in-Ok-flush : goal.returns-in-Ok-flush
returns-in-Ok-flush g c =
    let left =
    kept (IsRun c.args.basin.now c.args.series.now) (report_text c.args.basin.now c.args.series.now) _ _ _
    c.in-Ok.ensures.text c.in-Ok-flush.ensures.bytes in
    search rules

pub returns-in-Err : goal.returns-in-Err
returns-in-Err g c =
    let left =
    prefixes (IsRun c.args.basin.now c.args.series.now) (report_text c.args.basin.now c.args.series.now) _ _ _
    c.in-Ok.ensures.text c.in-Err.ensures.bytes in
    let rose = rose_since _ _ _ c.in-Ok.ensures.cause.later (c.in-Err.ensures.cause.rose refl) in
    search rules
