use Rattle.month_fold.specs.Works.{SolvesRun}
use Rattle.basin_cli.specs.Command.{named}
use Rattle.basin_cli.specs.Failed.{inputs_to}
use Rattle.basin_cli.proofs.Failing.{at_none_prints, stops_at_none}
use Rattle.basin_cli.proofs.Known.{of_basin, writes}
use Rattle.basin_cli.proofs.Solved.{solving_cause}
use Rattle.basin_cli.proofs.top.do_text.Goals as goal

pub returns : goal.returns
returns g c =
    let known = g.S.Shelf.known c.args.shelf.now in
    let files = named c.args.inputs in
    let b = c.in-Ok.files.basin in
    let series = c.in-Ok.files.series in
    let read = c.in-Ok.ensures in
    let how = c.put_run_text-ending.result in
    let did = c.put_run_text-ending.ensures in
    record {
      cause = solving_cause known files b series read.fits read.loaded how _ _ did.ends;
      asked = stops_at_none (inputs_to files) _ _ how did.at;
      can_be_printed = at_none_prints how did.at;
      writes = writes known files b series read.fits read.loaded _ _ did.leaves;
      out_stays = did.out_stays;
      flushed = did.flushed;
      shown = tt;
      unread = tt;
      idle = did.idle;
      work = of_basin (known files.basin) b (λ d. SolvesRun d c.args.work.now c.put_run_text-ending.new.work)
          read.loaded.from_basin did.work;
    }
