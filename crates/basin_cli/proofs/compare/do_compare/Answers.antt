use Rattle.std.proofs.Common.{rules}
use Rattle.basin_cli.specs.Command.{named}
use Rattle.basin_cli.specs.Failed.{pair_to}
use Rattle.basin_cli.proofs.Failing.{at_none_prints, stops_at_none}
use Rattle.basin_cli.proofs.Idle.{compares_none}
use Rattle.basin_cli.proofs.Injured.{cause, work, writes}
use Rattle.basin_cli.proofs.Stops.{refused_writes}
use Rattle.basin_cli.proofs.compare.do_compare.Goals as goal

pub returns-in-Err : goal.returns-in-Err
returns-in-Err g c =
    let known = g.S.Shelf.known c.args.shelf.now in
    let files = named c.args.inputs in
    let second = c.args.second.now in
    let out = g.K.Sink.output c.args.out.now in
    let writes = refused_writes known files second c.in-Err.ending _ out out c.in-Err.ensures.stops in
    let work = compares_none known files second c.args.work.now in
    search rules

pub returns : goal.returns
returns g c =
    let known = g.S.Shelf.known c.args.shelf.now in
    let files = named c.args.inputs in
    let second = c.args.second.now in
    let how = c.compare_basins-ending.result in
    let did = c.compare_basins-ending.ensures in
    record {
      cause = cause known files second c.in-Ok.pair c.in-Ok.ensures.paired how _ _ _ _ did.compares did.ends;
      asked = stops_at_none (pair_to files second) _ _ how did.at;
      can_be_printed = at_none_prints how did.at;
      writes = writes known files second c.in-Ok.pair c.in-Ok.ensures.paired how _ _ _ did.compares;
      out_stays = did.out_stays;
      flushed = did.flushed;
      shown = tt;
      unread = tt;
      idle = λ refused. absurd (did.idle refused);
      work = work known files second c.in-Ok.pair c.in-Ok.ensures.paired c.args.work.now
          c.compare_basins-ending.new.work did.work;
    }
