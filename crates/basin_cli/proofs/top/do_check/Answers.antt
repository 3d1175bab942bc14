use Rattle.std.proofs.Common.{rules, subst, ap, ◌∙◌, List, Option, ℕ}
use Rattle.std.specs.Prelude.{IfSome}
use Rattle.water_edge.specs.Edge.{Rose}
use Rattle.basin_cli.specs.Actions.{EndsChecking}
use Rattle.basin_cli.specs.Answer.{LeavesAnswer}
use Rattle.basin_cli.specs.Command.{named}
use Rattle.basin_cli.specs.Ending.{status_of}
use Rattle.basin_cli.specs.Failed.{inputs_and}
use Rattle.basin_cli.specs.Out.{MayWrite}
use Rattle.basin_cli.proofs.Failing.{checking_asks, inputs_stop}
use Rattle.basin_cli.proofs.Judged.{checking_cause, checking_writes, ends_later}
use Rattle.basin_cli.proofs.Stops.{rose_since}
use Rattle.basin_cli.proofs.Unread.{unread}
use Rattle.basin_cli.proofs.top.do_check.Goals as goal

pub returns-in-Err : goal.returns-in-Err
returns-in-Err g c = λ count.
    (let files = named c.args.inputs in
    let result = c.args.result_name.now in
    let asked =
    inputs_stop (inputs_and files result) _ _ files _ _ c.in-Err.ending (λ asks. asks) (λ asks. asks)
    c.in-Err.ensures.stops c.in-Err.ensures.up_to in
    let kept = unread _ c.in-Err.ending (λ _. c.read_inputs.ensures.asked result) in
    search rules)

pub returns : goal.returns
returns g c = λ count.
    (let known = g.S.Shelf.known c.args.shelf.now in
    let files = named c.args.inputs in
    let asked = c.args.question in
    let result = c.args.result_name.now in
    let b = c.in-Ok.files.basin in
    let series = c.in-Ok.files.series in
    let read = c.in-Ok.ensures in
    let how = c.check_file-ending.result in
    let did = c.check_file-ending.ensures in
    let mid = Rose (g.S.Shelf.faults c.read_inputs.new.shelf) (g.S.Shelf.faults c.check_file-ending.new.shelf) in
    let write = Rose (g.K.Sink.faults c.args.out.now) (g.K.Sink.faults c.check_file-ending.new.out) in
    let old = g.K.Sink.output c.args.out.now in
    let new = g.K.Sink.output c.check_file-ending.new.out in
    record {
      cause =
          checking_cause known files b series read.valid read.fits read.loaded asked result how _ _
          (ends_later asked b series (known result) how _ _ _ (rose_since _ _ _ read.later)
          (subst (λ (o : Option (List ℕ)). EndsChecking asked b series o how mid write) (read.same.known result)
          did.ends));
      asked =
          checking_asks asked files result b series _ how _ _ _ _ _ did.ends read.reads
          did.reads;
      can_be_printed = search rules;
      writes =
          checking_writes known files b series read.valid read.fits read.loaded asked result (status_of how) _ _
          (subst (λ (o : Option (List ℕ)). IfSome o (λ text. MayWrite (status_of how) →
          LeavesAnswer asked b series text (status_of how) old new))
          (read.same.known result) did.leaves);
      out_stays = did.out_stays;
      flushed = did.flushed;
      shown = tt;
      unread = unread _ how (λ e not_basin not_series. ap (λ s. g.S.Shelf.asked s result) (did.unread e)
          ∙ c.read_inputs.ensures.asked result not_basin not_series);
      idle = search rules;
      work = search rules;
    })
