use Rattle.std.proofs.Common.{arith, rules, refl, subst, inl, ◌≡◌, ℕ, List, Option}
use Rattle.std.proofs.lemmas.Grind.{common_steps}
use Rattle.std.specs.Prelude.{IfSome}
use Rattle.basin_cli.specs.Command.{named}
use Rattle.basin_cli.specs.Ending.{status_of}
use Rattle.basin_cli.specs.Failed.{inputs_and}
use Rattle.basin_cli.specs.declared.ending.File.TheVariants as file
use Rattle.basin_cli.proofs.Edited.{editing_cause, editing_solves, editing_writes, script_cause}
use Rattle.basin_cli.proofs.Failing.{asks_one, asks_then, at_none_prints, inputs_stop, stops_at, stops_at_none}
use Rattle.basin_cli.proofs.Idle.{edits_none}
use Rattle.basin_cli.proofs.Stops.{rose_since}
use Rattle.basin_cli.proofs.Unread.{unread}
use Rattle.basin_cli.proofs.top.do_edit.Goals as goal

pub returns : goal.returns
returns g c =
    let known = g.S.Shelf.known c.args.shelf.now in
    let files = named c.args.inputs in
    let script = c.args.script.now in
    let text = c.deref.result.now in
    let b = c.in-Ok.files.basin in
    let series = c.in-Ok.files.series in
    let how = c.edit_basin-ending.result in
    let is : IfSome (known script) (λ bytes. text ≡ bytes) =
    rw c.deref.ensures.value
    (subst (λ (o : Option (List ℕ)). IfSome o (λ bytes. c.in-Ok-read_file.text.items ≡ bytes))
    (c.in-Ok.ensures.same.known script) c.in-Ok-read_file.ensures.bytes) in
    let read = c.in-Ok.ensures in
    let did = c.edit_basin-ending.ensures in
    record {
      cause = editing_cause known files b series read.fits read.loaded script text is how _ _
          (rw c.deref.ensures.value c.in-Ok-read_file.ensures.within) did.ends;
      asked = stops_at_none (inputs_and files script) _ _ how did.at;
      can_be_printed = at_none_prints how did.at;
      writes = editing_writes known files b series read.fits read.loaded script text is (status_of how) _ _ did.leaves;
      out_stays = did.out_stays;
      flushed = did.flushed;
      shown = did.shown;
      unread = tt;
      idle = did.idle;
      work = editing_solves known files b series read.fits read.loaded script text is c.args.work.now
          c.edit_basin-ending.new.work did.work;
    }

pub returns-in-Err-read_file : goal.returns-in-Err-read_file
returns-in-Err-read_file g c =
    let files = named c.args.inputs in
    let script = c.args.script.now in
    let known = g.S.Shelf.known c.args.shelf.now in
    let ending = c.in-Err-read_file.ending in
    record {
      cause =
          script_cause known files c.in-Ok.files.basin c.in-Ok.files.series c.in-Ok.ensures.fits
          c.in-Ok.ensures.loaded script (g.S.Shelf.known c.read_inputs.new.shelf script) ending _ _ _
          (c.in-Ok.ensures.same.known script) (rose_since _ _ _ c.in-Ok.ensures.later)
          c.in-Err-read_file.ensures.ends;
      asked =
          stops_at (inputs_and files script) _ _ file.Script ending c.in-Err-read_file.ensures.at
          (asks_then _ _ _ _ _ c.in-Ok.ensures.reads (asks_one _ _ _ c.read_file.ensures.asked));
      can_be_printed = search rules;
      writes = grind (arith, common_steps);
      out_stays = λ _. refl;
      flushed = search rules;
      shown = unread _ ending (λ _. inl refl);
      unread = tt;
      idle = λ _. refl;
      work = edits_none known files script c.args.work.now;
    }

pub returns-in-Err : goal.returns-in-Err
returns-in-Err g c =
    let files = named c.args.inputs in
    let script = c.args.script.now in
    let known = g.S.Shelf.known c.args.shelf.now in
    let ending = c.in-Err.ending in
    record {
      cause = search rules;
      asked =
          inputs_stop (inputs_and files script) _ _ files _ _ ending (λ asks. asks) (λ asks. asks)
          c.in-Err.ensures.stops c.in-Err.ensures.up_to;
      can_be_printed = search rules;
      writes = grind (arith, common_steps);
      out_stays = λ _. refl;
      flushed = search rules;
      shown = unread _ ending (λ _. inl refl);
      unread = tt;
      idle = λ _. refl;
      work = edits_none known files script c.args.work.now;
    }
