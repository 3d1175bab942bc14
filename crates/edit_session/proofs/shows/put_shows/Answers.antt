use Rattle.std.proofs.lemmas.Result.{err_from_is_err_and}
use Rattle.edit_session.specs.declared.stop.EditStop.TheVariants as stop
use Rattle.edit_session.proofs.Playing.{nothing_shown, whole_stops}
use Rattle.edit_session.proofs.shows.put_shows.Goals as goal

pub returns-in_err-session-clause-answers : goal.returns-in_err-session-clause-answers
returns-in_err-session-clause-answers g c =
    let p = err_from_is_err_and c.from_residual.result c.from_residual.ensures.1 in
    rw (p.1, p.2)
    (whole_stops g.K.Sink _ _ _ stop.OutOfMemory c.args.out.now c.args.out.now
    (nothing_shown g.K.Sink c.args.basin.now c.args.series.now c.args.edits.now c.args.out.now))
