use Rattle.std.proofs.Common.{[], ◌∷◌, Err}
use Rattle.std.proofs.lemmas.Result.{err_from_is_err_and}
use Rattle.edit_script.specs.declared.edit.Edit.TheVariants.{Show}
use Rattle.result_text.proofs.Monthly.{puts_kept}
use Rattle.water_edge.proofs.Outputs.{Extends-kept}
use Rattle.edit_session.proofs.Playing.{month_fits, month_kept, nothing_shown, show_failed, show_put}
use Rattle.edit_session.proofs.answer.show.Goals as goal

pub put_month-requires-clause-roll : goal.put_month-requires-clause-roll
put_month-requires-clause-roll g c = rw c.basin.ensures.value c.roll.ensures

pub put_month-requires-clause-month : goal.put_month-requires-clause-month
put_month-requires-clause-month g c =
    let valid = rw (c.basin.ensures.value, c.in_ok-solve.ensures.basin) at c.basin.ensures.valid in
    rw (c.basin.ensures.value, c.in_ok-solve.ensures.basin) (month_fits valid c.requires
    (month_kept valid c.in_ok-solve.ensures.basin c.in_ok-solve.ensures.series c.in_ok-solve.ensures.history
    c.month.ensures))

pub returns-clause-answers : goal.returns-clause-answers
returns-clause-answers g c =
    let valid = rw (c.basin.ensures.value, c.in_ok-solve.ensures.basin) at c.basin.ensures.valid in
    show_put g.K.Sink _ _
    (month_kept valid c.in_ok-solve.ensures.basin c.in_ok-solve.ensures.series c.in_ok-solve.ensures.history
    c.month.ensures) _
    (Extends-kept _ _ _ _ (rw (c.basin.ensures.value, c.in_ok-solve.ensures.basin) at c.in_ok-put_month.ensures.text)
    c.in_ok-flush.ensures.bytes) c.in_ok-flush.ensures.all

pub returns-in_err-put_month-clause-answers : goal.returns-in_err-put_month-clause-answers
returns-in_err-put_month-clause-answers g c =
    let p =
    err_from_is_err_and c.from_residual-in_err-put_month.result c.from_residual-in_err-put_month.ensures.1 in
    let valid = rw (c.basin.ensures.value, c.in_ok-solve.ensures.basin) at c.basin.ensures.valid in
    rw (p.1, p.2)
    (show_failed g.K.Sink _ _
    (month_kept valid c.in_ok-solve.ensures.basin c.in_ok-solve.ensures.series c.in_ok-solve.ensures.history
    c.month.ensures)
    (rw (c.basin.ensures.value, c.in_ok-solve.ensures.basin) at c.in_err-put_month.ensures.text))

pub returns-in_err-flush-clause-answers : goal.returns-in_err-flush-clause-answers
returns-in_err-flush-clause-answers g c =
    let p = err_from_is_err_and c.from_residual-in_err-flush.result c.from_residual-in_err-flush.ensures.1 in
    let valid = rw (c.basin.ensures.value, c.in_ok-solve.ensures.basin) at c.basin.ensures.valid in
    rw (p.1, p.2)
    (show_failed g.K.Sink _ _
    (month_kept valid c.in_ok-solve.ensures.basin c.in_ok-solve.ensures.series c.in_ok-solve.ensures.history
    c.month.ensures)
    (puts_kept {E = Unit {0}} _ _ _ (Err (tt {0})) _
    (rw (c.basin.ensures.value, c.in_ok-solve.ensures.basin) at c.in_ok-put_month.ensures.text)
    c.in_err-flush.ensures.bytes))

pub returns-in_err-solve-clause-answers : goal.returns-in_err-solve-clause-answers
returns-in_err-solve-clause-answers g c =
    let p = err_from_is_err_and c.from_residual.result c.from_residual.ensures.1 in
    rw (p.1, p.2)
    (nothing_shown g.K.Sink c.args.session.now.basin c.args.session.now.series (Show c.args.index ∷ []) _)
