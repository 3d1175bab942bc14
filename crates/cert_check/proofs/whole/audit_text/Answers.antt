use Rattle.std.proofs.Common.{[], append-nil, inl}
use Rattle.std.proofs.lemmas.Result.{err_from_is_err_and}
use Rattle.cert_check.proofs.Feeding.{nothing_given}
use Rattle.cert_check.proofs.whole.audit_text.Goals as goal

pub returns-in_err-give : goal.returns-in_err-give
returns-in_err-give c =
    let p = err_from_is_err_and c.from_residual.result c.from_residual.ensures.1 in
    rw (p.1, p.2) (inl (rw append-nil at (c.in_err-give.ensures.refused []
    (rw c.new-line.ensures (nothing_given c.requires.none)) [])))

pub returns : goal.returns
returns c =
    let given = c.in_ok-give.ensures.given []
    (rw c.new-line.ensures (nothing_given c.requires.none)) in
    rw (← c.in_ok-give.ensures.basin, ← c.in_ok-give.ensures.series)
    ((rw c.bytes.ensures at c.finish_audit.ensures.answer) given.lines c.args.text.now given.stands given.pieces)
