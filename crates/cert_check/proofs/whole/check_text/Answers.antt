use Rattle.std.proofs.Common.{[], append-nil}
use Rattle.std.proofs.lemmas.Result.{err_from_is_err_and}
use Rattle.cert_check.proofs.Feeding.{nothing_given, text_answered}
use Rattle.cert_check.proofs.whole.check_text.Goals as goal

pub returns-in_err-give : goal.returns-in_err-give
returns-in_err-give c =
    let p = err_from_is_err_and c.from_residual.result c.from_residual.ensures.1 in
    rw (p.1, p.2) (rw append-nil at (c.in_err-give.ensures.refused []
    (rw c.new-line.ensures (nothing_given c.requires)) []))

pub returns : goal.returns
returns c =
    let given = c.in_ok-give.ensures.given [] (rw c.new-line.ensures (nothing_given c.requires)) in
    rw (← c.in_ok-give.ensures.basin, ← c.in_ok-give.ensures.series) (text_answered c.finish.result given
    (rw c.bytes.ensures at c.finish.ensures.answer))
