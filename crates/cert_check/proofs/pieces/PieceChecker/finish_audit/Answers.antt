use Rattle.std.proofs.Common.{sym, subst}
use Rattle.cert_check.specs.Audit.{IsAuditAnswer}
use Rattle.cert_check.specs.Pieces.{PiecesView, StandsForText}
use Rattle.cert_check.proofs.pieces.PieceChecker.finish_audit.Goals as goal

pub returns : goal.returns
returns c = λ text stands.
    let given = subst (λ (v : PiecesView). StandsForText v text) (sym c.self.view_is) stands in
    let answer = rw c.bytes.ensures at c.finish_audit.ensures.answer in
    subst (λ (v : PiecesView). IsAuditAnswer v.basin v.series text c.finish_audit.result) c.self.view_is
    (answer given.lines text given.stands given.pieces)
