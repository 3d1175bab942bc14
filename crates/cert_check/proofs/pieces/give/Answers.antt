use Rattle.std.proofs.Common.{◌++◌, ◌∙◌, take, arith}
use Rattle.std.proofs.lemmas.Result.{err_from_is_err_and}
use Rattle.cert_check.proofs.Feeding.{given_on, refused_on}
use Rattle.cert_check.proofs.pieces.give.Goals as goal

pub returns-in_err-taken-clause-refused : goal.returns-in_err-taken-clause-refused
returns-in_err-taken-clause-refused c =
    let p = err_from_is_err_and c.from_residual.result c.from_residual.ensures.1 in
    let i = c.loop-at.invariant in
    rw (p.1, p.2) (λ text given more.
    let so_far = text ++ take c.loop-at.at c.args.piece.now in
    refused_on c.args.checker.now.basin c.args.checker.now.series text c.args.piece.now more c.loop-at.at
    c.in_err-taken.field-0.0
    (rw (i.basin, i.series) at (c.in_err-taken.ensures.refused so_far (i.given text given) more)))

pub loop-at-preserved : goal.loop-at-preserved
loop-at-preserved c =
    let i = c.loop-at.invariant in
    let e = c.in_ok-taken.ensures in
    record {
      within = omega (arith, e.within, i.within);
      given = λ text given. given_on text c.args.piece.now c.loop-at.at
          c.in_ok-taken.taken (e.given (text ++ take c.loop-at.at c.args.piece.now) (i.given text given));
      good = e.good;
      left = omega (arith, e.left, i.left);
      line = e.line;
      basin = e.basin ∙ i.basin;
      series = e.series ∙ i.series;
      audit = λ audits. e.audit (i.audit audits);
    }
