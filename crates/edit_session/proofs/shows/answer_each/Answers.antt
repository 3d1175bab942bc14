use Rattle.std.proofs.Common.{◌≡◌, ◌∙◌, refl, arith, List, [], ◌∷◌, drop}
use Rattle.std.proofs.lemmas.List.{drop_all}
use Rattle.std.proofs.lemmas.Result.{err_from_is_err_and}
use Rattle.std.specs.Prelude.{Ok}
use Rattle.month_fold.proofs.Works.{Solves-none}
use Rattle.edit_script.specs.declared.edit.Edit.{Edit}
use Rattle.edit_session.proofs.Playing.{line_at, lines_from, none_put, played_more, played_stops, works_stop}
use Rattle.edit_session.proofs.shows.answer_each.Goals as goal

from_start : (es : List Edit) → drop 0 es ≡ es
from_start [] = refl
from_start (e ∷ es) = refl

pub loop-edit-init : goal.loop-edit-init
loop-edit-init g c = record {
  basin = refl;
  played = rw (from_start c.args.edits.now)
      (record { placed = λ e h. h; answers = λ r new h. h; work = λ after h. h });
  later = omega arith;
}

pub answer-requires : goal.answer-requires
answer-requires g c =
    rw c.loop-edit.invariant.basin
    (c.loop-edit.invariant.played.placed _ (c.requires c.loop-edit.edit-index _ (omega arith)))

pub loop-edit-preserved : goal.loop-edit-preserved
loop-edit-preserved g c =
    let split = lines_from c.args.edits.now c.loop-edit.edit-index (omega arith) in record {
      basin = c.in_ok-answer.ensures.basin ∙ c.loop-edit.invariant.basin;
      played = rw (c.in_ok-answer.ensures.series, c.in_ok-answer.ensures.kept)
          (played_more _ (line_at c.args.edits.now c.loop-edit.edit-index) _ _ _
          (rw split at c.loop-edit.invariant.played) c.loop-edit.invariant.basin c.in_ok-answer.ensures.answers
          (rw c.loop-edit.invariant.basin at c.in_ok-answer.ensures.work));
      later = omega (arith, c.loop-edit.invariant.later, c.in_ok-answer.ensures.cause.later);
    }

pub returns-in_err-answer-clause-answers : goal.returns-in_err-answer-clause-answers
returns-in_err-answer-clause-answers g c =
    let split = lines_from c.args.edits.now c.loop-edit.edit-index (omega arith) in
    let p = err_from_is_err_and c.from_residual.result c.from_residual.ensures.1 in
    rw (p.1, p.2)
    (played_stops _ (line_at c.args.edits.now c.loop-edit.edit-index) c.in_err-answer.field-0.0 _
    (rw split at c.loop-edit.invariant.played) c.loop-edit.invariant.basin c.in_err-answer.ensures.answers)

pub returns-in_err-answer-clause-work : goal.returns-in_err-answer-clause-work
returns-in_err-answer-clause-work g c =
    let split = lines_from c.args.edits.now c.loop-edit.edit-index (omega arith) in
    works_stop (line_at c.args.edits.now c.loop-edit.edit-index) _ (rw split at c.loop-edit.invariant.played)
    (rw c.loop-edit.invariant.basin at c.in_err-answer.ensures.work)

pub returns-clause-answers : goal.returns-clause-answers
returns-clause-answers g c =
    let over : drop c.loop-edit.edit-index c.args.edits.now ≡ [] =
    drop_all c.loop-edit.edit-index c.args.edits.now (omega arith) in
    (rw over at c.loop-edit.invariant.played).answers (Ok tt) _ ([], refl, none_put _ _ _)

pub returns-clause-work : goal.returns-clause-work
returns-clause-work g c =
    let over : drop c.loop-edit.edit-index c.args.edits.now ≡ [] =
    drop_all c.loop-edit.edit-index c.args.edits.now (omega arith) in
    (rw over at c.loop-edit.invariant.played).work _ (Solves-none c.args.session.now.basin c.loop-edit.work)
