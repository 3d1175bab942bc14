use Rattle.std.proofs.Common.{ℕ, subst}
use Rattle.std.proofs.lemmas.Result.{err_from_is_err_and}
use Rattle.water_edge.specs.Edge.{Extends}
use Rattle.water_edge.proofs.Outputs.{Extends-trans}
use Rattle.water_edge.proofs.Puts.{PutsPrefix}
use Rattle.edit_session.specs.Shown.{done_bytes, months_bytes, shows_in}
use Rattle.edit_session.proofs.Playing.{stops_flushed, whole_failed, whole_stops}
use Rattle.edit_session.proofs.shows.put_answers.Goals as goal

pub returns-in_err-answer_each-clause-answers : goal.returns-in_err-answer_each-clause-answers
returns-in_err-answer_each-clause-answers g c =
    let p = err_from_is_err_and c.from_residual.result c.from_residual.ensures.1 in
    rw (p.1, p.2) (whole_stops g.K.Sink _ _ _ c.in_err-answer_each.field-0.0 _ _ c.in_err-answer_each.ensures.answers)

pub returns-in_err-answer_each-clause-shown : goal.returns-in_err-answer_each-clause-shown
returns-in_err-answer_each-clause-shown g c =
    let p = err_from_is_err_and c.from_residual.result c.from_residual.ensures.1 in
    let made = p.1 in
    let is = p.2 in λ same.
    stops_flushed g.K.Sink _ _ _ c.in_err-answer_each.field-0.0 _ _ c.in_err-answer_each.ensures.answers cc

pub returns-in_err-put_done-clause-answers : goal.returns-in_err-put_done-clause-answers
returns-in_err-put_done-clause-answers g c =
    let p =
    err_from_is_err_and c.from_residual-in_err-put_done.result c.from_residual-in_err-put_done.ensures.1 in
    rw (p.1, p.2)
    (whole_failed g.K.Sink _ _ c.args.edits.now c.args.out.now c.answer_each.new.out _ _
    c.in_ok-answer_each.ensures.answers
    (subst (λ (n : ℕ). PutsPrefix (g.K.Sink.output c.answer_each.new.out) (g.K.Sink.output c.put_done.new.out)
    (done_bytes n)) c.count_shows.ensures c.in_err-put_done.ensures.text))

pub returns-clause-answers : goal.returns-clause-answers
returns-clause-answers g c =
    let old = g.K.Sink.output c.args.out.now in
    let mid = g.K.Sink.output c.answer_each.new.out in
    let new = g.K.Sink.output c.put_done.new.out in
    let each = c.in_ok-answer_each.ensures.answers in (
      each.0,
      each.1,
      Extends-trans old mid new (months_bytes c.args.session.now.basin each.0) (done_bytes (shows_in c.args.edits.now))
          each.2.text
          (subst (λ (n : ℕ). Extends mid new (done_bytes n)) c.count_shows.ensures c.in_ok-put_done.ensures.text),
      c.in_ok-put_done.ensures.flushed,
    )
