use Rattle.std.specs.Prelude.{All}
use Rattle.std.proofs.Common.{List, subst, ◌∙◌, sym, ap, arith}
use Rattle.std.proofs.lemmas.List.Elements.{All-push}
use Rattle.std.proofs.lemmas.Result.{err_from_is_err_and}
use Rattle.std.specs.Str.{bytes_eq}
use Rattle.edit_script.specs.Edits.{IsValidEdit}
use Rattle.edit_script.specs.declared.edit.Edit.{Edit}
use Rattle.edit_script.proofs.Reading.{after_more, answered, early_end, end_taken, line_taken, refusal_of}
use Rattle.edit_script.proofs.script.read_edits.Goals as goal

pub returns-then-eq-clause-reads : goal.returns-then-eq-clause-reads
returns-then-eq-clause-reads c =
    answered _ _ c.end_of.result
    (end_taken _ _ _ c.loop-line.edits.items _ c.loop-line.rest.now _ c.in-Some.after.now
    c.loop-line.invariant.so_far c.in-Some.ensures.some
    (sym (ap (bytes_eq c.in-Some.line.now) c.as_slice.ensures) ∙ (sym c.eq.ensures ∙ c.if-eq.true)))
    c.end_of.ensures

pub returns-in_err-edit-clause-reads : goal.returns-in_err-edit-clause-reads
returns-in_err-edit-clause-reads c =
    let p = err_from_is_err_and c.from_residual.result c.from_residual.ensures.1 in
    rw (p.1, p.2)
    (refusal_of _ _
    (line_taken _ _ _ c.loop-line.edits.items _ c.loop-line.rest.now _ c.in-Some.after.now _
    c.loop-line.invariant.so_far c.in-Some.ensures.some
    (sym (ap (bytes_eq c.in-Some.line.now) c.as_slice.ensures) ∙ (sym c.eq.ensures ∙ c.if-eq.false))
    c.in_err-edit.ensures.reads))

pub loop-line-preserved : goal.loop-line-preserved
loop-line-preserved c =
    let items = c.in_ok-push.ensures.items in
    record {
      so_far = rw items
          (line_taken _ _ _ c.loop-line.edits.items _ c.loop-line.rest.now _ c.in-Some.after.now _
          c.loop-line.invariant.so_far c.in-Some.ensures.some
          (sym (ap (bytes_eq c.in-Some.line.now) c.as_slice.ensures) ∙ (sym c.eq.ensures ∙ c.if-eq.false))
          c.in_ok-edit.ensures.reads ∙ after_more c.loop-line.edits.items c.in_ok-edit.edit _);
      placed = subst (λ (es : List Edit). All (IsValidEdit c.args.names.now.basin.now c.args.series.now) es) (sym items)
          (All-push (IsValidEdit c.args.names.now.basin.now c.args.series.now) c.loop-line.edits.items c.in_ok-edit.edit
          c.loop-line.invariant.placed c.in_ok-edit.ensures.placed);
      small = omega (arith, c.in-Some.ensures.less, c.loop-line.invariant.small);
    }

pub returns-clause-reads : goal.returns-clause-reads
returns-clause-reads c =
    early_end _ _ _ c.loop-line.edits.items _ c.loop-line.rest.now c.loop-line.invariant.so_far
    c.in_default.ensures.none
