use Rattle.std.proofs.Common.{sym, ap, ◌∙◌}
use Rattle.std.proofs.lemmas.Bool.{not-false, not-true}
use Rattle.std.specs.Str.{bytes_eq}
use Rattle.edit_script.specs.Scripts.{edits_from, lines_of}
use Rattle.edit_script.proofs.Reading.{first_bad, first_good, given_on, no_first}
use Rattle.edit_script.proofs.script.read_script.Goals as goal

pub returns-in_default-clause-reads : goal.returns-in_default-clause-reads
returns-in_default-clause-reads c = no_first _ _ _ c.in_default.ensures.none

pub returns-then-ne-clause-reads : goal.returns-then-ne-clause-reads
returns-then-ne-clause-reads c =
    first_bad _ _ _ _ c.in-Some.after.now c.in-Some.ensures.some
    (sym (ap (bytes_eq c.in-Some.first.now) c.as_slice.ensures) ∙ not-true _ (sym c.ne.ensures ∙ c.if-ne.true))

pub returns-clause-reads : goal.returns-clause-reads
returns-clause-reads c =
    given_on _ _ c.read_edits.result
    (first_good _ _ _ _ c.in-Some.after.now c.in-Some.ensures.some
    (sym (ap (bytes_eq c.in-Some.first.now) c.as_slice.ensures) ∙ not-false _ (sym c.ne.ensures ∙ c.if-ne.false))
    ∙ ap (λ b. edits_from b c.args.series.now 2 (lines_of c.in-Some.after.now)) (sym c.in_ok-names.ensures))
    c.read_edits.ensures.reads

pub returns-clause-placed : goal.returns-clause-placed
returns-clause-placed c = rw c.in_ok-names.ensures at c.read_edits.ensures.placed
