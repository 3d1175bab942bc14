use Rattle.std.proofs.Common.{refl, sym, ap, ◌∙◌}
use Rattle.std.proofs.lemmas.Option.{slice_get-get_or}
use Rattle.std.specs.Str.{bytes_eq}
use Rattle.result_reader.specs.Words.{spelling_of, words, word_of}
use Rattle.result_reader.proofs.WordLaws.{find-next}
use Rattle.result_reader.proofs.words.Word.find.Goals as goal

pub loop-word-init : goal.loop-word-init
unfolding word_of
loop-word-init c = refl

pub loop-word-preserved : goal.loop-word-preserved
loop-word-preserved c =
    find-next (λ w. bytes_eq (spelling_of w) c.args.text.now) words c.loop-word.word-index _ _
    (slice_get-get_or words c.loop-word.word-index _ c.loop-word-test.true)
    (sym (c.eq.ensures ∙ ap (λ t. bytes_eq t c.args.text.now) c.text.ensures) ∙ c.if-eq.false) c.loop-word.invariant
