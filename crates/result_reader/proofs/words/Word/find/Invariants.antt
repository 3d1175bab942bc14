use Rattle.std.proofs.Common.{◌≡◌, drop}
use Rattle.std.specs.Prelude.{find}
use Rattle.std.specs.Str.{bytes_eq}
use Rattle.result_reader.specs.Words.{spelling_of, word_of}
use Rattle.result_reader.proofs.words.Word.find.Given as goal

abbrev pub invariant-loop-word : goal.invariant-loop-word
invariant-loop-word l = find (λ w. bytes_eq (spelling_of w) l.text) (drop l.word-index l.word-items) ≡ word_of l.text
