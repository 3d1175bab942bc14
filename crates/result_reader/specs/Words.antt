-- The words that lines begin with.
use Rattle.std.specs.Prelude.{ℕ, List, [], ◌∷◌, Option, codes, find}
use Rattle.std.specs.Str.{bytes_eq}
use Rattle.result_lines.specs.Quantities.{amount_word}
use Rattle.result_lines.specs.declared.quantity.Quantity.TheVariants as quantity
use Rattle.result_reader.specs.declared.words.Word.{Word}
use Rattle.result_reader.specs.declared.words.Word.TheVariants as word

-- how a word is spelled
abbrev pub spelling_of : Word → List ℕ
spelling_of word.Title = codes "river-result"
spelling_of word.Run = codes "run"
spelling_of word.Month = codes "month"
spelling_of (word.Amount q) = amount_word q
spelling_of word.Deliver = codes "deliver"
spelling_of word.Call = codes "call"
spelling_of word.Member = codes "in"
spelling_of word.Called = codes "called"
spelling_of word.End = codes "end"
spelling_of word.Done = codes "done"

-- all words
abbrev pub words : List Word
words =
    word.Title ∷ word.Run ∷ word.Month ∷ word.Amount quantity.Opening ∷ word.Amount quantity.Evaporated
    ∷ word.Amount quantity.Returned ∷ word.Amount quantity.Used ∷ word.Amount quantity.Flow ∷ word.Deliver
    ∷ word.Amount quantity.Outflow ∷ word.Call ∷ word.Member ∷ word.Called ∷ word.Amount quantity.Closing ∷ word.End
    ∷ word.Done ∷ []

-- the word that bytes spell
unfoldable pub word_of : List ℕ → Option Word
word_of bytes = find (λ w. bytes_eq (spelling_of w) bytes) words
