use Rattle.std.proofs.Common.{arith}
use Rattle.std.proofs.lemmas.Slice.Eq.{bytes_eq-Decides}
use Rattle.result_reader.proofs.WordLaws.{word_read}
use Rattle.result_reader.proofs.words.Word.is_spelled.Goals as goal

pub returns : goal.returns
returns c = grind (arith, bytes_eq-Decides, word_read, c.text.ensures, c.eq.ensures)
