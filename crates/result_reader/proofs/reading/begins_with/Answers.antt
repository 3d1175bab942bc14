use Rattle.std.proofs.Common.{sym, ap, ◌∙◌, ◌++◌, List, ℕ, length, take, drop}
use Rattle.std.proofs.lemmas.List.{take-append-drop}
use Rattle.std.proofs.lemmas.Slice.Eq.{bytes_eq-Decides}
use Rattle.result_reader.proofs.reading.begins_with.Goals as goal

pub returns-then-line-piece : goal.returns-then-line-piece
returns-then-line-piece c = λ same.
    let line = c.args.line.now in
    let piece = c.args.piece.now in
    sym (take-append-drop (length line) piece)
    ∙ ap (λ (t : List ℕ). t ++ drop (length line) piece)
    ((bytes_eq-Decides (take (length line) piece) line).0 (sym c.eq.ensures ∙ same))
