-- The verdict on the bytes of a text.
use Rattle.std.specs.Prelude.{ℕ, ◌-◌, ◌==◌, Bool, List, [], length, take, slice_index_or, nat_lt, Result, if◌then◌else◌}
use Rattle.std.specs.List.{slice_split}
use Rattle.result_lines.specs.declared.item.Item.{Item}
use Rattle.water_model.specs.declared.types.Basin.{Basin}
use Rattle.water_model.specs.declared.types.Series.{Series}
use Rattle.cert_check.specs.Checking.{verdict}
use Rattle.cert_check.specs.declared.refuted.Refuted.{Refuted}

-- what stands between the line feeds, before the first and after the last
abbrev pub pieces_of : List ℕ → List (List ℕ)
pieces_of bytes = slice_split (λ byte. byte == 10) bytes

-- what stands after the last line feed, and all bytes where there is none
abbrev pub after_last : List (List ℕ) → List ℕ
after_last pieces = slice_index_or pieces (length pieces - 1) []

-- The lines of a text are ended by line feeds, and the rest stands after the last of them. A rest of more than 128
-- bytes, which no line has, counts as a line.
abbrev pub is_line : List ℕ → Bool
is_line rest = nat_lt 128 (length rest)

abbrev pub lines_of_pieces : List (List ℕ) → List (List ℕ)
lines_of_pieces pieces = if is_line (after_last pieces) then pieces else take (length pieces - 1) pieces

abbrev pub rest_of_pieces : List (List ℕ) → List ℕ
rest_of_pieces pieces = if is_line (after_last pieces) then [] else after_last pieces

-- the verdict on the bytes of a text
abbrev pub text_verdict : Basin → Series → List ℕ → Result (List Item) Refuted
text_verdict b series bytes = verdict b series (lines_of_pieces (pieces_of bytes)) (rest_of_pieces (pieces_of bytes))
