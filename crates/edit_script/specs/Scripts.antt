-- What a script asks for, or its first line at fault.
use Rattle.std.specs.Prelude.{◌≡◌, ℕ, ◌+◌, List, [], ◌∷◌, codes, Result, Ok, Err, ◌==◌, if◌then◌else◌}
use Rattle.std.specs.List.{slice_split}
use Rattle.std.specs.Str.{bytes_eq}
use Rattle.water_model.specs.declared.types.Basin.{Basin}
use Rattle.water_model.specs.declared.types.Series.{Series}
use Rattle.edit_script.specs.Lines.{edit_of}
use Rattle.edit_script.specs.declared.edit.Edit.{Edit}
use Rattle.edit_script.specs.declared.refused.ScriptFault.{ScriptFault}
use Rattle.edit_script.specs.declared.refused.ScriptFault.TheVariants as fault
use Rattle.edit_script.specs.declared.refused.ScriptRefused.{ScriptRefused}
use Rattle.edit_script.specs.declared.refused.ScriptRefused.TheVariants as refused

-- what stands between the line feeds: the lines of a text, and last what is after the last line feed
abbrev pub lines_of : List ℕ → List (List ℕ)
lines_of bytes = slice_split (λ byte. byte == 10) bytes

-- what is asked for, or the first line at fault: why, and its number
abbrev pub Reading : Type 0
Reading = Result (List Edit) ScriptRefused

-- the answer to the line of this number
abbrev pub numbered : ℕ → Result Edit ScriptFault → Result Edit ScriptRefused
numbered number (Ok e) = Ok e
numbered number (Err why) = Err (refused.Refused why number)

-- an answer to a line, and after it that to the lines after
abbrev pub in_prefix : Result Edit ScriptRefused → Reading → Reading
in_prefix (Err why) after = Err why
in_prefix (Ok e) (Ok edits) = Ok (e ∷ edits)
in_prefix (Ok e) (Err why) = Err why

-- after the line `done` nothing follows
abbrev pub ended : List Edit → ℕ → List (List ℕ) → Reading
ended edits number ([] ∷ []) = Ok edits
ended edits number _ = Err (refused.Refused fault.AfterEnd number)

-- the lines from this number on, which end with `done`
unfoldable pub edits_from : Basin → Series → ℕ → List (List ℕ) → Reading
edits_from b series number [] = Err (refused.Refused fault.EarlyEnd number)
edits_from b series number (rest ∷ []) = Err (refused.Refused fault.EarlyEnd number)
edits_from b series number (line ∷ next ∷ lines) =
    if bytes_eq line (codes "done") then ended [] (number + 1) (next ∷ lines)
    else in_prefix (numbered number (edit_of b series line)) (edits_from b series (number + 1) (next ∷ lines))

-- the first line says what the text is
abbrev pub edits_of_lines : Basin → Series → List (List ℕ) → Reading
edits_of_lines b series [] = Err (refused.Refused fault.EarlyEnd 1)
edits_of_lines b series (rest ∷ []) = Err (refused.Refused fault.EarlyEnd 1)
edits_of_lines b series (line ∷ next ∷ lines) =
    if bytes_eq line (codes "river-edit 1") then edits_from b series 2 (next ∷ lines)
    else Err (refused.Refused fault.BadLine 1)

-- what a script asks for, or its first line at fault
unfoldable pub script_of : Basin → Series → List ℕ → Reading
script_of b series text = edits_of_lines b series (lines_of text)

-- a refusal is that of the reading, or want of memory
abbrev pub IsRefusalOf : Reading → ScriptRefused → Type 0
IsRefusalOf reading refused.OutOfMemory = Unit {0}
IsRefusalOf reading (refused.Refused why line) = reading ≡ Err (refused.Refused why line)
