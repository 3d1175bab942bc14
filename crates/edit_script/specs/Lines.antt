-- What one line of a script asks for.
use Rattle.std.specs.Prelude.{ℕ, ◌^◌, List, [], ◌∷◌, codes, Option, Some, None, Result, Ok, Err, if◌then◌else◌}
use Rattle.std.specs.Str.{bytes_eq}
use Rattle.water_text.specs.Amounts.{read_plain}
use Rattle.water_text.specs.Fields.{pieces_of}
use Rattle.water_text.specs.Months.{read_month}
use Rattle.water_text.specs.Names.{is_name}
use Rattle.water_model.specs.Hydrology.{index_in, index_in_run}
use Rattle.water_model.specs.Valid.{is_gauged, is_in_series}
use Rattle.water_model.specs.declared.types.Basin.{Basin}
use Rattle.water_model.specs.declared.types.Series.{Series}
use Rattle.basin_names.specs.Named.{node_named, right_named}
use Rattle.edit_script.specs.declared.edit.Edit.{Edit}
use Rattle.edit_script.specs.declared.edit.Edit.TheVariants as edit
use Rattle.edit_script.specs.declared.refused.ScriptFault.{ScriptFault}
use Rattle.edit_script.specs.declared.refused.ScriptFault.TheVariants as fault

-- what is made of a value, or the fault where there is none
abbrev pub need : {X Y : Type 0} → ScriptFault → Option X → (X → Result Y ScriptFault) → Result Y ScriptFault
need fault None next = Err fault
need fault (Some x) next = next x

-- what is made of an answer, or its fault
abbrev pub given : {X Y : Type 0} → Result X ScriptFault → (X → Result Y ScriptFault) → Result Y ScriptFault
given (Err fault) next = Err fault
given (Ok x) next = next x

-- what a line `show MONTH` asks for
unfoldable pub show_of : Basin → List ℕ → Result Edit ScriptFault
show_of b month =
    need fault.BadLine (read_month month) (λ m.
    need fault.OutsideRun (index_in_run b m) (λ index. Ok (edit.Show index)))

-- the index of a change's month in the run, and the change's amount, or the first fault of them and of the name's form
unfoldable pub numbers_of : Basin → List ℕ → List ℕ → List ℕ → Result (ℕ × ℕ) ScriptFault
numbers_of b month name amount =
    need fault.BadLine (read_month month) (λ m.
    if is_name name then
    need fault.BadLine (read_plain amount (10 ^ 9)) (λ a.
    need fault.OutsideRun (index_in_run b m) (λ index. Ok (index, a)))
    else Err fault.BadLine)

-- what a line `inflow MONTH NODE AMOUNT` asks for
unfoldable pub inflow_of : Basin → Series → List ℕ → List ℕ → List ℕ → Result Edit ScriptFault
inflow_of b series month name amount =
    given (numbers_of b month name amount) (λ numbers.
    need fault.NoSuchName (node_named b name) (λ node.
    if is_gauged b node then Ok (edit.Inflow numbers.0 (index_in series.gauged node) numbers.1)
    else Err fault.NotSeries))

-- what a line `want MONTH RIGHT AMOUNT` asks for
unfoldable pub want_of : Basin → Series → List ℕ → List ℕ → List ℕ → Result Edit ScriptFault
want_of b series month name amount =
    given (numbers_of b month name amount) (λ numbers.
    need fault.NoSuchName (right_named b name) (λ right.
    if is_in_series b right then Ok (edit.Want numbers.0 (index_in series.wanted right) numbers.1)
    else Err fault.NotSeries))

-- what a line of these fields asks for, or its first fault
abbrev pub edit_in : Basin → Series → List (List ℕ) → Result Edit ScriptFault
edit_in b series (word ∷ month ∷ []) = if bytes_eq word (codes "show") then show_of b month else Err fault.BadLine
edit_in b series (word ∷ month ∷ name ∷ amount ∷ []) =
    if bytes_eq word (codes "inflow") then inflow_of b series month name amount
    else (if bytes_eq word (codes "want") then want_of b series month name amount else Err fault.BadLine)
edit_in b series _ = Err fault.BadLine

unfoldable pub edit_of : Basin → Series → List ℕ → Result Edit ScriptFault
edit_of b series line = edit_in b series (pieces_of line)
