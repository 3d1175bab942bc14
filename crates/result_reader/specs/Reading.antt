-- What a line says.
use Rattle.std.specs.Prelude.{ℕ, ◌^◌, List, [], ◌∷◌, ◌++◌, length, codes, Result, Ok, Err, is_some}
use Rattle.std.specs.Prelude.{nat_le, nat_lt, if◌then◌else◌}
use Rattle.std.specs.Option.{ok_or}
use Rattle.std.specs.Str.{bytes_eq}
use Rattle.water_text.specs.Amounts.{read_plain}
use Rattle.water_text.specs.Fields.{pieces_of}
use Rattle.water_text.specs.Months.{read_month}
use Rattle.water_text.specs.Names.{is_name}
use Rattle.water_text.specs.declared.month.Month.{Month}
use Rattle.result_lines.specs.Quantities.{space_of}
use Rattle.result_lines.specs.declared.item.Item.{Item}
use Rattle.result_lines.specs.declared.item.Item.TheVariants as line
use Rattle.water_model.specs.declared.space.Space.{Space}
use Rattle.water_model.specs.declared.space.Space.TheVariants as space
use Rattle.water_model.specs.declared.types.Basin.{Basin}
use Rattle.basin_names.specs.Named.{named}
use Rattle.result_reader.specs.Due.{due_after, all_due}
use Rattle.result_reader.specs.Words.{word_of}
use Rattle.result_reader.specs.declared.bad_line.BadLine.{BadLine}
use Rattle.result_reader.specs.declared.bad_line.BadLine.TheVariants as bad
use Rattle.result_reader.specs.declared.words.Word.{Word}
use Rattle.result_reader.specs.declared.words.Word.TheVariants as word

-- what f makes of a good answer
abbrev pub and_then : {X Y : Type 0} → Result X BadLine → (X → Result Y BadLine) → Result Y BadLine
and_then (Ok x) f = f x
and_then (Err why) f = Err why

-- the fields, where there are this many: none, one, two or three
abbrev pub no_field : List (List ℕ) → Result (Unit {0}) BadLine
no_field [] = Ok tt
no_field (x ∷ fields) = Err bad.BadField

abbrev pub one_field : List (List ℕ) → Result (List ℕ) BadLine
one_field [] = Err bad.BadField
one_field (x ∷ fields) = and_then (no_field fields) (λ _. Ok x)

abbrev pub two_fields : List (List ℕ) → Result (List ℕ × List ℕ) BadLine
two_fields [] = Err bad.BadField
two_fields (x ∷ fields) = and_then (one_field fields) (λ y. Ok (x, y))

abbrev pub three_fields : List (List ℕ) → Result (List ℕ × List ℕ × List ℕ) BadLine
three_fields [] = Err bad.BadField
three_fields (x ∷ fields) = and_then (two_fields fields) (λ f. Ok (x, f.0, f.1))

-- a name, a month, an amount up to 10^15, and a number of months from 1 to 1,200, as fields spell them
abbrev pub name_field : List ℕ → Result (List ℕ) BadLine
name_field field = if is_name field then Ok field else Err bad.BadField

abbrev pub month_field : List ℕ → Result Month BadLine
month_field field = ok_or (read_month field) bad.BadField

abbrev pub amount_field : List ℕ → Result ℕ BadLine
amount_field field = ok_or (read_plain field (10 ^ 15)) bad.BadField

abbrev pub count_field : List ℕ → Result ℕ BadLine
count_field field =
    and_then (ok_or (read_plain field 1200) bad.BadField)
    (λ count. if nat_le 1 count then Ok count else Err bad.BadField)

-- the entry that has the name. Where none has it, no such line may come
abbrev pub entry_named : Basin → Space → List ℕ → Result ℕ BadLine
entry_named b space name = ok_or (named b space name) bad.OutOfPlace

-- what a line of this word and these fields says
unfoldable pub item_with : Basin → Word → List (List ℕ) → Result Item BadLine
item_with b word.Title fields =
    and_then (one_field fields) (λ version. if bytes_eq version (codes "1") then Ok line.Title else Err bad.BadField)
item_with b word.Run fields =
    and_then (two_fields fields) (λ f. and_then (month_field f.0) (λ first. and_then (count_field f.1) (λ months.
    Ok (line.Run first months))))
item_with b word.Month fields =
    and_then (one_field fields) (λ x. and_then (month_field x) (λ month. Ok (line.Month month)))
item_with b (word.Amount q) fields =
    and_then (two_fields fields) (λ f. and_then (name_field f.0) (λ name. and_then (amount_field f.1) (λ amount.
    and_then (entry_named b (space_of q) name) (λ entry. Ok (line.Amount q entry amount)))))
item_with b word.Deliver fields =
    and_then (three_fields fields) (λ f. and_then (name_field f.0) (λ name. and_then (amount_field f.1) (λ amount.
    and_then (amount_field f.2)
    (λ want. and_then (entry_named b space.Rights name) (λ right. Ok (line.Deliver right amount want))))))
item_with b word.Call fields =
    and_then (one_field fields) (λ x. and_then (name_field x) (λ name.
    and_then (entry_named b space.Rights name) (λ right. Ok (line.Call right))))
item_with b word.Member fields =
    and_then (one_field fields) (λ x. and_then (name_field x) (λ name.
    and_then (entry_named b space.Nodes name) (λ node. Ok (line.Member node))))
item_with b word.Called fields =
    and_then (two_fields fields) (λ f. and_then (name_field f.0) (λ name. and_then (name_field f.1) (λ other.
    and_then (entry_named b space.Rights name) (λ right. and_then (entry_named b space.Rights other) (λ by'.
    Ok (line.Called right by'))))))
item_with b word.End fields = and_then (no_field fields) (λ _. Ok line.End)
item_with b word.Done fields =
    and_then (one_field fields) (λ x. and_then (count_field x) (λ months. Ok (line.Done months)))

abbrev pub item_in : Basin → List (List ℕ) → Result Item BadLine
item_in b [] = Err bad.UnknownWord
item_in b (first ∷ fields) = and_then (ok_or (word_of first) bad.UnknownWord) (λ w. item_with b w fields)

-- what a line says, whatever stands before it
unfoldable pub item_of : Basin → List ℕ → Result Item BadLine
item_of b bytes = if nat_lt 128 (length bytes) then Err bad.OverLong else item_in b (pieces_of bytes)

-- The answer of a reader that accepted the lines of these items, to the next line.
unfoldable pub read_line : Basin → List Item → List ℕ → Result Item BadLine
read_line b before bytes =
    and_then (item_of b bytes) (λ item.
    if is_some (due_after b (all_due b) (before ++ item ∷ [])) then Ok item else Err bad.OutOfPlace)
