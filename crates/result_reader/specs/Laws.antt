-- Laws over what is read, and over the form of a text.
use Rattle.std.specs.Prelude.{◌≡◌, ℕ, List, [], ◌∷◌, ◌++◌, length, Some, Ok, Err, ◌↔◌}
use Rattle.result_lines.specs.Spelling.{line_of}
use Rattle.result_lines.specs.Text.{items_of, text_bytes}
use Rattle.water_model.specs.Valid.{IsValidBasin}
use Rattle.result_lines.specs.declared.item.Item.{Item}
use Rattle.water_model.specs.declared.types.Basin.{Basin}
use Rattle.water_model.specs.declared.types.Series.{Series}
use Rattle.water_model.specs.declared.types.MonthRecord.{MonthRecord}
use Rattle.result_reader.specs.Due.{Due, all_due, due_after}
use Rattle.result_reader.specs.Form.{IsPrefix}
use Rattle.result_reader.specs.OfText.{IsOfText}
use Rattle.result_reader.specs.Reading.{item_of, read_line}
use Rattle.result_reader.specs.Records.{AreTextMonths}
use Rattle.result_reader.specs.declared.bad_line.BadLine.TheVariants as bad

-- What is read is what the line says. A line says an item exactly where it is that item's spelling, and the item one
-- that a text of the basin may have.
abbrev pub LineSaysItsItem : Type 0
LineSaysItsItem =
    (b : Basin) (bytes : List ℕ) (item : Item) → IsValidBasin b →
    (item_of b bytes ≡ Ok item) ↔ ((bytes ≡ line_of b item) × IsOfText b item)

-- Something is due after some lines exactly where they are the prefix of a whole text.
abbrev pub PrefixesAreDue : Type 0
PrefixesAreDue =
    (b : Basin) (items : List Item) → IsValidBasin b →
    ((after : Due) × (due_after b (all_due b) items ≡ Some after)) ↔ IsPrefix b items

-- A line is accepted after others exactly where it spells an item with which they are the prefix of a whole text.
abbrev pub PrefixesAreAccepted : Type 0
PrefixesAreAccepted =
    (b : Basin) (before : List Item) (bytes : List ℕ) (item : Item) → IsValidBasin b →
    (read_line b before bytes ≡ Ok item)
    ↔ ((bytes ≡ line_of b item) × IsOfText b item × IsPrefix b (before ++ item ∷ []))

-- A line that says an item is out of place exactly where with it they are not the prefix of one.
abbrev pub OthersAreOutOfPlace : Type 0
OthersAreOutOfPlace =
    (b : Basin) (before : List Item) (bytes : List ℕ) (item : Item) → IsValidBasin b → item_of b bytes ≡ Ok item →
    (read_line b before bytes ≡ Err bad.OutOfPlace) ↔ (IsPrefix b (before ++ item ∷ []) → ⊥)

-- What is written can be read. Each line of the text of records of all months is accepted after those before it.
abbrev pub TextsAreAccepted : Type 0
TextsAreAccepted =
    (b : Basin) (series : Series) (records : List MonthRecord) (before after : List Item) (item : Item) →
    IsValidBasin b →
    AreTextMonths b series records → length records ≡ b.months → items_of b records ≡ before ++ item ∷ after →
    read_line b before (line_of b item) ≡ Ok item

-- One spelling. Records of one basin and one series whose texts have the same bytes are the same.
abbrev pub TextsHaveOneReading : Type 0
TextsHaveOneReading =
    (b : Basin) (series : Series) (records others : List MonthRecord) → IsValidBasin b →
    AreTextMonths b series records → AreTextMonths b series others → text_bytes b records ≡ text_bytes b others →
    records ≡ others
