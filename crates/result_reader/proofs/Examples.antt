-- Lines that are accepted and refused after others.
use Rattle.std.proofs.Common.{◌≡◌, ℕ, refl, List, [], ◌∷◌, ◌++◌, replicate}
use Rattle.std.specs.Prelude.{codes, map, Result, Ok, Err}
use Rattle.std.specs.Fmt.{digits}
use Rattle.water_text.specs.Amounts.{read_amount, read_plain}
use Rattle.water_text.specs.Months.{read_month}
use Rattle.water_text.specs.Names.{is_name}
use Rattle.water_text.specs.Shapes.{has_shape}
use Rattle.water_model.specs.Indices.{numbers_from, by_seniority}
use Rattle.result_lines.specs.declared.item.Item.{Item}
use Rattle.result_lines.specs.declared.item.Item.TheVariants as line
use Rattle.result_lines.specs.declared.quantity.Quantity.TheVariants as quantity
use Rattle.water_model.specs.declared.types.Basin.{Basin}
use Rattle.water_model.proofs.Worked.{stream, old, new}
use Rattle.result_reader.specs.Form.{is_same_shape, fits, due_in_month, due}
use Rattle.result_reader.specs.Reading.{item_with, item_of, read_line}
use Rattle.result_reader.specs.Words.{word_of}
use Rattle.result_reader.specs.declared.bad_line.BadLine.{BadLine}
use Rattle.result_reader.specs.declared.bad_line.BadLine.TheVariants as bad

abbrev basin : Basin
basin = stream 50 (new 1920 ∷ old ∷ [])

-- the items before, a line, and what it says after them
abbrev Case : Type 0
Case = List Item × List ℕ × Result Item BadLine

abbrev Answers : List Case → Type 0
Answers cases = map (λ (c : Case). read_line basin c.0 c.1) cases ≡ map (λ (c : Case). c.2) cases

abbrev head : List Item
head = line.Title ∷ line.Run (record { year = 1900; month = 1 }) 1 ∷ []

abbrev january : List Item
january = head ++ line.Month (record { year = 1900; month = 1 }) ∷ []

abbrev outflows : List Item
outflows =
    january ++ line.Amount quantity.Flow 0 50 ∷ line.Amount quantity.Flow 1 0 ∷ line.Deliver 1 50 60 ∷ line.Deliver 0 0
    50 ∷ line.Amount quantity.Outflow 2 0 ∷ []

answers : Answers
    ((head, replicate 129 120, Err bad.OverLong)
    ∷ (head, codes "months 1900-01", Err bad.UnknownWord)
    ∷ (head, codes "month 1900-1", Err bad.BadField)
    ∷ (head, codes "month 1900-02", Err bad.OutOfPlace)
    ∷ (head, codes "month 1900-01", Ok (line.Month (record { year = 1900; month = 1 })))
    -- a leading zero, a later link, no link, and the one that is due
    ∷ (january, codes "flow a 060", Err bad.BadField)
    ∷ (january, codes "flow b 0", Err bad.OutOfPlace)
    ∷ (january, codes "flow c 0", Err bad.OutOfPlace)
    ∷ (january, codes "flow a 60", Ok (line.Amount quantity.Flow 0 60))
    -- a node after no call, a call with no node, and an earlier node
    ∷ (outflows, codes "in top", Err bad.OutOfPlace)
    ∷ (outflows ++ line.Call 1 ∷ [], codes "end", Err bad.OutOfPlace)
    ∷ (outflows ++ line.Call 1 ∷ line.Member 1 ∷ [], codes "in top", Err bad.OutOfPlace)
    -- the senior right called after the junior, a junior caller, and a senior one
    ∷ (outflows ++ line.Call 0 ∷ line.Member 1 ∷ [], codes "call old", Err bad.OutOfPlace)
    ∷ (outflows, codes "called old new", Err bad.OutOfPlace)
    ∷ (outflows, codes "called new old", Ok (line.Called 0 1))
    -- another number of months, and a line after the end
    ∷ (outflows ++ line.End ∷ [], codes "done 2", Err bad.OutOfPlace)
    ∷ (outflows ++ line.End ∷ line.Done 1 ∷ [], codes "river-result 1", Err bad.OutOfPlace)
    ∷ [])
unfolding digits has_shape read_month read_amount read_plain is_name numbers_from by_seniority is_same_shape fits
    due_in_month due word_of item_with item_of read_line
answers = refl
