-- What a checker refutes.
use Rattle.std.specs.Prelude.{ℕ, ◌+◌, ◌-◌, Bool, true, false, ◌&&◌, ◌||◌, not, List, [], ◌∷◌, ◌++◌, map, find, length}
use Rattle.std.specs.Prelude.{reverse, min, Option, Some, None, Result, Ok, Err, option_map, is_none, nat_le, nat_lt}
use Rattle.std.specs.Prelude.{◌==◌, if◌then◌else◌, slice_index, slice_get}
use Rattle.std.specs.List.{list_all, list_any, flat_map}
use Rattle.std.specs.Option.{option_map_or}
use Rattle.finite_sums.specs.Sums.{total_where}
use Rattle.water_text.specs.Months.{is_same_month}
use Rattle.water_text.specs.declared.month.Month.{Month}
use Rattle.water_model.specs.Basin.{is_senior, taking_node, instream_link, is_zone_of}
use Rattle.water_model.specs.Cuts.{cut_capacity, cut_kept, separates}
use Rattle.water_model.specs.History.{cut_of, opening_after, calling_right}
use Rattle.water_model.specs.Hydrology.{in_year, evaporation, returned_at, used_of, want_of}
use Rattle.water_model.specs.Lookups.{of_entry}
use Rattle.water_model.specs.Indices.{indices_of, seniors_first, outlets}
use Rattle.water_model.specs.Plans.{carry_of, coming_to, going_from}
use Rattle.result_lines.specs.declared.item.Item.{Item}
use Rattle.result_lines.specs.declared.item.Item.TheVariants as line
use Rattle.result_lines.specs.declared.quantity.Quantity.{Quantity}
use Rattle.result_lines.specs.declared.quantity.Quantity.TheVariants as quantity
use Rattle.water_model.specs.declared.types.Basin.{Basin}
use Rattle.water_model.specs.declared.types.Series.{Series}
use Rattle.water_model.specs.declared.types.MonthRecord.{MonthRecord}
use Rattle.cut_cert.specs.Callers.{is_short}
use Rattle.result_reader.specs.Due.{is_member}
use Rattle.result_reader.specs.Reading.{read_line}
use Rattle.result_reader.specs.ReadSoFar.{ReadSoFar, read_item, read_so_far, with_supply}
use Rattle.cert_check.specs.declared.refuted.RefutedKind.{RefutedKind}
use Rattle.cert_check.specs.declared.refuted.RefutedKind.TheVariants as kind
use Rattle.cert_check.specs.declared.refuted.Refuted.{Refuted}

-- The rows. Each tests what the lines before say, what was read with this line, and this line.

-- whether a set is a tight cut of a right
abbrev pub is_tight : Basin → MonthRecord → ℕ → List Bool → Bool
is_tight b m r cut =
    length cut == length b.nodes && separates b (taking_node b r) (instream_link b r) cut
    && cut_capacity b (carry_of b m.month) m.supply cut == slice_index m.delivered r + cut_kept b m.delivered r cut

-- whether the lines of a quantity stand after the `call` lines of a month
abbrev pub is_closing : Quantity → Bool
is_closing quantity.Closing = true
is_closing other = false

-- whether a line stands after them
abbrev pub is_after_calls : Item → Bool
is_after_calls (line.Called r caller) = true
is_after_calls (line.Amount q entry amount) = is_closing q
is_after_calls line.End = true
is_after_calls other = false

-- whether a line stands after where a right's `call` line would stand
abbrev pub passes : Basin → Item → ℕ → Bool
passes b (line.Call r) right = is_senior b right r
passes b other right = is_after_calls other

-- whether a right has a set in the record that is a tight cut of it
abbrev pub has_tight : Basin → MonthRecord → ℕ → Bool
has_tight b m r = option_map_or (λ cut. is_tight b m r cut) (cut_of m r) false

abbrev pub cut_loose : Basin → Series → ReadSoFar → Item → Bool
cut_loose b series t item =
    not (is_member item) && option_map_or (λ r. not (has_tight b (with_supply b series t.now) r)) t.calling false

abbrev pub cut_missing : Basin → ReadSoFar → Item → Bool
cut_missing b t item =
    list_any (λ r. is_short t.now r && is_none (cut_of t.now r) && passes b item r) (indices_of b.rights)

abbrev pub cut_needless : ReadSoFar → Item → Bool
cut_needless t (line.Call r) = not (is_short t.now r)
cut_needless t other = false

-- the `called` lines that are due, as the right and its caller
abbrev pub caller_due : ℕ → Option ℕ → List (ℕ × ℕ)
caller_due r None = []
caller_due r (Some caller) = (r, caller) ∷ []

abbrev pub callers_due : Basin → MonthRecord → List (ℕ × ℕ)
callers_due b m = flat_map (λ r. caller_due r (calling_right b m r)) (seniors_first b)

abbrev pub is_due : ℕ → ℕ → Option (ℕ × ℕ) → Bool
is_due r caller None = false
is_due r caller (Some due) = due.0 == r && due.1 == caller

abbrev pub called_wrong : Basin → ReadSoFar → Item → Bool
called_wrong b t (line.Called r caller) = not (is_due r caller (slice_get (callers_due b t.now) t.called))
called_wrong b t other = is_after_calls other && nat_lt t.called (length (callers_due b t.now))

-- The rows of the amounts. An amount is wrong by what the lines before it say, and that of the last `out` line by what
-- they say with it.

abbrev pub head_wrong : Basin → Month → ℕ → Bool
head_wrong b first months = not (is_same_month first b.first && months == b.months)

abbrev pub amount_wrong : Option ℕ → List ℕ → ℕ → ℕ → Bool
amount_wrong None flow amount want = nat_lt want amount
amount_wrong (Some link) flow amount want = not (amount == min want (slice_index flow link))

abbrev pub delivery_wrong : Basin → Series → ReadSoFar → ℕ → ℕ → ℕ → Bool
delivery_wrong b series t r amount want =
    not (want == want_of b series r t.now.index (slice_index t.now.used r))
    || amount_wrong (instream_link b r) t.now.plan.flow amount want

-- whether a node is in balance
abbrev pub balances : Basin → MonthRecord → ℕ → Bool
balances b m n = coming_to b m.supply m.plan n == going_from b m.plan n

-- whether some node isn't in balance at the last `out` line, with its amount
abbrev pub balance_wrong : Basin → Series → ReadSoFar → ℕ → Bool
balance_wrong b series with_line n =
    list_all (λ other. nat_le other n) (outlets b)
    && list_any (λ node. not (balances b (with_supply b series with_line.now) node)) (indices_of b.nodes)

-- whether the amount of an entry is wrong
abbrev pub quantity_wrong : Basin → Series → ReadSoFar → Quantity → ℕ → ℕ → Bool
quantity_wrong b series t quantity.Opening v amount = not (amount == slice_index (opening_after b t.months) v)
quantity_wrong b series t quantity.Evaporated v amount =
    not (amount == of_entry b.reservoirs v
    (λ r. evaporation r.area (slice_index t.now.opening v) (slice_index r.rate (in_year b t.now.index))) 0)
quantity_wrong b series t quantity.Returned n amount =
    not (amount == returned_at b (map (λ m. m.delivered) t.months) n t.now.index)
quantity_wrong b series t quantity.Used r amount =
    not (amount == used_of b (map (λ m. m.delivered) t.months) r t.now.index)
quantity_wrong b series t quantity.Flow e amount = nat_lt (carry_of b t.now.month e) amount
quantity_wrong b series t quantity.Outflow n amount =
    balance_wrong b series (read_item b series t (line.Amount quantity.Outflow n amount)) n
quantity_wrong b series t quantity.Closing v amount =
    not (amount == total_where (length b.rights) (λ r. is_zone_of b r v) (λ r. slice_index t.now.plan.take r))

-- what it is refuted for
abbrev pub kind_of : Quantity → RefutedKind
kind_of quantity.Opening = kind.Opening
kind_of quantity.Evaporated = kind.Evaporation
kind_of quantity.Returned = kind.Return
kind_of quantity.Used = kind.Used
kind_of quantity.Flow = kind.Flow
kind_of quantity.Outflow = kind.Balance
kind_of quantity.Closing = kind.Closing

abbrev pub Row : Type 0
Row = RefutedKind × Bool

-- the row of a line's own kind, if it has one
abbrev pub own_rows : Basin → Series → ReadSoFar → Item → List Row
own_rows b series t (line.Run first months) = (kind.Head, head_wrong b first months) ∷ []
own_rows b series t (line.Amount q entry amount) = (kind_of q, quantity_wrong b series t q entry amount) ∷ []
own_rows b series t (line.Deliver r amount want) = (kind.Delivery, delivery_wrong b series t r amount want) ∷ []
own_rows b series t other = []

-- the rows of the calls, which hold of any line
abbrev pub call_rows : Basin → Series → ReadSoFar → Item → List Row
call_rows b series t item =
    (kind.CutLoose, cut_loose b series t item) ∷ (kind.CutMissing, cut_missing b t item)
    ∷ (kind.CutNeedless, cut_needless t item) ∷ (kind.Called, called_wrong b t item) ∷ []

-- the rows in their order
abbrev pub rows : Basin → Series → ReadSoFar → Item → List Row
rows b series t item = call_rows b series t item ++ own_rows b series t item

-- the first row that holds of a line, by what the lines before it say
unfoldable pub first_row : Basin → Series → ReadSoFar → Item → Option RefutedKind
first_row b series t item = option_map (λ row. row.0) (find (λ row. row.1) (rows b series t item))

-- how many lines stand after the last `call`
abbrev pub members_first : List Item → ℕ
members_first [] = 0
members_first (item ∷ items) = if is_member item then members_first items + 1 else 0

-- the line that a row names: for a loose cut its `call` line, and else this line
abbrev pub named_line : List Item → RefutedKind → ℕ
named_line before kind.CutLoose = length before - members_first (reverse before)
named_line before other = length before + 1

-- whether a line is the last
abbrev pub is_done : Item → Bool
is_done (line.Done months) = true
is_done other = false

abbrev pub is_whole : List Item → Bool
is_whole items = list_any is_done items

-- what a line is refuted for after others, or the item that it says
abbrev pub judge_row : List Item → Item → Option RefutedKind → Result Item Refuted
judge_row before item None = Ok item
judge_row before item (Some kind) = Err (record { line = named_line before kind; kind = kind })

abbrev pub judge_read : {E : Type 0} → Basin → Series → List Item → Result Item E → Result Item Refuted
judge_read b series before (Ok item) = judge_row before item (first_row b series (read_so_far b series before) item)
judge_read b series before (Err why) = Err (record { line = length before + 1; kind = kind.BadLine })

unfoldable pub judge : Basin → Series → List Item → List ℕ → Result Item Refuted
judge b series before bytes =
    if is_whole before then Err (record { line = length before + 1; kind = kind.AfterEnd })
    else judge_read b series before (read_line b before bytes)

-- what f makes of a good answer
abbrev pub ok_then : {X Y : Type 0} → (X → Result Y Refuted) → Result X Refuted → Result Y Refuted
ok_then f (Ok x) = f x
ok_then f (Err e) = Err e

-- the verdict on the lines after some that are good: the items of all, or the first line at fault with its first row
abbrev pub verdict_from : Basin → Series → List Item → List (List ℕ) → Result (List Item) Refuted
verdict_from b series before [] = Ok before
verdict_from b series before (bytes ∷ lines) =
    ok_then (λ item. verdict_from b series (before ++ item ∷ []) lines) (judge b series before bytes)

-- the verdict at the end of a text whose lines are good. The rest is what stands after the last line feed
abbrev pub verdict_at_end : List ℕ → List Item → Result (List Item) Refuted
verdict_at_end [] items =
    if is_whole items then Ok items else Err (record { line = length items + 1; kind = kind.EarlyEnd })
verdict_at_end rest items =
    Err (record { line = length items + 1; kind = if is_whole items then kind.AfterEnd else kind.EarlyEnd })

-- the verdict on a text: its lines, and its rest
abbrev pub verdict : Basin → Series → List (List ℕ) → List ℕ → Result (List Item) Refuted
verdict b series lines rest = ok_then (verdict_at_end rest) (verdict_from b series [] lines)
