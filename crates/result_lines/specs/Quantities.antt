-- The quantities of a month's record: what each is of, its list, and its word.
use Rattle.std.specs.Prelude.{◌≡◌, ℕ, ◌<◌, ◌≤◌, ◌==◌, Bool, true, false, List, codes, filter, is_some, length}
use Rattle.std.specs.List.{list_any}
use Rattle.water_model.specs.Basin.{is_outlet}
use Rattle.water_model.specs.Entries.{in_order}
use Rattle.water_model.specs.Lookups.{has, of_entry}
use Rattle.result_lines.specs.declared.quantity.Quantity.{Quantity}
use Rattle.result_lines.specs.declared.quantity.Quantity.TheVariants as quantity
use Rattle.water_model.specs.declared.space.Space.{Space}
use Rattle.water_model.specs.declared.space.Space.TheVariants as space
use Rattle.water_model.specs.declared.types.Basin.{Basin}
use Rattle.water_model.specs.declared.types.MonthRecord.{MonthRecord}

-- the entries that have an amount of it
abbrev pub space_of : Quantity → Space
space_of quantity.Opening = space.Reservoirs
space_of quantity.Evaporated = space.Reservoirs
space_of quantity.Returned = space.Nodes
space_of quantity.Used = space.Rights
space_of quantity.Flow = space.Links
space_of quantity.Outflow = space.Nodes
space_of quantity.Closing = space.Reservoirs

-- the word that its lines begin with
abbrev pub amount_word : Quantity → List ℕ
amount_word quantity.Opening = codes "open"
amount_word quantity.Evaporated = codes "evap"
amount_word quantity.Returned = codes "return"
amount_word quantity.Used = codes "used"
amount_word quantity.Flow = codes "flow"
amount_word quantity.Outflow = codes "out"
amount_word quantity.Closing = codes "close"

-- the record's list of its amounts, one for each entry
abbrev pub amounts_of : Quantity → MonthRecord → List ℕ
amounts_of quantity.Opening m = m.opening
amounts_of quantity.Evaporated m = m.evaporated
amounts_of quantity.Returned m = m.returned
amounts_of quantity.Used m = m.used
amounts_of quantity.Flow m = m.plan.flow
amounts_of quantity.Outflow m = m.plan.out
amounts_of quantity.Closing m = m.closing

-- the record with another list of its amounts
abbrev pub with_amounts : Quantity → MonthRecord → List ℕ → MonthRecord
with_amounts quantity.Opening m amounts = record m { opening = amounts }
with_amounts quantity.Evaporated m amounts = record m { evaporated = amounts }
with_amounts quantity.Returned m amounts = record m { returned = amounts }
with_amounts quantity.Used m amounts = record m { used = amounts }
with_amounts quantity.Flow m amounts = record m { plan = record m.plan { flow = amounts } }
with_amounts quantity.Outflow m amounts = record m { plan = record m.plan { out = amounts } }
with_amounts quantity.Closing m amounts = record m { closing = amounts }

-- whether a month has a line for an entry: of returns for the nodes that some return row names, of use for the rights
-- with a volume, of outflows for the outlets, and of all else for each entry
abbrev pub has_line : Basin → Quantity → ℕ → Bool
has_line b quantity.Opening v = true
has_line b quantity.Evaporated v = true
has_line b quantity.Returned n = list_any (λ row. row.node == n) b.returns
has_line b quantity.Used r = of_entry b.rights r (λ right. is_some right.volume) false
has_line b quantity.Flow e = true
has_line b quantity.Outflow n = is_outlet b n
has_line b quantity.Closing v = true

-- the entries with a line, in the order of their lines
abbrev pub entries_with_line : Basin → Quantity → List ℕ
entries_with_line b q = filter (λ entry. has_line b q entry) (in_order (space_of q) b)

-- for each node, whether some return row names it. The list may go on after the nodes
pub record AreReturnedTo (b : Basin) (marks : List Bool) : Type 0 where
  pub enough : length b.nodes ≤ length marks
  pub each : (n : ℕ) → n < length b.nodes → has marks n ≡ list_any (λ row. row.node == n) b.returns
