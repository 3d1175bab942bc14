-- What the tests of a line look at.
use Rattle.std.specs.Prelude.{if◌then◌else◌, ◌≡◌, ℕ, ◌+◌, ◌≤◌, ◌==◌, Bool, true, false, not, List, length}
use Rattle.std.specs.Prelude.{slice_index, Some}
use Rattle.finite_sums.specs.Sums.{total_where}
use Rattle.water_model.specs.Basin.{head_of, tail_of}
use Rattle.water_model.specs.Plans.{inflow_to, outflow_from, taken_at}
use Rattle.result_lines.specs.declared.item.Item.{Item}
use Rattle.result_lines.specs.declared.item.Item.TheVariants as line
use Rattle.result_lines.specs.declared.quantity.Quantity.{Quantity}
use Rattle.result_lines.specs.declared.quantity.Quantity.TheVariants as quantity
use Rattle.water_model.specs.declared.types.Basin.{Basin}
use Rattle.water_model.specs.declared.types.MonthRecord.{MonthRecord}
use Rattle.result_reader.specs.Due.{is_member}
use Rattle.cert_check.specs.Checking.{is_after_calls, is_closing}
use Rattle.cert_check.specs.declared.state.CheckState.{CheckState}
use Rattle.cert_check.specs.declared.state.Context.{Context}

-- the node that a link flows to, or else the one that it flows from
abbrev pub end_at : Basin → Bool → ℕ → ℕ
end_at b to e = if to then head_of b e else tail_of b e

-- what flows to a node on links, or else what flows from it
abbrev pub flow_at : Basin → Bool → List ℕ → ℕ → ℕ
flow_at b to flow n = total_where (length b.links) (λ e. end_at b to e == n) (λ e. slice_index flow e)

-- what comes into each node of a month, and what leaves it for another node or a right
pub record AreSums (b : Basin) (m : MonthRecord) (into out_of : List ℕ) : Type 0 where
  pub comes : (n : ℕ) → slice_index into n ≡ slice_index m.supply n + inflow_to b m.plan.flow n
  pub leaves : (n : ℕ) → slice_index out_of n ≡ outflow_from b m.plan.flow n + taken_at b m.plan.take n

-- a check state has the supply that was read, and the sums of it
pub record HasSums (b : Basin) (a : CheckState) : Type 0 where
  pub supply : a.has_supply ≡ true
  pub sums : AreSums b a.month a.into a.out_of

-- it has the supply, where a line ends the nodes of a set
abbrev pub IsReadyForSet : CheckState → Item → Type 0
IsReadyForSet a item = is_member item ≡ false → (r : ℕ) → a.calling ≡ Some r → a.has_supply ≡ true

-- it has the sums of the nodes at the last outlet, and those of the zones at what a month closes with
abbrev pub IsReadyForAmount : Context → CheckState → Quantity → ℕ → Type 0
IsReadyForAmount m a quantity.Outflow n = m.last_outlet ≤ n → HasSums m.basin.now a
IsReadyForAmount m a quantity.Closing v = a.has_closes ≡ true
IsReadyForAmount m a other entry = Unit {0}

abbrev pub IsReadyForOwn : Context → CheckState → Item → Type 0
IsReadyForOwn m a (line.Amount q entry amount) = IsReadyForAmount m a q entry
IsReadyForOwn m a other = Unit {0}

-- whether a line stands before the `call` lines of a month and gives an amount or a delivery
abbrev pub is_before_calls : Item → Bool
is_before_calls (line.Amount q entry amount) = not (is_closing q)
is_before_calls (line.Deliver r amount want) = true
is_before_calls other = false

-- it has the callers, where a line stands after the `call` lines
abbrev pub IsReadyForCalled : CheckState → Item → Type 0
IsReadyForCalled a item = is_after_calls item ≡ true → a.has_callers ≡ true

pub record IsReadyForLine (m : Context) (a : CheckState) (item : Item) : Type 0 where
  pub set : IsReadyForSet a item
  pub callers : IsReadyForCalled a item
  pub own : IsReadyForOwn m a item
