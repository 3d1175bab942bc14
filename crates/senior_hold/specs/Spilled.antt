-- A month's network with a spill at each node: what it is to the network of a basin, and how its flows become plans.
use Rattle.std.specs.Prelude.{◌≡◌, ℕ, ◌+◌, ◌^◌, ◌<◌, true, List, map, length, slice_index}
use Rattle.finite_sums.specs.Sums.{when}
use Rattle.water_model.specs.Basin.{is_outlet}
use Rattle.water_model.specs.RunOfRiver.{RunsNaturally}
use Rattle.water_model.specs.declared.types.Basin.{Basin}
use Rattle.water_model.specs.declared.types.Node.{Node}
use Rattle.water_model.specs.declared.types.Plan.{Plan}
use Rattle.water_text.specs.declared.month.Month.{Month}
use Rattle.circulation.specs.Contents.{Contents, network, flow_of}
use Rattle.circulation.specs.Network.{IsFlow}
use Rattle.senior_hold.specs.declared.sweep.Method.{Method}
use Rattle.senior_hold.specs.MonthNetwork.{plan_of, arc_count, spill_arc, IsMonthNetwork}

-- the node lets water out
abbrev pub let_out : Node → Node
let_out n = record n { outlet = true }

-- the basin with an outlet at each node
abbrev pub spilled : Basin → Basin
spilled b = record b { nodes = map let_out b.nodes }

-- what a flow spills at each node
abbrev pub spills_of : Basin → (ℕ → ℕ) → List ℕ
spills_of b g = (plan_of (spilled b) g).out

-- what a flow spills runs down the rivers beside it
pub record IsSettledPlan (b : Basin) (g : ℕ → ℕ) (p : Plan) : Type 0 where
  pub run : List ℕ
  pub natural : RunsNaturally b.nodes b.links (spills_of b g) run p.out
  pub flow_len : length p.flow ≡ length b.links
  pub flow : (e : ℕ) → e < length b.links → slice_index p.flow e ≡ g e + slice_index run e
  pub take : p.take ≡ (plan_of b g).take

-- the most that a node may spill: as much as a river carries, by searches at outlets alone
abbrev pub spill_most : Basin → Method → ℕ → ℕ
spill_most b Method.Tree node = 10 ^ 15
spill_most b Method.Searches node = when (is_outlet b node) (10 ^ 15)

abbrev pub SpillsAreOf : Basin → Method → Contents → Type 0
SpillsAreOf b method c = (n : ℕ) → n < length b.nodes → slice_index c.upper (spill_arc b n) ≡ spill_most b method n

-- a month that is begun by a method, with no arc held
pub record IsBegun (b : Basin) (method : Method) (month : Month) (supply want : List ℕ) (c : Contents) : Type 0 where
  pub net : IsMonthNetwork (spilled b) month supply want (network c)
  pub is_flow : IsFlow (network c) (flow_of c)
  pub size : length c.lower ≡ arc_count (spilled b)
  pub free : (a : ℕ) → a < arc_count (spilled b) → slice_index c.lower a ≡ 0
  pub spills : SpillsAreOf b method c

-- all supply is spilled where it comes in
pub record IsSpilledStart (b : Basin) (supply : List ℕ) (c : Contents) : Type 0 where
  pub still : (e : ℕ) → e < length b.links → flow_of c e ≡ 0
  pub all : spills_of b (flow_of c) ≡ supply
