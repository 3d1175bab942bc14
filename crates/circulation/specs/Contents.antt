-- What a circulation holds, as contracts see it.
use Rattle.std.specs.Prelude.{ℕ, ◌≡◌, ◌+◌, ◌-◌, ◌*◌, ◌^◌, ◌<◌, ◌≤◌, List, ◌++◌, length, slice_index, slice_set, max}
use Rattle.std.specs.Prelude.{replicate}
use Rattle.circulation.specs.Network.{Network, IsFlow, HasEnds}
use Rattle.circulation.specs.Rows.{Rows, AreRows}

-- ends, bounds and flow by arc, supplies by node, words that a search may use, and the steps that leave each node
pub record Contents : Type 0 where
  pub nodes : ℕ
  pub from : List ℕ
  pub to : List ℕ
  pub supply : List ℕ
  pub lower : List ℕ
  pub upper : List ℕ
  pub flow : List ℕ
  pub scratch : List ℕ
  pub rows : Rows

-- how many arcs there are
abbrev pub arcs : Contents → ℕ
arcs c = length c.from

-- its network
abbrev pub network : Contents → Network
network c = record {
  nodes = c.nodes;
  arcs = length c.from;
  from = λ a. slice_index c.from a;
  to = λ a. slice_index c.to a;
  supply = λ v. slice_index c.supply v;
  lower = λ a. slice_index c.lower a;
  upper = λ a. slice_index c.upper a;
}

-- the flow on an arc
abbrev pub flow_of : Contents → ℕ → ℕ
flow_of c a = slice_index c.flow a

-- the lists have their lengths
pub record HasShape (c : Contents) : Type 0 where
  pub bounded_nodes : c.nodes < 2 ^ 32
  pub bounded_arcs : length c.from < 2 ^ 32
  pub to : length c.to ≡ length c.from
  pub supply : length c.supply ≡ c.nodes
  pub lower : length c.lower ≡ length c.from
  pub upper : length c.upper ≡ length c.from
  pub flow : length c.flow ≡ length c.from
  pub scratch : length c.scratch ≡ 4 * c.nodes + 8
  pub small : (a : ℕ) → a < length c.from → slice_index c.upper a ≤ 10 ^ 15

-- the contents are a network with a flow
pub record IsCirculation (c : Contents) : Type 0 where
  pub shape : HasShape c
  pub ends : HasEnds (network c)
  pub flow : IsFlow (network c) (flow_of c)
  pub rows : AreRows c.nodes c.from c.to c.rows

-- the scratch word at an index, which may be a step of a walk
abbrev pub step_of : Contents → ℕ → ℕ
step_of c i = slice_index c.scratch i

-- only scratch words changed
abbrev pub SameButScratch : Contents → Contents → Type 0
SameButScratch old new = new ≡ record old { scratch = new.scratch }

-- only the flow and scratch words changed
abbrev pub SameButFlow : Contents → Contents → Type 0
SameButFlow old new = new ≡ record old { flow = new.flow; scratch = new.scratch }

-- no supply, no room and no flow
abbrev pub empty_contents : ℕ → List ℕ → List ℕ → Rows → Contents
empty_contents nodes from to rows = record {
  nodes = nodes;
  from = from;
  to = to;
  supply = replicate nodes 0;
  lower = replicate (length from) 0;
  upper = replicate (length from) 0;
  flow = replicate (length from) 0;
  scratch = replicate (4 * nodes + 8) 0;
  rows = rows;
}

-- the contents with an amount held on an arc, which raises its lower bound if it is greater
abbrev pub held_contents : Contents → ℕ → ℕ → Contents
held_contents c arc amount = record c { lower = slice_set c.lower arc (max (slice_index c.lower arc) amount) }

-- the contents with another upper bound of an arc
abbrev pub bounded_contents : Contents → ℕ → ℕ → Contents
bounded_contents c arc most = record c { upper = slice_set c.upper arc most }

-- the contents at the start of a month: no arc is held
abbrev pub month_contents : Contents → List ℕ → List ℕ → List ℕ → Contents
month_contents c supply upper start = record c {
  supply = supply;
  lower = replicate (length c.from) 0;
  upper = upper;
  flow = start;
}

-- the amounts of the last arcs, with nothing on those before them
abbrev pub on_last : ℕ → List ℕ → List ℕ
on_last arcs amounts = replicate (arcs - length amounts) 0 ++ amounts

-- what a month may start with: uppers of at most 10^15, and a flow that keeps them and balances the supplies
pub record IsStart (c : Contents) (supply upper start : List ℕ) : Type 0 where
  pub supplies : length supply ≡ c.nodes
  pub uppers : length upper ≡ arcs c
  pub amounts : length start ≡ arcs c
  pub small : (a : ℕ) → a < arcs c → slice_index upper a ≤ 10 ^ 15
  pub flow : IsFlow (network (month_contents c supply upper start)) (slice_index start)
