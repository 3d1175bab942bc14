-- A month's plan as a flow in the basin's network, and what it delivers.
use Rattle.std.specs.Prelude.{◌≡◌, ℕ, ◌+◌, ◌-◌, ◌*◌, ◌<◌, ◌≤◌, ◌^◌, min, false, List, length, slice_index, slice_get}
use Rattle.std.specs.Prelude.{Option, Some, None, IsTrue, ◌==◌, unwrap_or, if◌then◌else◌, ◌⊎◌}
use Rattle.finite_sums.specs.Sums.{total_where}
use Rattle.water_model.specs.Lookups.{of_entry}
use Rattle.water_model.specs.Basin.{tail_of, head_of, is_outlet, takes_at, taking_node, instream_link, is_senior}
use Rattle.water_text.specs.Months.{days_of}
use Rattle.water_text.specs.declared.month.Month.{Month}
use Rattle.water_model.specs.declared.types.Basin.{Basin}
use Rattle.water_model.specs.declared.types.Carry.{Carry}
use Rattle.water_model.specs.declared.types.Carry.TheVariants.{River, Canal}
use Rattle.water_model.specs.declared.types.Plan.{Plan}

-- the most that a link carries in a month
abbrev pub carry_of_kind : Carry → Month → ℕ
carry_of_kind River month = 10 ^ 15
carry_of_kind (Canal per_day shut) month =
    if unwrap_or (slice_get shut (month.month - 1)) false then 0 else per_day * days_of month

abbrev pub carry_of : Basin → Month → ℕ → ℕ
carry_of b month link = of_entry b.links link (λ l. carry_of_kind l.carry month) 0

-- the sum of the flows on the links that enter a node, and on those that leave it
abbrev pub inflow_to : Basin → List ℕ → ℕ → ℕ
inflow_to b flow node = total_where (length b.links) (λ e. head_of b e == node) (λ e. slice_index flow e)

abbrev pub outflow_from : Basin → List ℕ → ℕ → ℕ
outflow_from b flow node = total_where (length b.links) (λ e. tail_of b e == node) (λ e. slice_index flow e)

-- what diversions and zones take at a node
abbrev pub taken_at : Basin → List ℕ → ℕ → ℕ
taken_at b take node = total_where (length b.rights) (λ r. takes_at b r node) (λ r. slice_index take r)

-- what comes to a node, its supply and what flows in; and what goes from it: what flows on, is taken or leaves the basin
abbrev pub coming_to : Basin → List ℕ → Plan → ℕ → ℕ
coming_to b supply p node = slice_index supply node + inflow_to b p.flow node

abbrev pub going_from : Basin → Plan → ℕ → ℕ
going_from b p node = outflow_from b p.flow node + taken_at b p.take node + slice_index p.out node

-- a flow in the network that keeps these carries and wants
pub record IsFeasible (b : Basin) (carry : ℕ → ℕ) (supply want : List ℕ) (p : Plan) : Type 0 where
  pub flow_len : length p.flow ≡ length b.links
  pub take_len : length p.take ≡ length b.rights
  pub out_len : length p.out ≡ length b.nodes
  pub carries : (e : ℕ) → e < length b.links → slice_index p.flow e ≤ carry e
  pub wants : (r : ℕ) → r < length b.rights → slice_index p.take r ≤ slice_index want r
  pub instream : (r : ℕ) → r < length b.rights → taking_node b r ≡ None → slice_index p.take r ≡ 0
  pub outlets : (n : ℕ) → n < length b.nodes → is_outlet b n ≡ false → slice_index p.out n ≡ 0
  pub balance : (n : ℕ) → n < length b.nodes → coming_to b supply p n ≡ going_from b p n

-- a plan of the month: one that keeps the month's carries
abbrev pub IsPlan : Basin → Month → List ℕ → List ℕ → Plan → Type 0
IsPlan b month supply want p = IsFeasible b (carry_of b month) supply want p

-- what a plan delivers to a right: its take, or of an instream right the flow that is wanted
abbrev pub delivery_by_link : Option ℕ → ℕ → Plan → ℕ → ℕ
delivery_by_link None want p right = slice_index p.take right
delivery_by_link (Some link) want p right = min want (slice_index p.flow link)

abbrev pub delivery : Basin → List ℕ → Plan → ℕ → ℕ
delivery b want p right = delivery_by_link (instream_link b right) (slice_index want right) p right

-- at the most senior right where the two plans differ, the first delivers more
pub record DeliversMore (b : Basin) (want : List ℕ) (p q : Plan) : Type 0 where
  pub right : ℕ
  pub in_range : right < length b.rights
  pub more : delivery b want q right < delivery b want p right
  pub same_to_seniors : (s : ℕ) → s < length b.rights → IsTrue (is_senior b s right) →
      delivery b want p s ≡ delivery b want q s

abbrev pub DeliversSame : Basin → List ℕ → Plan → Plan → Type 0
DeliversSame b want p q = (r : ℕ) → r < length b.rights → delivery b want p r ≡ delivery b want q r

-- a feasible plan whose deliveries, in order of seniority, are lexicographically greatest among the feasible ones
pub record IsLexGreatest (b : Basin) (carry : ℕ → ℕ) (supply want : List ℕ) (p : Plan) : Type 0 where
  pub plan : IsFeasible b carry supply want p
  pub greatest : (q : Plan) → IsFeasible b carry supply want q →
      DeliversSame b want p q ⊎ DeliversMore b want p q

-- the same among the plans of the month
abbrev pub IsGreatest : Basin → Month → List ℕ → List ℕ → Plan → Type 0
IsGreatest b month supply want p = IsLexGreatest b (carry_of b month) supply want p
