-- What comes into a set of nodes goes out of it.
use Rattle.std.proofs.Common.{◌≡◌, ℕ, ◌+◌, ◌<◌, Bool, arith, List, length}
use Rattle.std.specs.Prelude.{◌==◌, slice_index}
use Rattle.finite_sums.specs.Sums.{total_where}
use Rattle.water_model.specs.Lookups.{has}
use Rattle.water_model.specs.Basin.{head_of, tail_of, takes_at, taking_node}
use Rattle.water_model.specs.Plans.{IsFeasible, inflow_to, outflow_from, taken_at}
use Rattle.water_model.specs.Cuts.{carry_into, supply_within, leaves, takes_within}
use Rattle.water_model.specs.declared.types.Basin.{Basin}
use Rattle.water_model.specs.declared.types.Plan.{Plan}
use Rattle.water_model.proofs.Sets.{grouped, at_index, at_some_index, total_where_add, total_where_same, total_crossing}
use Rattle.water_model.proofs.Sets.{total_swap}

-- where at each node what is added and flows in flows out or is taken, so it is over a set of nodes
pub set_balance : (b : Basin) (flow : List ℕ) (added taken : ℕ → ℕ) (set : List Bool) → length set ≡ length b.nodes →
    ((n : ℕ) → n < length b.nodes → added n + inflow_to b flow n ≡ outflow_from b flow n + taken n) →
    total_where (length b.nodes) (λ n. has set n) added + carry_into b (slice_index flow) set
    ≡ total_where (length b.links) (λ e. leaves b set e) (λ e. slice_index flow e)
    + total_where (length b.nodes) (λ n. has set n) taken
set_balance b flow added taken set len each =
    let nodes : ℕ = length b.nodes in
    let links : ℕ = length b.links in
    let f : ℕ → ℕ = λ e. slice_index flow e in
    let y : ℕ → Bool = λ n. has set n in
    let h : ℕ → Bool = λ e. has set (head_of b e) in
    let t : ℕ → Bool = λ e. has set (tail_of b e) in
    omega (
      arith,
      total_where_same nodes y (λ n. added n + inflow_to b flow n) (λ n. outflow_from b flow n + taken n) each,
      total_where_add nodes y added (inflow_to b flow),
      total_where_add nodes y (outflow_from b flow) taken,
      grouped nodes links y (λ e n. head_of b e == n) h f (λ e x. at_index nodes set len (head_of b e) x),
      grouped nodes links y (λ e n. tail_of b e == n) t f (λ e x. at_index nodes set len (tail_of b e) x),
      total_crossing links h t f,
      total_crossing links t h f,
      total_swap links h t f,
    )

pub cut_balance : (b : Basin) (carry : ℕ → ℕ) (supply want : List ℕ) (p : Plan) (cut : List Bool) →
    IsFeasible b carry supply want p → length cut ≡ length b.nodes →
    supply_within b supply cut + carry_into b (slice_index p.flow) cut
    ≡ total_where (length b.links) (λ e. leaves b cut e) (λ e. slice_index p.flow e)
    + total_where (length b.rights) (λ r. takes_within b cut r) (λ r. slice_index p.take r)
    + supply_within b p.out cut
cut_balance b carry supply want p cut plan len =
    omega (
      arith,
      set_balance b p.flow (slice_index supply) (λ n. taken_at b p.take n + slice_index p.out n) cut len
          (λ n l. omega (arith, plan.balance n l)),
      total_where_add (length b.nodes) (λ n. has cut n) (taken_at b p.take) (slice_index p.out),
      grouped (length b.nodes) (length b.rights) (λ n. has cut n) (λ r n. takes_at b r n) (λ r. takes_within b cut r)
          (λ r. slice_index p.take r) (λ r x. at_some_index (length b.nodes) cut len (taking_node b r) x),
    )
