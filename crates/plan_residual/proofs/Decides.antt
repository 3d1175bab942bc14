-- A tight cut is the reach exactly where every node outside it is reached.
use Rattle.std.proofs.Common.{ℕ, ◌<◌, Bool, true, false, refl, arith, List, length, inl, inr}
use Rattle.std.proofs.lemmas.Bool.{both_ways, false≢true}
use Rattle.std.specs.Prelude.{◌↔◌, IsTrue}
use Rattle.water_model.specs.Lookups.{has}
use Rattle.water_model.specs.Cuts.{IsTight, IsReach}
use Rattle.water_model.specs.History.{IsShort}
use Rattle.water_model.specs.declared.types.Basin.{Basin}
use Rattle.water_model.specs.declared.types.MonthRecord.{MonthRecord}
use Rattle.water_model.proofs.Sets.{has_below}
use Rattle.plan_residual.specs.Residual.{HasPlan, AreReached}
use Rattle.plan_residual.specs.Search.{Covers}
use Rattle.plan_residual.specs.Slack.{others}
use Rattle.plan_residual.proofs.Closed.{in_others, not_in_set, tight_within, nodes_not_reached_are_the_reach}

pub reach_decided : (b : Basin) (m : MonthRecord) (r : ℕ) (seen cut : List Bool) (result : Bool) → HasPlan b m →
    r < length b.rights → IsShort m r → IsTight b m.month m.supply m.delivered r cut → AreReached b m r seen →
    Covers result seen cut (length b.nodes) → IsTrue result ↔ IsReach b m.month m.supply m.delivered r cut
reach_decided b m r seen cut true given l short tight reached covers = (
  (λ yes. record {
    is_tight = tight;
    contains = λ other is n h.
        (let below = has_below other n h in let len = is.is_cut.one_each in
        elim (covers n (omega arith)) [
          | inl saw ↦ absurd (both_ways (has seen n)
              (not_in_set seen n (tight_within b m r seen other given l short reached is n h)) saw)
          | inr holds ↦ holds
        ]);
  }),
  λ reach. refl,
)
reach_decided b m r seen cut false given l short tight reached covers = (
  (λ no. absurd (false≢true no)),
  λ reach. absurd (both_ways (has cut covers.0) covers.3
      (reach.contains (others seen) (nodes_not_reached_are_the_reach b m r seen cut given l short tight
      reached).is_tight
      covers.0 (in_others seen covers.0 (let below = covers.1 in let len = reached.one_each in omega arith) covers.2))),
)
