-- The residual network of a month's plan as seen from a right: how the month's water could be moved without taking
-- anything from the right's seniors (Ahuja, Magnanti and Orlin, Network Flows, section 2.4). Step 2 * e goes over link
-- e forward, to raise its flow, and step 2 * e + 1 backward, to lower it.
use Rattle.std.specs.Prelude.{◌≡◌, ℕ, ◌+◌, ◌-◌, ◌/◌, ◌%◌, ◌<◌, Bool, not, ◌&&◌, ◌==◌, List, length, slice_index, nat_lt}
use Rattle.std.specs.Prelude.{Some, IsTrue, if◌then◌else◌}
use Rattle.water_text.specs.Months.{IsMonth}
use Rattle.water_model.specs.Lookups.{has}
use Rattle.water_model.specs.Basin.{tail_of, head_of, is_on_link, instream_link, is_senior}
use Rattle.water_model.specs.Plans.{IsPlan, carry_of}
use Rattle.water_model.specs.Cuts.{kept_on, takes_within}
use Rattle.water_model.specs.History.{FitsBasin}
use Rattle.duality.specs.Laws.{AreDeliveries}
use Rattle.water_model.specs.Valid.{IsValidBasin}
use Rattle.water_model.specs.declared.types.Basin.{Basin}
use Rattle.water_model.specs.declared.types.MonthRecord.{MonthRecord}

-- a record of a month of a valid basin with a plan of that month, and with what it delivers
pub record HasPlan (b : Basin) (m : MonthRecord) : Type 0 where
  pub valid : IsValidBasin b
  pub month : IsMonth m.month
  pub fits : FitsBasin b m
  pub plan : IsPlan b m.month m.supply m.want m.plan
  pub delivered : AreDeliveries b m.want m.plan m.delivered

-- the link that a step goes over, and whether it goes backward
abbrev pub link_of : ℕ → ℕ
link_of step = step / 2

abbrev pub is_back : ℕ → Bool
is_back step = step % 2 == 1

-- the node that a step leaves, and the one that it enters
abbrev pub start_of : Basin → ℕ → ℕ
start_of b step = if is_back step then head_of b (link_of step) else tail_of b (link_of step)

abbrev pub end_of : Basin → ℕ → ℕ
end_of b step = if is_back step then tail_of b (link_of step) else head_of b (link_of step)

-- the step over the same link the other way
abbrev pub opposite : ℕ → ℕ
opposite step = if is_back step then step - 1 else step + 1

-- whether a link carries less than it can
abbrev pub can_rise : Basin → MonthRecord → ℕ → Bool
can_rise b m link = nat_lt (slice_index m.plan.flow link) (carry_of b m.month link)

-- whether a link, other than the right's own, carries more than is kept on it for the right's seniors
abbrev pub can_fall : Basin → MonthRecord → ℕ → ℕ → Bool
can_fall b m right link =
    not (is_on_link b right link) && nat_lt (kept_on b m.delivered right link) (slice_index m.plan.flow link)

-- whether a step has room
abbrev pub has_room : Basin → MonthRecord → ℕ → ℕ → Bool
has_room b m right step =
    if is_back step then can_fall b m right (link_of step) else can_rise b m (link_of step)

-- A set of nodes is closed if no step with room leads out of it, and it has each node from which the right could have
-- water without a step: where an outlet lets water out or a junior takes, and where the right's own link ends.
pub record IsClosed (b : Basin) (m : MonthRecord) (right : ℕ) (set : List Bool) : Type 0 where
  pub outlets : (n : ℕ) → n < length b.nodes → 0 < slice_index m.plan.out n → IsTrue (has set n)
  pub juniors : (s : ℕ) → s < length b.rights → IsTrue (is_senior b right s) → 0 < slice_index m.plan.take s →
      IsTrue (takes_within b set s)
  pub own : (e : ℕ) → e < length b.links → instream_link b right ≡ Some e → IsTrue (has set (head_of b e))
  pub forward : (e : ℕ) → e < length b.links → IsTrue (can_rise b m e) → IsTrue (has set (tail_of b e)) →
      IsTrue (has set (head_of b e))
  pub backward : (e : ℕ) → e < length b.links → IsTrue (can_fall b m right e) → IsTrue (has set (head_of b e)) →
      IsTrue (has set (tail_of b e))

-- the nodes that are reached: the closed set that is within every closed set
pub record AreReached (b : Basin) (m : MonthRecord) (right : ℕ) (set : List Bool) : Type 0 where
  pub one_each : length set ≡ length b.nodes
  pub closed : IsClosed b m right set
  pub least : (other : List Bool) → IsClosed b m right other → (n : ℕ) → IsTrue (has set n) → IsTrue (has other n)
