-- Laws over the definitions.
use Rattle.std.specs.Prelude.{◌↔◌, ℕ, ◌<◌, Bool, List, length}
use Rattle.water_model.specs.Cuts.{IsCut, IsTight, IsReach}
use Rattle.water_model.specs.History.{IsShort}
use Rattle.water_model.specs.declared.types.Basin.{Basin}
use Rattle.water_model.specs.declared.types.MonthRecord.{MonthRecord}
use Rattle.plan_residual.specs.Residual.{HasPlan, IsClosed, AreReached}
use Rattle.plan_residual.specs.Slack.{HasNoSlack, others}

-- A cut of a short right is tight exactly where it leaves no slack.
abbrev pub TightMeansNoSlack : Type 0
TightMeansNoSlack =
    (b : Basin) (m : MonthRecord) (right : ℕ) (cut : List Bool) → HasPlan b m → right < length b.rights →
    IsShort m right → IsTight b m.month m.supply m.delivered right cut
    ↔ (IsCut b right cut × HasNoSlack b m right cut)

-- All nodes outside a tight cut are a closed set, so a tight cut holds no node that is reached.
abbrev pub TightCutsHoldNoneReached : Type 0
TightCutsHoldNoneReached =
    (b : Basin) (m : MonthRecord) (right : ℕ) (cut : List Bool) → HasPlan b m → right < length b.rights →
    IsShort m right → IsTight b m.month m.supply m.delivered right cut → IsClosed b m right (others cut)

-- What a closed set leaves is a tight cut, if it is a cut.
abbrev pub ClosedSetsLeaveTightCuts : Type 0
ClosedSetsLeaveTightCuts =
    (b : Basin) (m : MonthRecord) (right : ℕ) (set : List Bool) → HasPlan b m → right < length b.rights →
    IsShort m right → IsClosed b m right set → IsCut b right (others set) →
    IsTight b m.month m.supply m.delivered right (others set)

-- Where a short right has a tight cut, the nodes that are not reached are its reach.
abbrev pub NodesNotReachedAreTheReach : Type 0
NodesNotReachedAreTheReach =
    (b : Basin) (m : MonthRecord) (right : ℕ) (set cut : List Bool) → HasPlan b m → right < length b.rights →
    IsShort m right → IsTight b m.month m.supply m.delivered right cut → AreReached b m right set →
    IsReach b m.month m.supply m.delivered right (others set)
