-- Laws over the definitions.
use Rattle.std.specs.Prelude.{◌≡◌, ◌↔◌, ℕ, ◌+◌, ◌<◌, ◌≤◌, ◌^◌, Bool, false, List, length, slice_index, slice_get, Some}
use Rattle.std.specs.Prelude.{IsTrue, ◌⊎◌}
use Rattle.finite_sums.specs.Sums.{total}
use Rattle.water_model.specs.Lookups.{has}
use Rattle.water_model.specs.Basin.{tail_of, head_of, instream_link, taking_node, is_senior}
use Rattle.water_model.specs.Plans.{IsPlan, IsFeasible, IsGreatest, carry_of, delivery}
use Rattle.water_model.specs.Cuts.{IsTight, IsReach, enters}
use Rattle.water_model.specs.History.{IsShort, IsPartialHistory, calls}
use Rattle.duality.specs.Laws.{ServesSeniors, AreDeliveries}
use Rattle.water_model.specs.Valid.{IsValidBasin, IsSeriesOf}
use Rattle.water_text.specs.declared.month.Month.{Month}
use Rattle.water_model.specs.declared.types.Basin.{Basin}
use Rattle.water_model.specs.declared.types.Series.{Series}
use Rattle.water_model.specs.declared.types.MonthRecord.{MonthRecord}
use Rattle.water_model.specs.declared.types.Plan.{Plan}
use Rattle.plan_residual.specs.Residual.{HasPlan}
use Rattle.plan_residual.specs.Core.{IsCore}
use Rattle.next_unit.specs.Core.{IsLeastTight, HasRoomDown, one_more, raised_carry}
use Rattle.plan_residual.specs.FirstCores.{IsFirstCoreAt, IsInNoCore}
use Rattle.next_unit.specs.Next.{HelpsRight, IsNextAt, IsFreeAt, GivesOneMore, IsFirstChanged, IsCurtailedFor}

-- Where a short right has a tight cut, its core is a tight cut, and is within every tight cut.
abbrev pub CoreIsLeastTightCut : Type 0
CoreIsLeastTightCut =
    (b : Basin) (m : MonthRecord) (right : ℕ) (core cut : List Bool) → HasPlan b m → right < length b.rights →
    IsShort m right → IsTight b m.month m.supply m.delivered right cut → IsCore b m right core →
    IsLeastTight b m.month m.supply m.delivered right core

-- One more unit of supply outside a tight cut does not help: no plan with it, whatever anyone wants, delivers at least
-- as much to each senior of the right and more to the right.
abbrev pub NothingOutsideTightCutsHelps : Type 0
NothingOutsideTightCutsHelps =
    (b : Basin) (month : Month) (supply delivered : List ℕ) (right : ℕ) (cut : List Bool) (node : ℕ)
    (other_want : List ℕ) (q : Plan) → right < length b.rights → IsTight b month supply delivered right cut →
    has cut node ≡ false → IsPlan b month (one_more supply node) other_want q →
    ServesSeniors b delivered other_want q right → delivery b other_want q right ≤ slice_index delivered right

-- One more unit of supply in the core helps.
abbrev pub SupplyInCoreHelps : Type 0
SupplyInCoreHelps =
    (b : Basin) (m : MonthRecord) (right : ℕ) (core cut : List Bool) (node : ℕ) → HasPlan b m →
    right < length b.rights → IsShort m right → IsTight b m.month m.supply m.delivered right cut →
    HasRoomDown b m right → IsCore b m right core → IsTrue (has core node) →
    HelpsRight b m (one_more m.supply node) right

-- One more unit of supply at a node helps exactly in the core.
abbrev pub SupplyHelpsExactlyInCore : Type 0
SupplyHelpsExactlyInCore =
    (b : Basin) (m : MonthRecord) (right : ℕ) (core cut : List Bool) (node : ℕ) → HasPlan b m →
    right < length b.rights → IsShort m right → IsTight b m.month m.supply m.delivered right cut →
    HasRoomDown b m right → IsCore b m right core →
    HelpsRight b m (one_more m.supply node) right ↔ IsTrue (has core node)

-- One more unit of carry on a link that does not enter a tight cut does not help.
abbrev pub NoCarryPastTightCutsHelps : Type 0
NoCarryPastTightCutsHelps =
    (b : Basin) (month : Month) (supply delivered : List ℕ) (right : ℕ) (cut : List Bool) (link : ℕ)
    (other_want : List ℕ) (q : Plan) → right < length b.rights → IsTight b month supply delivered right cut →
    enters b cut link ≡ false → IsFeasible b (raised_carry b month link) supply other_want q →
    ServesSeniors b delivered other_want q right → delivery b other_want q right ≤ slice_index delivered right

-- with one more unit of carry on a link, a plan that delivers at least as much to each senior of a right, and to the
-- right one more unit
pub record CarryHelpsRight (b : Basin) (m : MonthRecord) (link right : ℕ) : Type 0 where
  pub plan : Plan
  pub is_plan : IsFeasible b (raised_carry b m.month link) m.supply m.want plan
  pub serves : ServesSeniors b m.delivered m.want plan right
  pub more : delivery b m.want plan right ≡ slice_index m.delivered right + 1

-- One more unit of carry helps on a link that leads from outside the reach into the core.
abbrev pub CarryIntoCoreHelps : Type 0
CarryIntoCoreHelps =
    (b : Basin) (m : MonthRecord) (right : ℕ) (core reach : List Bool) (link : ℕ) → HasPlan b m →
    right < length b.rights → IsShort m right → IsReach b m.month m.supply m.delivered right reach →
    HasRoomDown b m right → IsCore b m right core → link < length b.links → has reach (tail_of b link) ≡ false →
    IsTrue (has core (head_of b link)) → CarryHelpsRight b m link right

-- One more unit of carry on a link helps exactly where it leads from outside the reach into the core.
abbrev pub CarryHelpsExactlyIntoCore : Type 0
CarryHelpsExactlyIntoCore =
    (b : Basin) (m : MonthRecord) (right : ℕ) (core reach : List Bool) (link : ℕ) → HasPlan b m →
    right < length b.rights → IsShort m right → IsReach b m.month m.supply m.delivered right reach →
    HasRoomDown b m right → IsCore b m right core → link < length b.links →
    CarryHelpsRight b m link right ↔ ((has reach (tail_of b link) ≡ false) × IsTrue (has core (head_of b link)))

-- Each right has a core.
abbrev pub RightsHaveCores : Type 0
RightsHaveCores =
    (b : Basin) (m : MonthRecord) (right : ℕ) → HasPlan b m → right < length b.rights →
    (core : List Bool) × IsCore b m right core

-- There is room down where the whole supply is less than a river carries, and a short instream right wants no more than
-- its link carries, as in each month of a history.
abbrev pub SmallSupplyLeavesRoom : Type 0
SmallSupplyLeavesRoom =
    (b : Basin) (m : MonthRecord) (right : ℕ) → HasPlan b m → right < length b.rights → IsShort m right →
    total (length b.nodes) (λ n. slice_index m.supply n) < 10 ^ 15 →
    ((e : ℕ) → instream_link b right ≡ Some e → slice_index m.want right ≤ carry_of b m.month e) →
    HasRoomDown b m right

-- In a month of a history: one more unit of supply at a node helps a short right exactly in its core.
abbrev pub HistoriesShowWhereSupplyHelps : Type 0
HistoriesShowWhereSupplyHelps =
    (b : Basin) (series : Series) (records : List MonthRecord) (i : ℕ) (m : MonthRecord) (right : ℕ)
    (core : List Bool) (node : ℕ) → IsValidBasin b → IsSeriesOf b series → IsPartialHistory b series records →
    slice_get records i ≡ Some m → right < length b.rights → IsShort m right → IsCore b m right core →
    HelpsRight b m (one_more m.supply node) right ↔ IsTrue (has core node)

-- And one more unit of carry on a link exactly where it leads from outside the right's reach into its core.
abbrev pub HistoriesShowWhereCarryHelps : Type 0
HistoriesShowWhereCarryHelps =
    (b : Basin) (series : Series) (records : List MonthRecord) (i : ℕ) (m : MonthRecord) (right : ℕ)
    (core reach : List Bool) (link : ℕ) → IsValidBasin b → IsSeriesOf b series → IsPartialHistory b series records →
    slice_get records i ≡ Some m → right < length b.rights → IsShort m right → IsCore b m right core →
    IsReach b m.month m.supply m.delivered right reach → link < length b.links →
    CarryHelpsRight b m link right ↔ ((has reach (tail_of b link) ≡ false) × IsTrue (has core (head_of b link)))

-- In a month of a history, the right whose one more unit of supply at a node would be is exactly the most senior short
-- right whose core holds the node.
abbrev pub NextIsFirstCore : Type 0
NextIsFirstCore =
    (b : Basin) (series : Series) (records : List MonthRecord) (i : ℕ) (m : MonthRecord) (node right : ℕ) →
    IsValidBasin b → IsSeriesOf b series → IsPartialHistory b series records → slice_get records i ≡ Some m →
    IsNextAt b m node right ↔ IsFirstCoreAt b m node right

-- And it would help nobody exactly where no core of a short right holds the node.
abbrev pub FreeIsInNoCore : Type 0
FreeIsInNoCore =
    (b : Basin) (series : Series) (records : List MonthRecord) (i : ℕ) (m : MonthRecord) (node : ℕ) →
    IsValidBasin b → IsSeriesOf b series → IsPartialHistory b series records → slice_get records i ≡ Some m →
    IsFreeAt b m node ↔ IsInNoCore b m node

-- No core of a short right holds a node, or there is a most senior short right whose core does.
abbrev pub FirstCoreIsDecided : Type 0
FirstCoreIsDecided =
    (b : Basin) (m : MonthRecord) (node : ℕ) → HasPlan b m →
    IsInNoCore b m node ⊎ ((right : ℕ) × IsFirstCoreAt b m node right)

-- One more unit at a node would help nobody, or it is a right's.
abbrev pub NextUnitIsDecided : Type 0
NextUnitIsDecided =
    (b : Basin) (series : Series) (records : List MonthRecord) (i : ℕ) (m : MonthRecord) (node : ℕ) →
    IsValidBasin b → IsSeriesOf b series → IsPartialHistory b series records → slice_get records i ≡ Some m →
    IsFreeAt b m node ⊎ ((right : ℕ) × IsNextAt b m node right)

-- Whose the next unit is. Where the supply of a month is one more unit at a node, a greatest plan delivers one more
-- unit to the most senior right that it would help, and to each senior of that right what it got.
abbrev pub NextUnitGoesToOne : Type 0
NextUnitGoesToOne =
    (b : Basin) (series : Series) (records : List MonthRecord) (i : ℕ) (m : MonthRecord) (node right : ℕ)
    (q : Plan) → IsValidBasin b → IsPartialHistory b series records → slice_get records i ≡ Some m →
    IsNextAt b m node right →
    IsGreatest b m.month (one_more m.supply node) m.want q → GivesOneMore b m q right

-- Where it would help nobody, it delivers to every right what it got.
abbrev pub NextUnitGoesToNobody : Type 0
NextUnitGoesToNobody =
    (b : Basin) (series : Series) (records : List MonthRecord) (i : ℕ) (m : MonthRecord) (node : ℕ) (q : Plan) →
    IsValidBasin b → IsSeriesOf b series → IsPartialHistory b series records → slice_get records i ≡ Some m →
    node < length b.nodes → IsFreeAt b m node → IsGreatest b m.month (one_more m.supply node) m.want q →
    AreDeliveries b m.want q m.delivered

-- So that right is exactly the most senior one to which it delivers otherwise. Juniors of that right may gain or lose.
abbrev pub FirstChangedIsNext : Type 0
FirstChangedIsNext =
    (b : Basin) (series : Series) (records : List MonthRecord) (i : ℕ) (m : MonthRecord) (node right : ℕ)
    (q : Plan) → IsValidBasin b → IsSeriesOf b series → IsPartialHistory b series records →
    slice_get records i ≡ Some m → node < length b.nodes →
    IsGreatest b m.month (one_more m.supply node) m.want q → IsNextAt b m node right ↔ IsFirstChanged b m q right

-- And in two histories: where a month has one more unit at a node in the second, and all want the same, the record has
-- one more unit for that right, and the same for its seniors.
abbrev pub NextUnitShowsInHistories : Type 0
NextUnitShowsInHistories =
    (b : Basin) (series other : Series) (records others : List MonthRecord) (i : ℕ) (m n : MonthRecord)
    (node right : ℕ) → IsValidBasin b → IsPartialHistory b series records → IsPartialHistory b other others →
    slice_get records i ≡ Some m → slice_get others i ≡ Some n → n.supply ≡ one_more m.supply node →
    n.want ≡ m.want → IsNextAt b m node right →
    (slice_index n.delivered right ≡ slice_index m.delivered right + 1)
    × ((s : ℕ) → s < length b.rights → IsTrue (is_senior b s right) →
    slice_index n.delivered s ≡ slice_index m.delivered s)

-- A right that is curtailed for a senior got nothing.
abbrev pub CurtailedGetNothing : Type 0
CurtailedGetNothing =
    (b : Basin) (series : Series) (records : List MonthRecord) (i : ℕ) (m : MonthRecord) (right caller : ℕ) →
    IsValidBasin b → IsPartialHistory b series records → slice_get records i ≡ Some m →
    IsCurtailedFor b m right caller → slice_index m.delivered right ≡ 0

-- The right for which another is curtailed calls it.
abbrev pub CurtailedAreCalled : Type 0
CurtailedAreCalled =
    (b : Basin) (series : Series) (records : List MonthRecord) (i : ℕ) (m : MonthRecord) (right caller : ℕ) →
    IsValidBasin b → IsPartialHistory b series records → slice_get records i ≡ Some m →
    IsCurtailedFor b m right caller → IsTrue (calls b m right caller)

-- At the node of a short diversion or zone the first core is a senior's or its own.
abbrev pub ShortTakersHaveFirstCores : Type 0
ShortTakersHaveFirstCores =
    (b : Basin) (m : MonthRecord) (right node : ℕ) → HasPlan b m → right < length b.rights → IsShort m right →
    taking_node b right ≡ Some node →
    ((caller : ℕ) × IsTrue (is_senior b caller right) × IsFirstCoreAt b m node caller) ⊎ IsFirstCoreAt b m node right

-- A short diversion or zone is curtailed for a senior, or the next unit at its node is its own.
abbrev pub ShortTakersAreCurtailedOrNext : Type 0
ShortTakersAreCurtailedOrNext =
    (b : Basin) (series : Series) (records : List MonthRecord) (i : ℕ) (m : MonthRecord) (right node : ℕ) →
    IsValidBasin b → IsSeriesOf b series → IsPartialHistory b series records → slice_get records i ≡ Some m →
    right < length b.rights → IsShort m right → taking_node b right ≡ Some node →
    ((caller : ℕ) × IsCurtailedFor b m right caller) ⊎ IsNextAt b m node right
