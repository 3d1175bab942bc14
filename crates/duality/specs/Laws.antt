-- Laws over the definitions.
use Rattle.std.specs.Prelude.{◌≡◌, ℕ, pos, ◌≤ℤ◌, ◌<◌, ◌≤◌, ◌*◌, Bool, List, length, slice_index, slice_get, Some}
use Rattle.std.specs.Prelude.{IsTrue, sum, ◌↔◌, ◌⊎◌}
use Rattle.water_model.specs.Lookups.{has}
use Rattle.water_model.specs.Basin.{is_senior, HasStrictPriority}
use Rattle.water_model.specs.Plans.{IsPlan, IsGreatest, DeliversSame, delivery}
use Rattle.duality.specs.Parts.{times, in_parts, IsPlanInParts, IsGreatestInParts}
use Rattle.water_model.specs.Cuts.{IsCut, IsTightWithin, IsTight, IsReach, cut_bound, takes_within}
use Rattle.water_model.specs.History.{IsPartialHistory, calls, cut_of}
use Rattle.water_model.specs.Valid.{IsValidBasin}
use Rattle.water_text.specs.declared.month.Month.{Month}
use Rattle.water_model.specs.declared.types.Basin.{Basin}
use Rattle.water_model.specs.declared.types.Series.{Series}
use Rattle.water_model.specs.declared.types.MonthRecord.{MonthRecord}
use Rattle.water_model.specs.declared.types.Plan.{Plan}

-- a plan delivers to every right senior to a right at least the given delivery
pub record ServesSeniors (b : Basin) (delivered want : List ℕ) (q : Plan) (right : ℕ) : Type 0 where
  pub each : (s : ℕ) → s < length b.rights → IsTrue (is_senior b s right) →
      slice_index delivered s ≤ delivery b want q s

-- two supplies are the same at each node of a set
pub record AgreesOn (set : List Bool) (supply other : List ℕ) : Type 0 where
  pub each : (n : ℕ) → IsTrue (has set n) → slice_index other n ≡ slice_index supply n

-- the list has what the plan delivers to each right
pub record AreDeliveries (b : Basin) (want : List ℕ) (p : Plan) (delivered : List ℕ) : Type 0 where
  pub each : (r : ℕ) → r < length b.rights → slice_index delivered r ≡ delivery b want p r

-- A cut bounds. Whatever the supplies outside the cut and whatever the wants, a plan that serves the seniors
-- of a right at least as well delivers at most the cut's bound to the right.
abbrev pub CutBounds : Type 0
CutBounds =
    (b : Basin) (month : Month) (supply delivered : List ℕ) (right : ℕ) (cut : List Bool)
    (other_supply other_want : List ℕ) (q : Plan) →
    right < length b.rights → IsCut b right cut → IsPlan b month other_supply other_want q →
    AgreesOn cut supply other_supply → ServesSeniors b delivered other_want q right →
    pos (delivery b other_want q right) ≤ℤ cut_bound b month supply delivered right cut

-- Cuts make plans greatest. In a partial history, and so in a history, each month's plan is greatest.
abbrev pub CutsMakeGreatest : Type 0
CutsMakeGreatest =
    (b : Basin) (series : Series) (records : List MonthRecord) → IsPartialHistory b series records →
    (i : ℕ) (m : MonthRecord) → slice_get records i ≡ Some m → IsGreatest b m.month m.supply m.want m.plan

-- Cuts let nobody get more. In any plan of a month that delivers at least as much to each right senior to a right, the
-- right gets no more than it got: no water of a junior could lessen a senior's shortage.
abbrev pub CutsLetNobodyGetMore : Type 0
CutsLetNobodyGetMore =
    (b : Basin) (series : Series) (records : List MonthRecord) → IsPartialHistory b series records →
    (i : ℕ) (m : MonthRecord) → slice_get records i ≡ Some m → (q : Plan) → IsPlan b m.month m.supply m.want q →
    (right : ℕ) → right < length b.rights → ServesSeniors b m.delivered m.want q right →
    delivery b m.want q right ≤ slice_index m.delivered right

-- No fraction of a unit helps. In any plan of a month in k-th parts of a unit that delivers at least k times as much
-- to each right senior to a right, the right gets at most k times what it got.
abbrev pub NoFractionHelps : Type 0
NoFractionHelps =
    (b : Basin) (series : Series) (records : List MonthRecord) → IsPartialHistory b series records →
    (i : ℕ) (m : MonthRecord) → slice_get records i ≡ Some m → (k : ℕ) (q : Plan) →
    IsPlanInParts b k m.month m.supply m.want q → (right : ℕ) → right < length b.rights →
    ServesSeniors b (times k m.delivered) (times k m.want) q right →
    delivery b (times k m.want) q right ≤ k * slice_index m.delivered right

-- Whole units cost nobody anything. In k-th parts of a unit, too, each month's plan is greatest, and it delivers k
-- times what the record has.
abbrev pub WholeUnitsAreGreatest : Type 0
WholeUnitsAreGreatest =
    (b : Basin) (series : Series) (records : List MonthRecord) → IsPartialHistory b series records →
    (i : ℕ) (m : MonthRecord) → slice_get records i ≡ Some m → (k : ℕ) →
    IsGreatestInParts b k m.month m.supply m.want (in_parts k m.plan)
    × AreDeliveries b (times k m.want) (in_parts k m.plan) (times k m.delivered)

-- A plan in parts of one to a unit is a plan.
abbrev pub OnePartIsUnit : Type 0
OnePartIsUnit =
    (b : Basin) (month : Month) (supply want : List ℕ) (p : Plan) →
    IsPlanInParts b 1 month supply want p ↔ IsPlan b month supply want p

-- in a set, no diversion or zone that is junior to a right takes, and no outlet has outflow
pub record LeavesNothing (b : Basin) (p : Plan) (right : ℕ) (cut : List Bool) : Type 0 where
  pub juniors : (s : ℕ) → s < length b.rights → IsTrue (takes_within b cut s) → IsTrue (is_senior b right s) →
      slice_index p.take s ≡ 0
  pub outlets : (n : ℕ) → IsTrue (has cut n) → slice_index p.out n ≡ 0

-- Juniors in a tight cut get nothing.
abbrev pub TightCutLeavesNothing : Type 0
TightCutLeavesNothing =
    (b : Basin) (month : Month) (supply want delivered : List ℕ) (p : Plan) (right : ℕ) (cut : List Bool) →
    right < length b.rights → IsPlan b month supply want p → AreDeliveries b want p delivered →
    IsTight b month supply delivered right cut → LeavesNothing b p right cut

-- In the set that a history has of a right, juniors get nothing: no diversion or zone that is junior to the right
-- takes, and no outlet lets water out.
abbrev pub HistoriesLeaveNothing : Type 0
HistoriesLeaveNothing =
    (b : Basin) (series : Series) (records : List MonthRecord) → IsPartialHistory b series records →
    (i : ℕ) (m : MonthRecord) → slice_get records i ≡ Some m → (right : ℕ) → right < length b.rights →
    (cut : List Bool) → cut_of m right ≡ Some cut → LeavesNothing b m.plan right cut

-- A right that answers to a caller gets nothing.
abbrev pub CalledRightsGetNothing : Type 0
CalledRightsGetNothing =
    (b : Basin) (series : Series) (records : List MonthRecord) → IsPartialHistory b series records →
    (i : ℕ) (m : MonthRecord) → slice_get records i ≡ Some m → (right caller : ℕ) → right < length b.rights →
    caller < length b.rights → IsTrue (calls b m right caller) → slice_index m.delivered right ≡ 0

-- Cuts let nothing outside help. Whatever is supplied outside the set that a history has of a right, and whatever
-- anyone wants, no plan of that month that delivers at least as much to each senior of the right delivers it more than
-- it got.
abbrev pub CutsLetNothingOutsideHelp : Type 0
CutsLetNothingOutsideHelp =
    (b : Basin) (series : Series) (records : List MonthRecord) → IsPartialHistory b series records →
    (i : ℕ) (m : MonthRecord) → slice_get records i ≡ Some m → (right : ℕ) → right < length b.rights →
    (cut : List Bool) → cut_of m right ≡ Some cut → (other_supply other_want : List ℕ) (q : Plan) →
    IsPlan b m.month other_supply other_want q → AgreesOn cut m.supply other_supply →
    ServesSeniors b m.delivered other_want q right → delivery b other_want q right ≤ slice_index m.delivered right

-- One outcome of a month. Two greatest plans of one month deliver the same.
abbrev pub GreatestPlansDeliverSame : Type 0
GreatestPlansDeliverSame =
    (b : Basin) (month : Month) (supply want : List ℕ) (p q : Plan) → HasStrictPriority b →
    IsGreatest b month supply want p → IsGreatest b month supply want q → DeliversSame b want p q

-- A reach is unique.
abbrev pub ReachIsUnique : Type 0
ReachIsUnique =
    (b : Basin) (month : Month) (supply delivered : List ℕ) (right : ℕ) (one other : List Bool) →
    IsReach b month supply delivered right one → IsReach b month supply delivered right other → one ≡ other

-- two records of one month that agree in all but flows, single outflows and the choice of cuts
pub record HaveSameOutcome (m n : MonthRecord) : Type 0 where
  pub index : m.index ≡ n.index
  pub month : m.month ≡ n.month
  pub opening : m.opening ≡ n.opening
  pub evaporated : m.evaporated ≡ n.evaporated
  pub returned : m.returned ≡ n.returned
  pub supply : m.supply ≡ n.supply
  pub used : m.used ≡ n.used
  pub want : m.want ≡ n.want
  pub delivered : m.delivered ≡ n.delivered
  pub closing : m.closing ≡ n.closing
  pub outflow : sum m.plan.out ≡ sum n.plan.out

-- One outcome. Two partial histories of one length agree month by month.
abbrev pub HistoriesHaveOneOutcome : Type 0
HistoriesHaveOneOutcome =
    (b : Basin) (series : Series) (records others : List MonthRecord) → IsValidBasin b →
    IsPartialHistory b series records → IsPartialHistory b series others → length records ≡ length others →
    (i : ℕ) (m n : MonthRecord) → slice_get records i ≡ Some m → slice_get others i ≡ Some n → HaveSameOutcome m n

-- A cut is tight where its bound is the delivery.
abbrev pub TightMeansBound : Type 0
TightMeansBound =
    (b : Basin) (month : Month) (supply delivered : List ℕ) (right : ℕ) (cut : List Bool) →
    IsTight b month supply delivered right cut
    ↔ (IsCut b right cut × (cut_bound b month supply delivered right cut ≡ pos (slice_index delivered right)))

-- A tight cut stays tight while its right and that right's seniors are delivered the same.
abbrev pub TightStays : Type 0
TightStays =
    (b : Basin) (month : Month) (supply before after : List ℕ) (right : ℕ) (cut : List Bool) → right < length b.rights →
    slice_index before right ≡ slice_index after right →
    ((s : ℕ) → s < length b.rights → IsTrue (is_senior b s right) → slice_index before s ≡ slice_index after s) →
    IsTight b month supply before right cut → IsTight b month supply after right cut

-- a right is met, or has a tight cut
abbrev pub IsMetOrCut : Basin → (ℕ → ℕ) → List ℕ → List ℕ → List ℕ → ℕ → Type 0
IsMetOrCut b carry supply want delivered right =
    (slice_index want right ≤ slice_index delivered right)
    ⊎ ((cut : List Bool) × IsTightWithin b carry supply delivered right cut)
