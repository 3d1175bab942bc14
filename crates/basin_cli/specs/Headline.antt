-- What the records of a run are: the theorem of the program.
use Rattle.std.specs.Prelude.{◌≡◌, ℕ, ◌+◌, ◌*◌, ◌<◌, ◌≤◌, Bool, IsTrue, List, map, length, slice_index, slice_get, Some}
use Rattle.duality.specs.Balance.{IsBalanced, returned_before}
use Rattle.water_model.specs.History.{HaveReaches, IsHistory, calls, cut_of}
use Rattle.water_model.specs.Hydrology.{delivered_before}
use Rattle.duality.specs.Laws.{ServesSeniors, AgreesOn, LeavesNothing}
use Rattle.duality.specs.Parts.{IsGreatestInParts, IsPlanInParts, in_parts, times}
use Rattle.water_model.specs.Plans.{IsPlan, IsGreatest, delivery}
use Rattle.water_model.specs.declared.types.Basin.{Basin}
use Rattle.water_model.specs.declared.types.Series.{Series}
use Rattle.water_model.specs.declared.types.MonthRecord.{MonthRecord}
use Rattle.water_model.specs.declared.types.Plan.{Plan}

-- in any plan of the month that delivers at least as much to each right senior to a right, the right gets no more
abbrev pub NobodyCouldGetMore : Basin → MonthRecord → Type 0
NobodyCouldGetMore b m =
    (q : Plan) → IsPlan b m.month m.supply m.want q → (right : ℕ) → right < length b.rights →
    ServesSeniors b m.delivered m.want q right → delivery b m.want q right ≤ slice_index m.delivered right

-- nor by a fraction of a unit: the same of plans in k-th parts of a unit, for every k
abbrev pub NoFractionCouldHelp : Basin → MonthRecord → Type 0
NoFractionCouldHelp b m =
    (k : ℕ) (q : Plan) → IsPlanInParts b k m.month m.supply m.want q → (right : ℕ) → right < length b.rights →
    ServesSeniors b (times k m.delivered) (times k m.want) q right →
    delivery b (times k m.want) q right ≤ k * slice_index m.delivered right

-- and the same whatever is supplied outside the right's cut, and whatever anyone wants
abbrev pub NothingOutsideHelps : Basin → MonthRecord → Type 0
NothingOutsideHelps b m =
    (right : ℕ) → right < length b.rights → (cut : List Bool) → cut_of m right ≡ Some cut →
    (other_supply other_want : List ℕ) (q : Plan) →
    IsPlan b m.month other_supply other_want q → AgreesOn cut m.supply other_supply →
    ServesSeniors b m.delivered other_want q right →
    delivery b other_want q right ≤ slice_index m.delivered right

-- in the cut of a short right no junior diversion or zone takes, and no outlet lets water out
abbrev pub JuniorsGetNothing : Basin → MonthRecord → Type 0
JuniorsGetNothing b m =
    (right : ℕ) → right < length b.rights → (cut : List Bool) → cut_of m right ≡ Some cut →
    LeavesNothing b m.plan right cut

-- a right that answers to a caller gets nothing
abbrev pub CalledGetNothing : Basin → MonthRecord → Type 0
CalledGetNothing b m =
    (right caller : ℕ) → right < length b.rights → caller < length b.rights → IsTrue (calls b m right caller) →
    slice_index m.delivered right ≡ 0

-- the deliveries of each month, by right
abbrev pub deliveries_of : List MonthRecord → List (List ℕ)
deliveries_of records = map (λ m. m.delivered) records

-- the deliveries of each month, in order of seniority, are lexicographically greatest among all plans of the month
abbrev pub HasGreatestPlans : Basin → List MonthRecord → Type 0
HasGreatestPlans b records = (i : ℕ) (m : MonthRecord) → slice_get records i ≡ Some m →
    IsGreatest b m.month m.supply m.want m.plan

-- and they stay greatest among all plans in k-th parts of a unit, for every k
abbrev pub HasGreatestPlansInParts : Basin → List MonthRecord → Type 0
HasGreatestPlansInParts b records = (i : ℕ) (m : MonthRecord) → slice_get records i ≡ Some m → (k : ℕ) →
    IsGreatestInParts b k m.month m.supply m.want (in_parts k m.plan)

-- the records of a run of a basin with a series, which keep the priority of rights and lose no water
pub record KeepsPriority (b : Basin) (series : Series) (records : List MonthRecord) : Type 0 where
  -- every month opens with exactly what the deliveries, evaporation and lags before it leave, and each short right has
  -- a tight cut
  pub history : IsHistory b series records
  -- the deliveries of a month, in order of seniority, are lexicographically greatest among all plans of the month
  pub greatest : HasGreatestPlans b records
  -- whole units cost nobody anything: they are so among all plans in parts of a unit, too
  pub greatest_in_parts : HasGreatestPlansInParts b records
  -- the cut of a short right is its reach, and no other right has one
  pub reaches : HaveReaches b records
  -- so no water of a junior could lessen a senior's shortage
  pub no_more : (i : ℕ) (m : MonthRecord) → slice_get records i ≡ Some m → NobodyCouldGetMore b m
  -- not by a fraction of a unit either
  pub no_fraction : (i : ℕ) (m : MonthRecord) → slice_get records i ≡ Some m → NoFractionCouldHelp b m
  -- nor could any water outside the cut give the right more
  pub no_help : (i : ℕ) (m : MonthRecord) → slice_get records i ≡ Some m → NothingOutsideHelps b m
  -- within the cut the right's juniors take nothing
  pub juniors : (i : ℕ) (m : MonthRecord) → slice_get records i ≡ Some m → JuniorsGetNothing b m
  -- and a right that answers to a caller gets nothing
  pub called : (i : ℕ) (m : MonthRecord) → slice_get records i ≡ Some m → CalledGetNothing b m
  -- no water is made or lost
  pub balanced : IsBalanced b series records
  -- and what comes back of a diversion's water, up to a month, is at most what it was delivered before that month
  pub covered : (right i : ℕ) → right < length b.rights →
      returned_before b (deliveries_of records) right (i + 1) ≤ delivered_before (deliveries_of records) right i
