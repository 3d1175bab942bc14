-- What two basins have in common for a right, and plans that are shown to be greatest by cuts.
use Rattle.std.specs.Prelude.{◌≡◌, ℕ, ◌<◌, List, length, slice_get, slice_index, IsTrue, ◌⊎◌}
use Rattle.water_model.specs.Basin.{is_senior, HasStrictPriority}
use Rattle.water_model.specs.Plans.{IsPlan, IsGreatest, delivery, carry_of}
use Rattle.duality.specs.Laws.{AreDeliveries, IsMetOrCut}
use Rattle.water_text.specs.declared.month.Month.{Month}
use Rattle.water_model.specs.declared.types.Basin.{Basin}
use Rattle.water_model.specs.declared.types.Plan.{Plan}

pub record HaveOneNetwork (first second : Basin) : Type 0 where
  pub nodes : second.nodes ≡ first.nodes
  pub links : second.links ≡ first.links
  pub reservoirs : second.reservoirs ≡ first.reservoirs

-- a right is another one, or senior to it
abbrev pub IsUpTo : Basin → ℕ → ℕ → Type 0
IsUpTo b s right = (s ≡ right) ⊎ IsTrue (is_senior b s right)

-- The right and each right senior to it are rights of the second basin too, where they stand at the index that `at`
-- gives, and there no other right is senior to it.
pub record HasSameSeniors (first second : Basin) (at : ℕ → ℕ) (right : ℕ) : Type 0 where
  pub in_range : right < length first.rights
  pub same : (s : ℕ) → s < length first.rights → IsUpTo first s right →
      slice_get second.rights (at s) ≡ slice_get first.rights s
  pub no_other : (u : ℕ) → u < length second.rights → IsTrue (is_senior second u (at right)) →
      (s : ℕ) × (s < length first.rights) × IsTrue (is_senior first s right) × (at s ≡ u)

-- a plan with these deliveries, in which each right is met or has a tight cut
pub record IsCertified (b : Basin) (month : Month) (supply want delivered : List ℕ) (p : Plan) : Type 0 where
  pub plan : IsPlan b month supply want p
  pub deliveries : AreDeliveries b want p delivered
  pub cuts : (r : ℕ) → r < length b.rights → IsMetOrCut b (carry_of b month) supply want delivered r

-- the right and its seniors want the same in both basins
pub record WantSame (first : Basin) (at : ℕ → ℕ) (right : ℕ) (want other : List ℕ) : Type 0 where
  pub each : (s : ℕ) → s < length first.rights → IsUpTo first s right → slice_index other (at s) ≡ slice_index want s

-- Juniors change nothing. In one month of two basins with one network and one supply, a right with the same seniors in
-- both, where it and these want the same, is delivered the same by plans that cuts certify, whatever rights are junior
-- to it.
abbrev pub JuniorsChangeNothing : Type 0
JuniorsChangeNothing =
    (first second : Basin) (at : ℕ → ℕ) (right : ℕ) (month : Month) (supply want other delivered given : List ℕ)
    (p q : Plan) → HasStrictPriority first → HasStrictPriority second → HaveOneNetwork first second →
    HasSameSeniors first second at right → WantSame first at right want other →
    IsCertified first month supply want delivered p → IsCertified second month supply other given q →
    slice_index delivered right ≡ slice_index given (at right)

-- All greatest plans of both basins, too, deliver the same to the right, where there are certified plans.
abbrev pub GreatestPlansIgnoreJuniors : Type 0
GreatestPlansIgnoreJuniors =
    (first second : Basin) (at : ℕ → ℕ) (right : ℕ) (month : Month) (supply want other delivered given : List ℕ)
    (p q p' q' : Plan) → HasStrictPriority first → HasStrictPriority second → HaveOneNetwork first second →
    HasSameSeniors first second at right → WantSame first at right want other →
    IsCertified first month supply want delivered p → IsCertified second month supply other given q →
    IsGreatest first month supply want p' → IsGreatest second month supply other q' →
    delivery first want p' right ≡ delivery second other q' (at right)
