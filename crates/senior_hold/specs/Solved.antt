-- What a month gives a solver, and what it finds.
use Rattle.std.specs.Prelude.{◌≡◌, ◌⊎◌, ℕ, ◌*◌, ◌^◌, ◌<◌, ◌≤◌, Bool, List, length, slice_index, Some, None}
use Rattle.finite_sums.specs.Sums.{total}
use Rattle.water_model.specs.Basin.{instream_link}
use Rattle.water_model.specs.Plans.{IsGreatest, carry_of}
use Rattle.water_model.specs.Cuts.{IsReach}
use Rattle.water_model.specs.CutSets.{CutSets, set_of}
use Rattle.duality.specs.Laws.{AreDeliveries}
use Rattle.water_model.specs.RunOfRiver.{IsRunOfRiver}
use Rattle.water_text.specs.declared.month.Month.{Month}
use Rattle.water_model.specs.declared.types.Basin.{Basin}
use Rattle.water_model.specs.declared.types.Plan.{Plan}

-- an amount for each link, right and node
pub record FitsPlan (b : Basin) (p : Plan) : Type 0 where
  pub flow : length p.flow ≡ length b.links
  pub take : length p.take ≡ length b.rights
  pub out : length p.out ≡ length b.nodes

-- for each right no set or a set of the nodes
pub record FitsCuts (b : Basin) (cuts : CutSets) : Type 0 where
  pub nodes : cuts.nodes ≡ length b.nodes
  pub rights : length cuts.sets ≡ length b.rights

-- a supply for each node, so little that it may all run down one river
pub record AreSupplies (b : Basin) (supply : List ℕ) : Type 0 where
  pub count : length supply ≡ length b.nodes
  pub small : total (length b.nodes) (λ n. slice_index supply n) < 4 * 10 ^ 13

-- a want for each right, and of no instream right more than its link carries
pub record AreWants (b : Basin) (month : Month) (want : List ℕ) : Type 0 where
  pub count : length want ≡ length b.rights
  pub small : (r : ℕ) → r < length b.rights → slice_index want r ≤ 10 ^ 9
  pub instream : (r e : ℕ) → r < length b.rights → instream_link b r ≡ Some e → slice_index want r ≤ carry_of b month e

-- supplies and wants, room for a plan, and cuts of which none is held
pub record IsGiven (b : Basin) (month : Month) (supply want : List ℕ) (p : Plan) (cuts : CutSets) : Type 0 where
  pub supplies : AreSupplies b supply
  pub wants : AreWants b month want
  pub fits_plan : FitsPlan b p
  pub fits_cuts : FitsCuts b cuts
  pub no_sets : (r : ℕ) → r < length b.rights → set_of cuts r ≡ None

-- the right is met and has no set, or is short and its set is its reach
abbrev pub IsMetOrReached : Basin → Month → List ℕ → List ℕ → List ℕ → CutSets → ℕ → Type 0
IsMetOrReached b month supply want delivered cuts right =
    ((slice_index want right ≤ slice_index delivered right) × (set_of cuts right ≡ None))
    ⊎ ((slice_index delivered right < slice_index want right)
    × ((cut : List Bool) × ((set_of cuts right ≡ Some cut) × IsReach b month supply delivered right cut)))

-- the plan is greatest, each right is settled by what it delivers, and without rights it is the run of the river
pub record IsSolved (b : Basin) (month : Month) (supply want : List ℕ) (p : Plan) (cuts : CutSets) : Type 0 where
  pub greatest : IsGreatest b month supply want p
  pub settled : (delivered : List ℕ) → AreDeliveries b want p delivered → (r : ℕ) → r < length b.rights →
      IsMetOrReached b month supply want delivered cuts r
  pub river : length b.rights ≡ 0 → IsRunOfRiver b supply p
