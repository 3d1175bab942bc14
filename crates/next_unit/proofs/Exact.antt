-- Where one more unit helps, exactly; and that each right has a core.
use Rattle.std.proofs.Common.{◌≡◌, ℕ, ◌+◌, ◌<◌, ◌≤◌, Bool, true, refl, arith, List, length, false, ◌∙◌, ap, inl, inr}
use Rattle.std.proofs.lemmas.Bool.{both_ways, and_parts, not-true, true_from_ne_false}
use Rattle.std.specs.Prelude.{◌↔◌}
use Rattle.water_model.specs.Cuts.{enters, carry_into, IsTight}
use Rattle.water_model.specs.declared.types.Basin.{Basin}
use Rattle.water_model.specs.declared.types.MonthRecord.{MonthRecord}
use Rattle.water_model.specs.Lookups.{has}
use Rattle.next_unit.specs.Next.{HelpsRight}
use Rattle.next_unit.specs.Laws.{SupplyHelpsExactlyInCore, CarryHelpsExactlyIntoCore, RightsHaveCores, CarryHelpsRight}
use Rattle.next_unit.specs.Laws.{NoCarryPastTightCutsHelps}
use Rattle.next_unit.proofs.Least.{core_is_least_tight_cut, nothing_outside_tight_cuts_helps}
use Rattle.next_unit.proofs.Helps.{supply_in_core_helps}
use Rattle.next_unit.proofs.Raises.{carry_into_core_helps}
use Rattle.plan_residual.proofs.Cores.{core_of}
use Rattle.std.proofs.lemmas.Bool.Decides.{eqb_tells}
use Rattle.finite_sums.specs.Sums.{when}
use Rattle.water_model.specs.Plans.{carry_of}
use Rattle.duality.proofs.Duality.{cut_slack}
use Rattle.finite_sums.proofs.Terms.{same_where}
use Rattle.next_unit.specs.Core.{one_more, raised_carry}

more_than : (x d : ℕ) → x ≡ d + 1 → x ≤ d → ⊥
more_than x d e l = omega (arith, e, l)

-- more supply that helps is in each tight cut
pub helps_within : (b : Basin) (m : MonthRecord) (r node : ℕ) (cut : List Bool) → r < length b.rights →
    IsTight b m.month m.supply m.delivered r cut → HelpsRight b m (one_more m.supply node) r → has cut node ≡ true
helps_within b m r node cut l tight h = true_from_ne_false _ (λ out. more_than _ _ h.more
    (nothing_outside_tight_cuts_helps b m.month m.supply m.delivered r cut node m.want h.plan l tight out h.is_plan
    h.serves))

pub supply_helps_exactly_in_core : SupplyHelpsExactlyInCore
supply_helps_exactly_in_core b m r core cut node given l short tight room is_core = (
  helps_within b m r node core l (core_is_least_tight_cut b m r core cut given l short tight is_core).is_tight,
  supply_in_core_helps b m r core cut node given l short tight room is_core,
)

-- more carry on a link that does not enter a tight cut does not help
pub no_carry_past_tight_cuts_helps : NoCarryPastTightCutsHelps
no_carry_past_tight_cuts_helps b month supply delivered r cut link want q l tight past plan serves =
    omega (
      arith,
      tight.tight,
      cut_slack b (raised_carry b month link) supply delivered r cut supply want q l tight.is_cut plan
          (λ n k h. refl) serves.each,
      same_capacity,
    )
  where
    not_raised : (e : ℕ) → enters b cut e ≡ true → raised_carry b month link e ≡ carry_of b month e
    not_raised e h = elim (eqb_tells link e) [
      | inl same ↦ absurd (both_ways _ past (ap (enters b cut) same.1 ∙ h))
      | inr other ↦ omega (arith, ap (λ t. when t 1) other.0)
    ]

    same_capacity : carry_into b (raised_carry b month link) cut ≡ carry_into b (carry_of b month) cut
    same_capacity = same_where (length b.links) (λ e. enters b cut e) (raised_carry b month link)
        (carry_of b month) (λ e k h. not_raised e h)

-- with more carry a link that helps enters each tight cut
pub must_enter : (b : Basin) (m : MonthRecord) (r link : ℕ) (cut : List Bool) → r < length b.rights →
    IsTight b m.month m.supply m.delivered r cut → CarryHelpsRight b m link r → enters b cut link ≡ true
must_enter b m r link cut l tight h = true_from_ne_false _ (λ past. more_than _ _ h.more
    (no_carry_past_tight_cuts_helps b m.month m.supply m.delivered r cut link m.want h.plan l tight past h.is_plan
    h.serves))

pub carry_helps_exactly_into_core : CarryHelpsExactlyIntoCore
carry_helps_exactly_into_core b m r core reach link given l short is_reach room is_core below = (
  λ h. (
    not-true _ (and_parts _ _ (must_enter b m r link reach l is_reach.is_tight h)).1,
    (and_parts _ _ (must_enter b m r link core l
        (core_is_least_tight_cut b m r core reach given l short is_reach.is_tight is_core).is_tight h)).0,
  ),
  λ both. carry_into_core_helps b m r core reach link given l short is_reach room is_core below both.0 both.1,
)

pub rights_have_cores : RightsHaveCores
rights_have_cores = core_of

-- two tests that decide it
pub decided_no : {C D : Type 0} (t : Bool) → C ↔ ((t ≡ false) × D) → t ≡ true → (false ≡ true → C) × (C → false ≡ true)
decided_no t both h = (λ i. absurd (both_ways _ refl i), λ i. absurd (both_ways _ (both.0 i).0 h))

pub decided_by : {C : Type 0} (t u : Bool) → C ↔ ((t ≡ false) × (u ≡ true)) → t ≡ false →
    (u ≡ true → C) × (C → u ≡ true)
decided_by t u both h = (λ i. both.1 (h, i), λ i. (both.0 i).1)
