-- A month that is solved by a plan is solved by another one that is as great.
use Rattle.std.proofs.Common.{ℕ, ◌≡◌, ◌<◌, ◌≤◌, ◌^◌, List, length, slice_index, arith, ◌∙◌, sym, subst}
use Rattle.water_text.specs.Months.{IsMonth}
use Rattle.water_text.specs.declared.month.Month.{Month}
use Rattle.water_model.specs.CutSets.{CutSets}
use Rattle.water_model.specs.Plans.{IsPlan, IsGreatest, DeliversSame}
use Rattle.water_model.specs.Valid.{IsValidBasin}
use Rattle.water_model.specs.declared.types.Basin.{Basin}
use Rattle.water_model.specs.declared.types.Plan.{Plan}
use Rattle.water_model.proofs.Carries.{carry_most}
use Rattle.senior_hold.specs.Solved.{IsSolved}

-- no link carries more than a river
pub flows_small : (b : Basin) (month : Month) (supply want : List ℕ) (p : Plan) → IsValidBasin b → IsMonth month →
    IsPlan b month supply want p → (e : ℕ) → e < length b.links → slice_index p.flow e ≤ 10 ^ 15
flows_small b month supply want p valid is plan e l =
    omega (arith, plan.carries e l, carry_most b month e valid is l)

-- and so it is where rivers are preferred
pub solved_too : {b b' : Basin} {month : Month} {supply want : List ℕ} {p q : Plan} {cuts : CutSets} → b' ≡ b →
    0 < length b.rights → IsSolved b month supply want p cuts →
    (IsGreatest b' month supply want p → IsGreatest b' month supply want q) →
    (IsGreatest b' month supply want p → DeliversSame b' want p q) → IsSolved b month supply want q cuts
solved_too {b} {b'} {month} {supply} {want} {p} {q} {cuts} is some solved best same =
    let first = subst (λ (b : Basin). IsGreatest b month supply want p) (sym is) solved.greatest in
    let delivers = subst (λ (b : Basin). DeliversSame b want p q) is (same first) in
    record {
      greatest = subst (λ (b : Basin). IsGreatest b month supply want q) is (best first);
      settled = λ delivered are. solved.settled delivered record { each = λ r l. are.each r l ∙ sym (delivers r l) };
      river = λ none. absurd (omega arith);
    }
