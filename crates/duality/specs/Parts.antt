-- Plans in parts of a unit.
use Rattle.std.specs.Prelude.{ℕ, ◌*◌, List, map}
use Rattle.water_model.specs.Plans.{IsFeasible, IsLexGreatest, carry_of}
use Rattle.water_text.specs.declared.month.Month.{Month}
use Rattle.water_model.specs.declared.types.Basin.{Basin}
use Rattle.water_model.specs.declared.types.Plan.{Plan}

-- amounts counted in k-th parts of a unit
abbrev pub times : ℕ → List ℕ → List ℕ
times k xs = map (λ x. k * x) xs

abbrev pub in_parts : ℕ → Plan → Plan
in_parts k p = record { flow = times k p.flow; take = times k p.take; out = times k p.out }

-- A plan of the month in k-th parts of a unit: flows, takes and outflows are whole numbers of parts, and supplies,
-- wants and carries count k-fold.
abbrev pub IsPlanInParts : Basin → ℕ → Month → List ℕ → List ℕ → Plan → Type 0
IsPlanInParts b k month supply want p = IsFeasible b (λ e. k * carry_of b month e) (times k supply) (times k want) p

-- and one whose deliveries are lexicographically greatest among these
abbrev pub IsGreatestInParts : Basin → ℕ → Month → List ℕ → List ℕ → Plan → Type 0
IsGreatestInParts b k month supply want p =
    IsLexGreatest b (λ e. k * carry_of b month e) (times k supply) (times k want) p
