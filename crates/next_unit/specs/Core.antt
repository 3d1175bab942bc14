-- The least tight cut of a right, and what one more unit of supply or of carry is.
use Rattle.std.specs.Prelude.{◌≡◌, ℕ, ◌+◌, ◌<◌, ◌==◌, Bool, List, length, slice_index, slice_set, Some, IsTrue}
use Rattle.finite_sums.specs.Sums.{when}
use Rattle.water_model.specs.Lookups.{has}
use Rattle.water_model.specs.Basin.{is_river, instream_link}
use Rattle.water_model.specs.Plans.{carry_of}
use Rattle.water_model.specs.Cuts.{IsTight}
use Rattle.water_text.specs.declared.month.Month.{Month}
use Rattle.water_model.specs.declared.types.Basin.{Basin}
use Rattle.water_model.specs.declared.types.MonthRecord.{MonthRecord}
use Rattle.plan_residual.specs.Residual.{can_rise}

-- the tight cut that is within every tight cut
pub record IsLeastTight (b : Basin) (month : Month) (supply delivered : List ℕ) (right : ℕ) (cut : List Bool) : Type 0
  where
    pub is_tight : IsTight b month supply delivered right cut
    pub within : (other : List Bool) → IsTight b month supply delivered right other →
        (n : ℕ) → IsTrue (has cut n) → IsTrue (has other n)

-- the supply with one more unit at a node
abbrev pub one_more : List ℕ → ℕ → List ℕ
one_more supply node = slice_set supply node (slice_index supply node + 1)

-- the carries with one more unit on a link
abbrev pub raised_carry : Basin → Month → ℕ → ℕ → ℕ
raised_carry b month link e = carry_of b month e + when (link == e) 1

-- each river carries less than it can, and so does the link of an instream right
pub record HasRoomDown (b : Basin) (m : MonthRecord) (right : ℕ) : Type 0 where
  pub rivers : (e : ℕ) → e < length b.links → IsTrue (is_river b e) → IsTrue (can_rise b m e)
  pub own : (e : ℕ) → instream_link b right ≡ Some e → IsTrue (can_rise b m e)
