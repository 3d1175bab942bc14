-- What a tight cut leaves no room for.
use Rattle.std.specs.Prelude.{◌≡◌, ℕ, ◌<◌, Bool, not, ◌&&◌, List, length, map, slice_index, IsTrue}
use Rattle.water_model.specs.Basin.{is_on_link}
use Rattle.water_model.specs.Plans.{carry_of}
use Rattle.water_model.specs.Cuts.{enters, leaves, kept_on}
use Rattle.duality.specs.Laws.{LeavesNothing}
use Rattle.water_model.specs.declared.types.Basin.{Basin}
use Rattle.water_model.specs.declared.types.MonthRecord.{MonthRecord}

-- Complementary slackness: each link into the set is full, each link out of it, other than the right's own, carries no
-- more than is kept on it for seniors, and in the set no junior takes and no outlet lets water out.
pub record HasNoSlack (b : Basin) (m : MonthRecord) (right : ℕ) (cut : List Bool) : Type 0 where
  pub full : (e : ℕ) → e < length b.links → IsTrue (enters b cut e) →
      slice_index m.plan.flow e ≡ carry_of b m.month e
  pub held : (e : ℕ) → e < length b.links → IsTrue (leaves b cut e && not (is_on_link b right e)) →
      kept_on b m.delivered right e ≡ slice_index m.plan.flow e
  pub nothing : LeavesNothing b m.plan right cut

-- all nodes but those of a set
abbrev pub others : List Bool → List Bool
others set = map not set
