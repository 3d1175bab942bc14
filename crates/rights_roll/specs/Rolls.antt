-- The roll of a list of rights.
use Rattle.std.specs.Prelude.{◌≡◌, ℕ, ◌+◌, ◌<◌, List, length, Option, Some, None, slice_index_or}
use Rattle.chains.specs.Chains.{IsFirst, has_key}
use Rattle.water_model.specs.Lookups.{of_entry}
use Rattle.water_model.specs.Basin.{link_of_kind}
use Rattle.water_model.specs.Indices.{by_seniority}
use Rattle.water_model.specs.declared.types.Right.{Right}
use Rattle.rights_roll.specs.RollView.{RollView}

-- the link of an instream right
abbrev pub link_in : List Right → ℕ → Option ℕ
link_in rights right = of_entry rights right (λ r. link_of_kind r.kind) None

-- the answer is the first right from an index on that is on the link, or none
abbrev pub IsNextOn : List Right → ℕ → ℕ → Option ℕ → Type 0
IsNextOn rights link start = IsFirst (has_key (link_in rights) link) start (length rights)

pub record IsRollOf (rights : List Right) (roll : RollView) : Type 0 where
  pub order : roll.order ≡ by_seniority rights
  pub one_next : length roll.next_on ≡ length rights
  pub firsts : (link : ℕ) → IsNextOn rights link 0 (slice_index_or roll.first_on link None)
  pub nexts : (right link : ℕ) → right < length rights → link_in rights right ≡ Some link →
      IsNextOn rights link (right + 1) (slice_index_or roll.next_on right None)
  pub others : (right : ℕ) → right < length rights → link_in rights right ≡ None →
      slice_index_or roll.next_on right None ≡ None
