-- What a list of cuts holds.
use Rattle.std.specs.Prelude.{ℕ, Bool, List, Option, None, slice_set, map}
use Rattle.water_model.specs.Lookups.{of_entry}

-- for each right none or a set of the nodes, one truth value for each node
pub record CutSets : Type 0 where
  pub nodes : ℕ
  pub sets : List (Option (List Bool))

-- the set of a right, if it has one
abbrev pub set_of : CutSets → ℕ → Option (List Bool)
set_of c right = of_entry c.sets right (λ set. set) None

-- the same with the set of one right changed
abbrev pub with_set : CutSets → ℕ → Option (List Bool) → CutSets
with_set c right set = record c { sets = slice_set c.sets right set }

-- the same with no set
abbrev pub without_sets : CutSets → CutSets
without_sets c = record c { sets = map (λ _. None) c.sets }
