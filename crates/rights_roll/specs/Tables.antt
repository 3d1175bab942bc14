-- What the tables hold by which faults are found.
use Rattle.std.specs.Prelude.{◌≡◌, ℕ, ◌<◌, ◌-◌, ◌^◌, List, length, map, min, position, slice_index}
use Rattle.std.specs.BTreeMap.{BTreeMap}
use Rattle.std.specs.BTreeMap as tree
use Rattle.std.specs.Str.{bytes_eq}
use Rattle.water_model.specs.Rights.{priority, parts_in}
use Rattle.water_model.specs.declared.types.Right.{Right}
use Rattle.water_model.specs.declared.types.ReturnRow.{ReturnRow}
use Rattle.rights_roll.specs.Priorities.{numbers_of, priority_cmp}
use Rattle.rights_roll.specs.declared.priority.Priority.{Priority}

-- each priority has the first right with it
abbrev pub AreRanks : List Right → BTreeMap Priority ℕ → Type 0
AreRanks rights ranks = (p : Priority) →
    tree.get priority_cmp ranks p ≡ position (bytes_eq (numbers_of p)) (map priority rights)

-- each right has the sum of its return rows' parts, or the greatest u32 where it is more
pub record AreParts (returns : List ReturnRow) (rights : ℕ) (sums : List ℕ) : Type 0 where
  pub count : length sums ≡ rights
  pub each : (right : ℕ) → right < rights → slice_index sums right ≡ min (2 ^ 32 - 1) (parts_in returns right)
