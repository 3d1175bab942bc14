-- Walks over the rights in the order of seniority.
use Rattle.std.specs.Prelude.{◌≡◌, ℕ, ◌+◌, ◌<◌, ◌≤◌, true, false, ◌++◌, ◌∷◌, [], length, take, slice_index, Option}
use Rattle.std.specs.Prelude.{Some, None}
use Rattle.std.specs.List.{list_any}
use Rattle.water_model.specs.Indices.{seniors_first}
use Rattle.result_lines.specs.declared.item.Item.{Item}
use Rattle.water_model.specs.declared.types.Basin.{Basin}
use Rattle.water_model.specs.declared.types.MonthRecord.{MonthRecord}
use Rattle.cert_check.specs.Checking.{passes, callers_due}
use Rattle.cert_check.specs.Keeping.{lacks_call, callers_of}
use Rattle.cert_check.specs.declared.answering.Due.{Due}

-- a line passes over at most this many rights, the most senior ones, and none of these lacks its `call`
pub record ArePassed (b : Basin) (m : MonthRecord) (item : Item) (count : ℕ) : Type 0 where
  pub within : count ≤ length (seniors_first b)
  pub settled : list_any (lacks_call m) (take count (seniors_first b)) ≡ false
  pub next : count < length (seniors_first b) → passes b item (slice_index (seniors_first b) count) ≡ false

-- a line passes over this right, which lacks its `call`
pub record IsMissed (b : Basin) (m : MonthRecord) (item : Item) : Type 0 where
  pub position : ℕ
  pub within : position < length (seniors_first b)
  pub lacks : lacks_call m (slice_index (seniors_first b) position) ≡ true
  pub passed : passes b item (slice_index (seniors_first b) position) ≡ true

abbrev pub IsPassed : Basin → MonthRecord → Item → Option ℕ → Type 0
IsPassed b m item (Some count) = ArePassed b m item count
IsPassed b m item None = IsMissed b m item

-- from an index on this right is the first that answers to a caller
pub record IsNextDue (b : Basin) (m : MonthRecord) (from : ℕ) (due : Due) : Type 0 where
  pub within : due.position < length (seniors_first b)
  pub up_to : callers_of b m (take (due.position + 1) (seniors_first b)) ≡ callers_of b m
      (take from (seniors_first b)) ++ (due.right, due.caller) ∷ []

-- the first right from an index on that answers to a caller, or none
abbrev pub IsDueFrom : Basin → MonthRecord → ℕ → Option Due → Type 0
IsDueFrom b m from (Some due) = IsNextDue b m from due
IsDueFrom b m from None = callers_due b m ≡ callers_of b m (take from (seniors_first b))

-- the index after it, or where there is none the index from which it was looked for
abbrev pub after : ℕ → Option Due → ℕ
after from None = from
after from (Some due) = due.position + 1
