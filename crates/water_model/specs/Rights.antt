-- The order of rights, and what a sound roll of rights keeps.
use Rattle.std.specs.Prelude.{◌≡◌, ◌≢◌, ℕ, ◌-◌, ◌<◌, ◌≤◌, Bool, false, not, ◌&&◌, ◌||◌, List, [], ◌∷◌, length, take}
use Rattle.std.specs.Prelude.{nat_lt, ◌==◌, if◌then◌else◌}
use Rattle.std.specs.List.{list_any}
use Rattle.finite_sums.specs.Sums.{total}
use Rattle.water_text.specs.Days.{is_date}
use Rattle.water_model.specs.Lookups.{of_entry}
use Rattle.water_model.specs.declared.types.ReturnRow.{ReturnRow}
use Rattle.water_model.specs.declared.types.Right.{Right}
use Rattle.water_model.specs.declared.types.RightKind.{RightKind}
use Rattle.water_model.specs.declared.types.RightKind.TheVariants.{Diversion, Instream, Zone}

-- whether the first number at which two lists differ is lower in the first
abbrev pub is_lower : List ℕ → List ℕ → Bool
is_lower [] ys = false
is_lower (x ∷ xs) [] = false
is_lower (x ∷ xs) (y ∷ ys) = nat_lt x y || (x == y && is_lower xs ys)

-- by what rights are ordered: the date, and of rights with one date the order
abbrev pub priority : Right → List ℕ
priority r = r.date.year ∷ r.date.month ∷ r.date.day ∷ r.order ∷ []

abbrev pub priority_in : List Right → ℕ → List ℕ
priority_in rights right = of_entry rights right priority []

-- whether right r is senior to right s: its date is earlier, or the dates are equal and its order is lower
abbrev pub is_senior_in : List Right → ℕ → ℕ → Bool
is_senior_in rights r s = is_lower (priority_in rights r) (priority_in rights s)

-- the right has a date that is no day of the calendar
abbrev pub has_bad_date : Right → Bool
has_bad_date r = not (is_date r.date)

-- whether the right is the zone of this reservoir and level
abbrev pub is_zone_kind : ℕ → ℕ → RightKind → Bool
is_zone_kind reservoir level (Diversion node) = false
is_zone_kind reservoir level (Instream link) = false
is_zone_kind reservoir level (Zone at its) = at == reservoir && its == level

-- whether the right is the zone of this reservoir and level, and senior to this priority
abbrev pub is_senior_zone : ℕ → ℕ → List ℕ → Right → Bool
is_senior_zone reservoir level key r = is_zone_kind reservoir level r.kind && is_lower (priority r) key

-- whether a zone is at fault: an earlier one has its reservoir and level, or it stands above level 1 and no zone of its
-- reservoir one level lower is senior to it
abbrev pub is_zone_fault : List Right → List Right → List ℕ → RightKind → Bool
is_zone_fault rights before key (Diversion node) = false
is_zone_fault rights before key (Instream link) = false
is_zone_fault rights before key (Zone reservoir level) =
    list_any (λ r. is_zone_kind reservoir level r.kind) before
    || (nat_lt 1 level && not (list_any (is_senior_zone reservoir (level - 1) key) rights))

abbrev pub has_zone_fault : List Right → ℕ → Bool
has_zone_fault rights right =
    of_entry rights right (λ r. is_zone_fault rights (take right rights) (priority r) r.kind) false

-- the sum of the parts of a diversion's return rows, in parts of 10,000
abbrev pub parts_in : List ReturnRow → ℕ → ℕ
parts_in returns right =
    total (length returns) (λ k. of_entry returns k (λ row. if row.right == right then row.part else 0) 0)

-- no two rights have one priority
abbrev pub AreStrict : List Right → Type 0
AreStrict rights = (r s : ℕ) → r < s → s < length rights → priority_in rights r ≢ priority_in rights s

-- every date is a day, no two rights have one priority, zones stand in order, and no diversion returns more than it
-- takes
pub record IsSoundRoll (rights : List Right) (returns : List ReturnRow) : Type 0 where
  pub dates : (r : ℕ) → r < length rights → of_entry rights r has_bad_date false ≡ false
  pub strict : AreStrict rights
  pub zones : (r : ℕ) → r < length rights → has_zone_fault rights r ≡ false
  pub parts : (r : ℕ) → r < length rights → parts_in returns r ≤ 10000
