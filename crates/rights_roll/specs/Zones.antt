-- The table of the most senior zones.
use Rattle.std.specs.Prelude.{◌≡◌, ℕ, ◌==◌, ◌&&◌, Bool, false, List, Option, Some, None}
use Rattle.std.specs.HashMap.{HashMap, get}
use Rattle.std.specs.List.{list_any}
use Rattle.std.specs.declared.hash.FoldHasher.{FoldHasher}
use Rattle.std.specs.declared.hash.BuildHasherDefault.{BuildHasherDefault}
use Rattle.water_model.specs.Rights.{is_lower, is_senior_zone}
use Rattle.water_model.specs.declared.types.Right.{Right}
use Rattle.rights_roll.specs.Priorities.{numbers_of}
use Rattle.rights_roll.specs.declared.priority.Priority.{Priority}

-- the priority of a zone of each reservoir and level
abbrev pub ZoneTable : Type 0
ZoneTable = HashMap (ℕ × ℕ) Priority (BuildHasherDefault FoldHasher)

-- the same reservoir and the same level
abbrev pub same_zone : ℕ × ℕ → ℕ × ℕ → Bool
same_zone zone other = zone.0 == other.0 && zone.1 == other.1

abbrev pub is_senior_one : Option Priority → List ℕ → Bool
is_senior_one None key = false
is_senior_one (Some p) key = is_lower (numbers_of p) key

-- whether the table has a zone of this reservoir and level that is senior to a priority
abbrev pub has_senior : ZoneTable → ℕ → ℕ → List ℕ → Bool
has_senior zones reservoir level key = is_senior_one (get same_zone zones (reservoir, level)) key

-- the table says whether some zone of a reservoir and level is senior to a priority
abbrev pub AreSeniorZones : List Right → ZoneTable → Type 0
AreSeniorZones rights zones =
    (reservoir level : ℕ) (key : List ℕ) →
    has_senior zones reservoir level key ≡ list_any (is_senior_zone reservoir level key) rights
