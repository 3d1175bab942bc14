-- What is at fault in a roll of rights, and the first such fault.
use Rattle.std.specs.Prelude.{◌≡◌, ℕ, ◌+◌, nat_lt, List, [], ◌∷◌, length, map, Bool, Option, Some, None, option_map}
use Rattle.std.specs.Prelude.{position, if◌then◌else◌, ⊤}
use Rattle.std.specs.List.{find, range_with_len, position_or_len}
use Rattle.std.specs.Option.{option_or}
use Rattle.std.specs.Str.{bytes_eq}
use Rattle.water_model.specs.Rights.{priority, has_bad_date, has_zone_fault, parts_in}
use Rattle.water_model.specs.declared.types.Right.{Right}
use Rattle.water_model.specs.declared.types.ReturnRow.{ReturnRow}
use Rattle.rights_roll.specs.declared.RollRefused.{RollRefused}
use Rattle.rights_roll.specs.declared.RollRefused.TheVariants.{BadDate, SameSeniority, ZoneOrder, ReturnParts}
use Rattle.rights_roll.specs.declared.RollRefused.TheVariants.{OutOfMemory}

-- the first right whose date is no day of the calendar
abbrev pub date_fault : List Right → Option RollRefused
date_fault rights = option_map BadDate (position has_bad_date rights)

-- the first right whose priority an earlier one has, with the first that has it. The rest begins at index n
abbrev pub same_from : List (List ℕ) → ℕ → List (List ℕ) → Option RollRefused
same_from keys n [] = None
same_from keys n (key ∷ rest) =
    let at = position_or_len (bytes_eq key) keys in
    if nat_lt at n then Some (SameSeniority at n) else same_from keys (n + 1) rest

abbrev pub same_seniority : List Right → Option RollRefused
same_seniority rights = let keys = map priority rights in same_from keys 0 keys

-- the first zone at fault
abbrev pub zone_fault : List Right → Option RollRefused
zone_fault rights = option_map ZoneOrder (find (has_zone_fault rights) (range_with_len 0 (length rights)))

-- a diversion returns more than it takes
abbrev pub has_many_parts : List ReturnRow → ℕ → Bool
has_many_parts returns right = nat_lt 10000 (parts_in returns right)

-- the first diversion that returns more than it takes
abbrev pub parts_fault : List Right → List ReturnRow → Option RollRefused
parts_fault rights returns = option_map ReturnParts (find (has_many_parts returns) (range_with_len 0 (length rights)))

-- the first fault: of dates, then of seniority, then of zones, then of return rows
unfoldable pub roll_fault : List Right → List ReturnRow → Option RollRefused
roll_fault rights returns =
    option_or (date_fault rights)
    (option_or (same_seniority rights) (option_or (zone_fault rights) (parts_fault rights returns)))

-- the refusal is the fault, or says that memory ran out, whatever the fault
abbrev pub IsRefusal : RollRefused → Option RollRefused → Type 0
IsRefusal OutOfMemory fault = ⊤
IsRefusal e fault = fault ≡ Some e

abbrev pub IsRollRefusal : RollRefused → List Right → List ReturnRow → Type 0
IsRollRefusal e rights returns = IsRefusal e (roll_fault rights returns)
