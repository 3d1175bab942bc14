-- What is at fault in an area table.
use Rattle.std.specs.Prelude.{◌≡◌, ℕ, ◌+◌, ◌==◌, nat_lt, nat_le, List, [], ◌∷◌, Option, Some, None, if◌then◌else◌}
use Rattle.water_model.specs.declared.types.AreaPoint.{AreaPoint}
use Rattle.reservoirs.specs.declared.TableRefused.{TableRefused}
use Rattle.reservoirs.specs.declared.TableRefused.TheVariants.{Empty, FirstNotZero, NotRising, AreaFalls, OutOfMemory}

-- the first point at fault after a point, where the next one has number n
abbrev pub fault_after : AreaPoint → ℕ → List AreaPoint → Option TableRefused
fault_after before n [] = None
fault_after before n (p ∷ points) =
    if nat_le p.storage before.storage then Some (NotRising n)
    else (if nat_lt p.area before.area then Some (AreaFalls n) else fault_after p (n + 1) points)

-- the first fault of a table
abbrev pub table_fault : List AreaPoint → Option TableRefused
table_fault [] = Some Empty
table_fault (p ∷ points) = if p.storage == 0 then fault_after p 1 points else Some FirstNotZero

-- a refusal names the first fault, or where there is none says that memory ran out
abbrev pub IsTableRefusal : TableRefused → List AreaPoint → Type 0
IsTableRefusal OutOfMemory points = table_fault points ≡ None
IsTableRefusal e points = table_fault points ≡ Some e
