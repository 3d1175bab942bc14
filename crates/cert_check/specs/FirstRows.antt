-- The first of some rows that holds.
use Rattle.std.specs.Prelude.{List, [], ◌∷◌, Option, Some, None, if◌then◌else◌}
use Rattle.cert_check.specs.Checking.{Row}
use Rattle.cert_check.specs.declared.refuted.RefutedKind.{RefutedKind}

-- the kind of the first row that holds
abbrev pub first_of : List Row → Option RefutedKind
first_of [] = None
first_of (row ∷ rows) = if row.1 then Some row.0 else first_of rows
