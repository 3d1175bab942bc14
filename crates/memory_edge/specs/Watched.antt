-- A shelf whose calls for one file are counted, as contracts see it.
use Rattle.std.specs.Prelude.{ℕ, List, Option, None, Some, if◌then◌else◌}
use Rattle.std.specs.Str.{bytes_eq}

-- the shelf, the name that is watched, and how many calls asked for it
pub record Watched (S : Type 0) : Type 0 where
  pub shelf : S
  pub name : List ℕ
  pub asked : ℕ

abbrev pub asked_of : {S : Type 0} → Watched S → List ℕ → Option ℕ
asked_of w name = if bytes_eq w.name name then Some w.asked else None
