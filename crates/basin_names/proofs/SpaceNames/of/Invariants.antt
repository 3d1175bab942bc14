use Rattle.std.proofs.Common.{◌≡◌, ℕ, List}
use Rattle.std.specs.Prelude.{find}
use Rattle.std.specs.Str.{bytes_eq}
use Rattle.water_model.specs.Indices.{numbers_from}
use Rattle.water_model.specs.Entries.{name_in}
use Rattle.first_index.specs.Indices.{index_at}
use Rattle.basin_names.proofs.SpaceNames.of.Given as goal

-- the map has the names of the entries so far
abbrev pub invariant-loop-at : goal.invariant-loop-at
invariant-loop-at l =
    (q : List ℕ) → index_at l.indices q ≡ find (λ at. bytes_eq q (name_in l.space l.basin at)) (numbers_from 0 l.at)
