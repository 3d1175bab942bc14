-- The fields of a line.
use Rattle.std.specs.Prelude.{ℕ, List, [], Option, Some, None, ◌==◌}
use Rattle.std.specs.Borrow.{Bor}
use Rattle.std.specs.List.{slice_split}

-- what stands between the spaces of a line
abbrev pub pieces_of : List ℕ → List (List ℕ)
pieces_of bytes = slice_split (λ byte. byte == 32) bytes

-- and in what stands after a space, if there is one
abbrev pub pieces_after : Option (Bor (List ℕ)) → List (List ℕ)
pieces_after None = []
pieces_after (Some rest) = pieces_of rest.now
