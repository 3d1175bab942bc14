-- Sets of nodes by a test.
use Rattle.std.specs.Prelude.{ℕ, Bool, List, map}
use Rattle.std.specs.List.{range_with_len}

-- the set of the nodes below n that pass the test
abbrev pub set_where : ℕ → (ℕ → Bool) → List Bool
set_where n y = map y (range_with_len 0 n)
