-- Draws of the generator.
use Rattle.std.specs.Prelude.{ℕ, zero, suc, ◌+◌, ◌*◌, ◌/◌, ◌%◌, ◌^◌, List, [], ◌∷◌, ◌++◌}

-- the number that the generator keeps, by the one before
unfoldable pub next : ℕ → ℕ
next x = (x * 6364136223846793005 + 1442695040888963407) % 2 ^ 64

-- what is drawn below k where the number is x
unfoldable pub drawn : ℕ → ℕ → ℕ
drawn x k = next x / 2 ^ 33 % k

-- the number after this many draws
unfoldable pub later : ℕ → ℕ → ℕ
later x zero = x
later x (suc n) = next (later x n)

-- f 0, f 1, .., f (n - 1)
unfoldable pub list_of : {X : Type 0} → ℕ → (ℕ → X) → List X
list_of zero f = []
list_of (suc n) f = list_of n f ++ f n ∷ []
