-- Amounts, and how often each came.
use Rattle.std.specs.Prelude.{ℕ, List, [], ◌∷◌, nat_lt, ◌==◌, count_by, if◌then◌else◌}

-- an amount put into a rising list, unless it stands there
abbrev pub put_amount : ℕ → List ℕ → List ℕ
put_amount x [] = x ∷ []
put_amount x (y ∷ ys) = if nat_lt x y then x ∷ y ∷ ys else if x == y then y ∷ ys else y ∷ put_amount x ys

-- the different amounts, rising
abbrev pub rising : List ℕ → List ℕ
rising [] = []
rising (x ∷ xs) = put_amount x (rising xs)

-- how often an amount came
abbrev pub count_of : ℕ → List ℕ → ℕ
count_of x xs = count_by (λ y. y == x) xs
