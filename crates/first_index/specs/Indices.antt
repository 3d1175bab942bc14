-- The first index of each text, in a list and in a map.
use Rattle.std.specs.Prelude.{◌≡◌, ℕ, ◌+◌, List, [], ◌∷◌, Bool, Option, Some, None, if◌then◌else◌}
use Rattle.std.specs.Borrow.{Bor}
use Rattle.std.specs.Option.{option_or}
use Rattle.std.specs.Str.{bytes_eq}
use Rattle.indexmap.specs.IndexMap.{IndexMap, get_by}

-- the index of the first entry that passes a test, in a list whose indices begin at n
abbrev pub first_from : {X : Type 0} → (X → Bool) → ℕ → List X → Option ℕ
first_from test n [] = None
first_from test n (x ∷ xs) = if test x then Some n else first_from test (n + 1) xs

module _ {V S : Type 0} where
  -- what a map has at a text
  abbrev pub index_at : IndexMap (Bor (List ℕ)) V S → List ℕ → Option V
  index_at indices text = get_by (λ key. bytes_eq text key.now) indices

  -- a text has the index from now on, unless it had one; other texts keep theirs
  abbrev pub AddsIndex : IndexMap (Bor (List ℕ)) V S → IndexMap (Bor (List ℕ)) V S → List ℕ → V → Type 0
  AddsIndex old new own index =
      (text : List ℕ) → index_at new text
      ≡ option_or (index_at old text) (if bytes_eq text own then Some index else None)
