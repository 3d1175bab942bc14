-- Lines of input, whose bytes come in pieces.
use Rattle.std.specs.Prelude.{◌≡◌, ℕ, ◌+◌, ◌≤◌, ◌==◌, Bool, true, false, List, [], ◌∷◌, ◌++◌, length, take, drop, All}
use Rattle.std.specs.Prelude.{◌⊎◌}

-- what is held of a line, and whether it is whole
pub record LineHeld : Type 0 where
  pub bytes : List ℕ
  pub whole : Bool

abbrev pub nothing_held : LineHeld
nothing_held = record { bytes = []; whole = false }

-- at most 129 bytes are held, and at most 128 of a line that isn't whole
pub record HasRoom (held : ℕ) (whole : Bool) : Type 0 where
  pub most : held ≤ 129
  pub short : whole ≡ false → held ≤ 128

-- a line feed
abbrev pub is_feed : ℕ → Bool
is_feed byte = byte == 10

abbrev pub HasNoFeed : List ℕ → Type 0
HasNoFeed bytes = All (λ byte. is_feed byte ≡ false) bytes

-- all of a piece without a line feed is taken and held
pub record TakesAll (old new piece : List ℕ) (taken : ℕ) : Type 0 where
  pub all : taken ≡ length piece
  pub no_feed : HasNoFeed piece
  pub held : new ≡ old ++ piece
  pub short : length new ≤ 128

-- the bytes before the first line feed are taken and held, and it is taken
pub record TakesToFeed (old new piece : List ℕ) (taken : ℕ) : Type 0 where
  pub before : List ℕ
  pub ended : piece ≡ before ++ 10 ∷ drop taken piece
  pub count : taken ≡ length before + 1
  pub no_feed : HasNoFeed before
  pub held : new ≡ old ++ before
  pub short : length new ≤ 128

-- bytes without a line feed are taken until 129 are held
pub record TakesToFull (old new piece : List ℕ) (taken : ℕ) : Type 0 where
  pub no_feed : HasNoFeed (take taken piece)
  pub held : new ≡ old ++ take taken piece
  pub full : length new ≡ 129

-- the first `taken` bytes of a piece are taken, and then the line is whole or not
abbrev pub Takes : Bool → List ℕ → List ℕ → List ℕ → ℕ → Type 0
Takes false old new piece taken = TakesAll old new piece taken
Takes true old new piece taken = TakesToFeed old new piece taken ⊎ TakesToFull old new piece taken
