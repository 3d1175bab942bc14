-- What a call of a shelf or a sink answers, and what is so after it.
use Rattle.std.specs.Prelude.{◌≡◌, ◌≢◌, ℕ, ◌+◌, ◌-◌, ◌^◌, ◌<◌, ◌≤◌, min, List, length, take, drop, ⊤, Option, None}
use Rattle.std.specs.Prelude.{Some, IfSome, Result, Ok, Err, Vec}
use Rattle.std.specs.declared.alloc.Global.{Global}
use Rattle.std.specs.Io.KnownBytes.{Appends, Keeps}
use Rattle.water_edge.specs.declared.shelf.ShelfRefused.{ShelfRefused}
use Rattle.water_edge.specs.declared.shelf.ShelfRefused.TheVariants.{Failed, TooLong, OutOfMemory}

-- one more than a count of 64 bits, which stands still at its last value
abbrev pub next_count : ℕ → ℕ
next_count count = min (count + 1) (2 ^ 64 - 1)

-- the count is greater than before, or stands at its last value
abbrev pub Rose : ℕ → ℕ → Type 0
Rose before now = next_count before ≤ now

-- the count of faults never falls, and the fault is answered only where the count rose
pub record HasCause (before now : ℕ) (fault : Type 0) : Type 0 where
  pub later : before ≤ now
  pub rose : fault → Rose before now

-- the bytes that are known under each name stay, and each name that was served still is
pub record SameShelf (known_old known_new : List ℕ → Option (List ℕ)) (serves_old serves_new : List ℕ →
    Type 0) : Type 0 where
  pub known : (name : List ℕ) → known_new name ≡ known_old name
  pub served : (name : List ℕ) → serves_old name → serves_new name

-- a call asked for this file, where that is known, and for no other
pub record AsksFor (old new : List ℕ → Option ℕ) (name : List ℕ) : Type 0 where
  pub once : IfSome (old name) (λ count. new name ≡ Some (next_count count))
  pub others : (other : List ℕ) → other ≢ name → new other ≡ old other

-- where the file is known: all its bytes, which are within the limit, or else TooLong only where they are beyond it
abbrev pub ReadsWhole : Option (List ℕ) → ℕ → Result (Vec ℕ Global) ShelfRefused → Type 0
ReadsWhole None limit result = ⊤
ReadsWhole (Some whole) limit (Ok bytes) = (bytes.items ≡ whole) × (length whole ≤ limit)
ReadsWhole (Some whole) limit (Err TooLong) = limit < length whole
ReadsWhole (Some whole) limit (Err Failed) = ⊤
ReadsWhole (Some whole) limit (Err OutOfMemory) = ⊤

-- the first `count` bytes of a buffer are those of a file from index `from` onwards, and the others stay; there are
-- none only where the buffer is empty or the file has no byte from there onwards
pub record IsPart (whole : List ℕ) (from : ℕ) (old new : List ℕ) (count : ℕ) : Type 0 where
  pub there : 0 < count → from + count ≤ length whole
  pub prefix : take count new ≡ take count (drop from whole)
  pub after : drop count new ≡ drop count old
  pub ended : count ≡ 0 → 0 < length old → length whole ≤ from

-- a part fits into the buffer, and where the file is known it is a part of that
abbrev pub ReadsPart : Option (List ℕ) → ℕ → List ℕ → List ℕ → Result ℕ ShelfRefused → Type 0
ReadsPart known from old new (Ok count) = (count ≤ length old) × IfSome known (λ whole. IsPart whole from old new count)
ReadsPart known from old new (Err _) = ⊤

-- what a sink took, and what of that it flushed, as far as they are known
pub record Output : Type 0 where
  pub taken : Option (List ℕ)
  pub flushed : Option (List ℕ)

-- the first bytes are a prefix of the second, as far as both are known
abbrev pub IsKnownPrefix : Option (List ℕ) → Option (List ℕ) → Type 0
IsKnownPrefix a b = (rest : List ℕ) × Appends a b rest

-- what was flushed stays so, and if it was a prefix of what was taken, it still is
pub record Passes (old new : Output) : Type 0 where
  pub later : IsKnownPrefix old.flushed new.flushed
  pub within : IsKnownPrefix old.flushed old.taken → IsKnownPrefix new.flushed new.taken

-- the bytes taken grow by a piece, and any of them may be flushed
pub record Extends (old new : Output) (piece : List ℕ) : Type 0 where
  pub taken : Appends old.taken new.taken piece
  pub passes : Passes old new

-- the bytes taken stay, and more of them may be flushed
pub record Stays (old new : Output) : Type 0 where
  pub taken : Keeps old.taken new.taken
  pub passes : Passes old new

-- these bytes were taken after those that an earlier state took, and all up to their end is flushed now
abbrev pub HasFlushed : Output → Output → List ℕ → Type 0
HasFlushed old now bytes = (mid : Option (List ℕ)) × Appends old.taken mid bytes × IsKnownPrefix mid now.flushed

-- the bytes taken grow by the whole piece, or after a failure by a prefix of it
abbrev pub Puts : {E : Type 0} → Output → Output → Result (Unit {0}) E → List ℕ → Type 0
Puts old new (Ok _) piece = Extends old new piece
Puts old new (Err _) piece = (count : ℕ) × (count ≤ length piece) × Extends old new (take count piece)
