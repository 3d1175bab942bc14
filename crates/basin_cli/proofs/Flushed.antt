-- A text that was put and is flushed.
use Rattle.std.proofs.Common.{ℕ, List, length, take}
use Rattle.std.proofs.Math.Seq.{take-length}
use Rattle.water_edge.specs.Edge.{Extends, Output, Stays}
use Rattle.water_edge.proofs.Outputs.{Extends-kept}

-- the whole is a prefix
pub whole_prefix : (old mid new : Output) (text : List ℕ) → Extends old mid text → Stays mid new →
    (count : ℕ) × Extends old new (take count text)
whole_prefix old mid new text h k = (length text, rw (take-length text) (Extends-kept old mid new text h k))

-- the text of something that was put whole, where it couldn't be flushed
pub prefixes : {X : Type 0} (P : X → Type 0) (text : X → List ℕ) (old mid new : Output) →
    ((x : X) × P x × Extends old mid (text x)) → Stays mid new → (x : X) × P x ×
    ((count : ℕ) × Extends old new (take count (text x)))
prefixes P text old mid new put k = (put.0, put.1, whole_prefix old mid new (text put.0) put.2 k)

-- and where it could
pub kept : {X : Type 0} (P : X → Type 0) (text : X → List ℕ) (old mid new : Output) →
    ((x : X) × P x × Extends old mid (text x)) → Stays mid new → (x : X) × P x × Extends old new (text x)
kept P text old mid new put k = (put.0, put.1, Extends-kept old mid new (text put.0) put.2 k)
