-- A sink over a writer, as contracts see it.
use Rattle.std.specs.Prelude.{◌≡◌, ℕ, ◌≤◌, List, length, take, drop, Option}
use Rattle.std.specs.Io.KnownBytes.{Appends, append_known}
use Rattle.water_edge.specs.Edge.{Output}

-- a sink: the bytes that the writer holds, where they are known, those kept back, and how many calls failed
pub record WriterState : Type 0 where
  pub bytes : Option (List ℕ)
  pub kept : List ℕ
  pub faults : ℕ

-- the bytes that the sink took: those kept back come after those that the writer holds
abbrev pub taken_bytes : WriterState → Option (List ℕ)
taken_bytes sink = append_known sink.bytes sink.kept

-- what the writer holds is flushed
abbrev pub writer_output : WriterState → Output
writer_output sink = record { taken = taken_bytes sink; flushed = sink.bytes }

-- the writer took a prefix of what was kept, and the rest is kept
pub record Flushes (old new : WriterState) : Type 0 where
  pub count : ℕ
  pub within : count ≤ length old.kept
  pub written : Appends old.bytes new.bytes (take count old.kept)
  pub left : new.kept ≡ drop count old.kept
