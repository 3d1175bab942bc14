-- A shelf and a sink in memory, as contracts see them.
use Rattle.std.specs.Prelude.{ℕ, ◌+◌, ◌-◌, ◌<◌, min, List, [], ◌∷◌, ◌++◌, length, Contains, ◌⊎◌, Option, None, Some}
use Rattle.std.specs.Prelude.{IsNone, Result, Ok, Err, Vec, String, string_bytes, if◌then◌else◌}
use Rattle.std.specs.Str.{bytes_eq}
use Rattle.std.specs.declared.alloc.Global.{Global}
use Rattle.water_edge.specs.declared.shelf.ShelfRefused.{ShelfRefused}
use Rattle.water_edge.specs.declared.shelf.ShelfRefused.TheVariants.{Failed}
use Rattle.water_edge.specs.Edge.{next_count, Output}

-- a file and its name
pub record NamedFile : Type 0 where
  pub name : List ℕ
  pub bytes : List ℕ

-- a file in memory, as its name and bytes
abbrev pub plain_file : String Global × Vec ℕ Global → NamedFile
plain_file file = record { name = string_bytes file.0; bytes = file.1.items }

-- the bytes of the first file of the name
abbrev pub file_of : List NamedFile → List ℕ → Option (List ℕ)
file_of [] name = None
file_of (file ∷ files) name = if bytes_eq file.name name then Some file.bytes else file_of files name

-- a shelf: its files, how many bytes a part may have, the numbers of the calls that are to fail, and how many calls
-- there were and failed
pub record ShelfState : Type 0 where
  pub files : List NamedFile
  pub most : ℕ
  pub failing : List ℕ
  pub calls : ℕ
  pub faults : ℕ

-- the number of the next call is listed, or there is no file of the name
abbrev pub FailsToRead : ShelfState → List ℕ → Type 0
FailsToRead shelf name = Contains shelf.failing shelf.calls ⊎ IsNone (file_of shelf.files name)

-- the shelf after a call: one call more, and one fault more where it failed
abbrev pub after_read : {T : Type 0} → ShelfState → Result T ShelfRefused → ShelfState
after_read shelf (Err Failed) = record shelf { calls = next_count shelf.calls; faults = next_count shelf.faults }
after_read shelf _ = record shelf { calls = next_count shelf.calls }

-- how many bytes a part has: those from index `from` onwards, as many as there are, as fit, and as a part may have
abbrev pub part_length : ShelfState → List ℕ → ℕ → ℕ → ℕ
part_length shelf whole from room = min (min room shelf.most) (length whole - from)

-- a sink: the bytes taken, how many there may be, the numbers of the calls that are to fail, and how many there were
-- and failed
pub record SinkState : Type 0 where
  pub bytes : List ℕ
  pub room : ℕ
  pub failing : List ℕ
  pub calls : ℕ
  pub faults : ℕ

-- a sink in memory keeps nothing back
abbrev pub memory_output : SinkState → Output
memory_output sink = record { taken = Some sink.bytes; flushed = Some sink.bytes }

-- the number of the next call is listed, or the piece is longer than the free room
abbrev pub FailsToPut : SinkState → List ℕ → Type 0
FailsToPut sink piece = Contains sink.failing sink.calls ⊎ (sink.room < length sink.bytes + length piece)

-- the sink after a call: one call more, and the piece taken, or one fault more
abbrev pub after_put : {E : Type 0} → SinkState → List ℕ → Result (Unit {0}) E → SinkState
after_put sink piece (Ok _) = record sink { bytes = sink.bytes ++ piece; calls = next_count sink.calls }
after_put sink piece (Err _) = record sink { calls = next_count sink.calls; faults = next_count sink.faults }
