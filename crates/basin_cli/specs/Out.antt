-- What a status leaves on out.
use Rattle.std.specs.Prelude.{◌≡◌, ◌≢◌, ℕ, List, take, Option, Some, ⊤}
use Rattle.water_edge.specs.Edge.{Extends, Output}
use Rattle.basin_cli.specs.declared.status.Status.{Status}
use Rattle.basin_cli.specs.declared.status.Status.TheVariants.{Done, No, WriteFault, OutOfMemory}
use Rattle.basin_cli.specs.Command.{Command, Files, check, edit}

-- only these statuses may leave bytes on out
abbrev pub MayWrite : Status → Type 0
MayWrite Done = ⊤
MayWrite No = ⊤
MayWrite WriteFault = ⊤
MayWrite status = ⊥

-- of `edit` also want of memory, which may come after months that were shown
abbrev pub MayShow : Status → Type 0
MayShow OutOfMemory = ⊤
MayShow status = MayWrite status

-- words, a file or a script were refused, or not read: nothing is solved
abbrev pub IsRefusal : Status → Type 0
IsRefusal Done = ⊥
IsRefusal No = ⊥
IsRefusal WriteFault = ⊥
IsRefusal OutOfMemory = ⊥
IsRefusal status = ⊤

-- or there was no memory
abbrev pub IsStopped : Status → Type 0
IsStopped OutOfMemory = ⊤
IsStopped status = IsRefusal status

-- this holds where there was no memory
abbrev pub WithoutMemory : Status → Type 0 → Type 0
WithoutMemory OutOfMemory P = P
WithoutMemory status P = ⊤

-- months that `edit` showed before memory ran out were flushed
abbrev pub KeepsShown : Option Command → Status → Type 0 → Type 0
KeepsShown (Some (edit files script)) status flushed = WithoutMemory status flushed
KeepsShown command status flushed = ⊤

-- a result that has a name of its own was not asked for: `old` and `new` count the calls for each name, where that is
-- known
abbrev pub AsksNot : Files → List ℕ → (List ℕ → Option ℕ) → (List ℕ → Option ℕ) → Type 0
AsksNot files result old new = result ≢ files.basin → Some result ≢ files.series → new result ≡ old result

-- where a check or an audit finds no memory, its result was not asked for
abbrev pub IsUnread : Option Command → Status → (List ℕ → Option ℕ) → (List ℕ → Option ℕ) → Type 0
IsUnread (Some (check asked files result)) status old new = WithoutMemory status (AsksNot files result old new)
IsUnread command status old new = ⊤

-- the text is appended to out, or after a fault of out a prefix of it
abbrev pub Leaves : Status → List ℕ → Output → Output → Type 0
Leaves WriteFault text old new = (count : ℕ) × Extends old new (take count text)
Leaves status text old new = Extends old new text
