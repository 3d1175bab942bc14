-- What doing a command promises, and the call that does it.
use Rattle.std.specs.Prelude.{◌≡◌, Option, None}
use Rattle.water_edge.specs.Edge.{Output, Rose}
use Rattle.water_edge.specs.declared.shelf.Shelf
use Rattle.water_edge.specs.declared.sink.Sink
use Rattle.month_fold.specs.Works.{WorkDone}
use Rattle.edit_session.specs.Shown.{IsUntouchedOrFlushed}
use Rattle.basin_cli.specs.declared.ending.Ending.{Ending}
use Rattle.basin_cli.specs.declared.status.Status.{Status}
use Rattle.basin_cli.specs.Command.{Command}
use Rattle.basin_cli.specs.Ending.{CanBePrinted, status_of}
use Rattle.basin_cli.specs.Failed.{file_at}
use Rattle.basin_cli.specs.Out.{IsStopped, IsUnread, KeepsShown, MayWrite}
use Rattle.basin_cli.specs.Outcome.{Ends, IsQuiet, row}

-- The ending has its cause and a line, and what is left on out, what was read and which months were solved are as the
-- ending says. `shelf` and `sink` tell what a state of the shelf and of out is seen as, and `before` and `after` are
-- the work done.
pub record Serves {S K : Type 0} (shelf : Shelf.Ghosts S) (sink : Sink.Ghosts K) (command : Option Command)
    (how : Ending) (shelf_old shelf_new : S) (old new : K) (before after : WorkDone) : Type 0 where
  pub cause : (row command).cause how (shelf.known shelf_old)
      (Rose (shelf.faults shelf_old) (shelf.faults shelf_new)) (Rose (sink.faults old) (sink.faults new))
  pub asked : (row command).asks how (shelf.asked shelf_old) (shelf.asked shelf_new)
  pub can_be_printed : CanBePrinted how
  pub writes : (row command).writes (status_of how) (shelf.known shelf_old) (sink.output old) (sink.output new)
      before after
  pub out_stays : ((row command).may (status_of how) → ⊥) → new ≡ old
  pub flushed : IsQuiet (status_of how) → (sink.output new).flushed ≡ (sink.output new).taken
  pub shown : KeepsShown command (status_of how) (IsUntouchedOrFlushed old new (sink.output new))
  pub unread : IsUnread command (status_of how) (shelf.asked shelf_old) (shelf.asked shelf_new)
  pub idle : (row command).rests (status_of how) → after ≡ before
  pub work : (row command).work (shelf.known shelf_old) before after

-- What doing a command's work promises, after its files: it ends at none of them and as `Ends` says, and what it leaves on
-- out and solves is as `Leaves` and `Work` say. Where something is refused or memory is lacking, nothing is solved.
pub record Acts {K : Type 0} (sink : Sink.Ghosts K) (Ends : Ending → Type 0 → Type 0)
    (Leaves : Status → Output → Output → WorkDone → WorkDone → Type 0) (Work : WorkDone → WorkDone → Type 0)
    (how : Ending) (old new : K) (before after : WorkDone) : Type 0 where
  pub ends : Ends how (Rose (sink.faults old) (sink.faults new))
  pub at : file_at how ≡ None
  pub leaves : MayWrite (status_of how) → Leaves (status_of how) (sink.output old) (sink.output new) before after
  pub out_stays : (MayWrite (status_of how) → ⊥) → new ≡ old
  pub idle : IsStopped (status_of how) → after ≡ before
  pub work : Work before after
  pub flushed : IsQuiet (status_of how) → (sink.output new).flushed ≡ (sink.output new).taken

-- All that `basin_main` promises of a status, clause by clause, in the words of its contract. `shelf`, `out` and `err`
-- tell what a state of each is seen as, and `before` and `after` are the work done.
pub record IsServed {S K E : Type 0} (shelf : Shelf.Ghosts S) (out : Sink.Ghosts K) (err : Sink.Ghosts E)
    (command : Option Command) (status : Status) (shelf_old shelf_new : S) (out_old out_new : K) (err_old err_new : E)
    (before after : WorkDone) : Type 0 where
  pub ends : Ends command status (shelf.known shelf_old) (Rose (shelf.faults shelf_old) (shelf.faults shelf_new))
      (Rose (out.faults out_old) (out.faults out_new)) (shelf.asked shelf_old) (shelf.asked shelf_new)
      (err.output err_old) (err.output err_new) (err.faults err_old) (err.faults err_new)
  pub complete : (row command).completes status (shelf.known shelf_old)
      (Rose (shelf.faults shelf_old) (shelf.faults shelf_new)) (Rose (out.faults out_old) (out.faults out_new))
  pub writes : (row command).writes status (shelf.known shelf_old) (out.output out_old) (out.output out_new) before after
  pub out_stays : ((row command).may status → ⊥) → out_new ≡ out_old
  pub err_stays : IsQuiet status → err_new ≡ err_old
  pub flushed : IsQuiet status → (out.output out_new).flushed ≡ (out.output out_new).taken
  pub shown : KeepsShown command status (IsUntouchedOrFlushed out_old out_new (out.output out_new))
  pub err_flushed : (IsQuiet status → ⊥) → (Rose (err.faults err_old) (err.faults err_new) → ⊥) →
      (err.output err_new).flushed ≡ (err.output err_new).taken
  pub unread : IsUnread command status (shelf.asked shelf_old) (shelf.asked shelf_new)
  pub idle : (row command).rests status → after ≡ before
  pub work : (row command).work (shelf.known shelf_old) before after
