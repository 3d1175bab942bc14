use Rattle.std.proofs.Common.{refl}
use Rattle.basin_cli.proofs.editing.answer_edits.Goals as goal

pub returns-in-Ok-clause-flushed : goal.returns-in-Ok-clause-flushed
returns-in-Ok-clause-flushed g c = λ _. c.in-Ok.ensures.answers.3

pub returns-in-Err-OutOfMemory-clause-shown : goal.returns-in-Err-OutOfMemory-clause-shown
returns-in-Err-OutOfMemory-clause-shown g c =
    (rw c.in-Err-OutOfMemory.field-0-is at c.in-Err-OutOfMemory.ensures.shown) refl
