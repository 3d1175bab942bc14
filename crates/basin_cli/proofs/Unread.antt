-- What holds where there was no memory: a check or an audit did not ask for its result, and of a script what was shown
-- is flushed.
use Rattle.std.proofs.Common.{◌≡◌, refl}
use Rattle.basin_cli.specs.Ending.{status_of}
use Rattle.basin_cli.specs.Out.{WithoutMemory}
use Rattle.basin_cli.specs.declared.ending.Ending.{Ending}
use Rattle.basin_cli.specs.declared.ending.Ending.TheVariants as ending
use Rattle.basin_cli.specs.declared.ending.SecondFinding.TheVariants as of_second

pub unread : (P : Type 0) (how : Ending) → (how ≡ ending.OutOfMemory → P) → WithoutMemory (status_of how) P
unread P ending.OutOfMemory not = not refl
unread P (ending.SecondRefused (of_second.Basin finding)) not = tt
unread P (ending.SecondRefused of_second.OtherRun) not = tt
unread P (ending.SecondRefused (of_second.Series finding)) not = tt
unread P other not = tt
