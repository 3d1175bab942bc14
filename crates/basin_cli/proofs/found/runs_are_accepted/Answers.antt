use Rattle.basin_cli.proofs.FoundBytes.{runs_are_accepted}
use Rattle.basin_cli.proofs.found.runs_are_accepted.Goals as goal

pub returns : goal.returns
returns c = runs_are_accepted
