use Rattle.basin_cli.proofs.FoundBytes.{runs_are_audited}
use Rattle.basin_cli.proofs.found.runs_are_audited.Goals as goal

pub returns : goal.returns
returns c = runs_are_audited
