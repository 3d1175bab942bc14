use Rattle.basin_file.proofs.Faultless.{faultless_files_are_valid}
use Rattle.basin_file.proofs.laws.faultless_files_are_valid.Goals as goal

pub returns : goal.returns
returns c = faultless_files_are_valid
