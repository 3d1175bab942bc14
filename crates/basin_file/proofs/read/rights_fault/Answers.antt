use Rattle.std.proofs.Common.{rules}
use Rattle.basin_file.proofs.Faultless.{roll_found}
use Rattle.basin_file.proofs.read.rights_fault.Goals as goal

pub returns-in-Some : goal.returns-in-Some
returns-in-Some c =
    roll_found c.args.basin.now.rights c.args.basin.now.returns c.in-Err.e c.in-Some.finding (search rules)
    (search rules)
