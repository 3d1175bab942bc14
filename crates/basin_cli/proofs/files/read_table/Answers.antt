use Rattle.std.proofs.Common.{arith}
use Rattle.basin_cli.specs.Header.{header}
use Rattle.basin_cli.proofs.Failing.{asks_none, asks_one}
use Rattle.basin_cli.proofs.files.read_table.Goals as goal

pub returns-in-None-clause-within : goal.returns-in-None-clause-within
unfolding header
returns-in-None-clause-within g c = omega arith

pub returns-in-None-clause-reads : goal.returns-in-None-clause-reads
returns-in-None-clause-reads g c = rw c.in-None.is (asks_none (g.S.Shelf.asked c.args.shelf.now))

pub returns-in_ok-text-in-Some-clause-reads : goal.returns-in_ok-text-in-Some-clause-reads
returns-in_ok-text-in-Some-clause-reads g c = rw c.in-Some.is (asks_one _ _ _ c.read_file.ensures.asked)

pub returns-in_err-text-in-Some-clause-reads : goal.returns-in_err-text-in-Some-clause-reads
returns-in_err-text-in-Some-clause-reads g c = rw c.in-Some.is (asks_one _ _ _ c.read_file.ensures.asked)
