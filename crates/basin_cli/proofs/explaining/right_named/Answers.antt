use Rattle.std.proofs.Common.{sym, ◌∙◌}
use Rattle.basin_names.proofs.Names.{rights-position}
use Rattle.basin_cli.proofs.Asked.{right_found, right_missing}
use Rattle.basin_cli.proofs.explaining.right_named.Goals as goal

pub returns-in-Some-clause-some : goal.returns-in-Some-clause-some
returns-in-Some-clause-some c =
    right_found c.args.basin.now c.args.name.now c.in-Some.at
    (rights-position c.args.basin.now c.args.name.now ∙ sym c.in-Some.ensures)

pub returns-in-None-clause-none : goal.returns-in-None-clause-none
returns-in-None-clause-none c =
    right_missing c.args.basin.now c.args.name.now
    (rights-position c.args.basin.now c.args.name.now ∙ sym c.in-None.ensures)
