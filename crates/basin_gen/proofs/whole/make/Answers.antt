use Rattle.basin_gen.proofs.Validity.{no_series}
use Rattle.basin_gen.proofs.whole.make.Goals as goal

pub returns-clause-series : goal.returns-clause-series
returns-clause-series c =
    rw (c.in_ok-basin.ensures, c.new.ensures, c.new-2.ensures, c.new-3.ensures, c.new-4.ensures)
    (no_series c.args.number c.args.size)
