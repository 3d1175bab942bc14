use Rattle.std.proofs.Common.{arith}
use Rattle.water_model.proofs.Entries.{bounded_reservoirs}
use Rattle.water_model.proofs.space.count_in.Goals as goal

pub overflow_cast-result-in-Reservoirs : goal.overflow_cast-result-in-Reservoirs
overflow_cast-result-in-Reservoirs c =
    omega (arith, bounded_reservoirs c.args.basin.now c.requires, c.len-in-Reservoirs.ensures)
