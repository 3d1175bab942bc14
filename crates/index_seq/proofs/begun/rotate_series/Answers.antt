use Rattle.std.proofs.Common.{arith}
use Rattle.index_seq.proofs.Rotation.{small_place}
use Rattle.index_seq.proofs.begun.rotate_series.Goals as goal

pub overflow_mul-at-2 : goal.overflow_mul-at-2
overflow_mul-at-2 c =
    rw c.len.ensures (omega (
      arith,
      small_place c.args.basin.now c.args.series.now c.args.years c.requires.basin c.requires.series
          c.requires.years,
    ))
