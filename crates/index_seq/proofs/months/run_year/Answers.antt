use Rattle.std.proofs.Common.{◌≡◌, arith}
use Rattle.index_seq.proofs.months.run_year.Goals as goal

pub returns-clause-under_way : goal.returns-clause-under_way
returns-clause-under_way g c =
    let all : c.loop-months.months ≡ 12 = omega arith in rw all at c.loop-months.invariant.under_way
