use Rattle.std.proofs.Common.{◌==◌, ◌%◌}
use Rattle.circulation.proofs.RowSums.{IsRowSum}
use Rattle.circulation.proofs.circulation_mut.CirculationMut.carried.Given as goal

abbrev pub invariant-loop-place : goal.invariant-loop-place
invariant-loop-place l = IsRowSum l.self.rows l.amounts l.node (λ s. s % 2 == l.way) l.place l.sum
