use Rattle.std.proofs.Common.{arith}
use Rattle.cert_check.proofs.Standings.{bounded_lines, good_is}
use Rattle.cert_check.proofs.checker.Checker.finish.Goals as goal

pub overflow_add-next : goal.overflow_add-next
overflow_add-next c = grind (arith, bounded_lines, good_is)
