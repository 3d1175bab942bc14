use Rattle.std.proofs.Common.{arith}
use Rattle.water_text.proofs.AmountLaws.{decimal_short}
use Rattle.water_text.proofs.line.Line.add_number.Goals as goal

pub amount-requires : goal.amount-requires
amount-requires c = omega (arith, decimal_short c.args.value (omega arith))
