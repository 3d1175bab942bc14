use Rattle.std.proofs.Common.{◌≡◌, ◌≤◌, ℕ, length, ap, arith}
use Rattle.std.specs.Fmt.{decimal}
use Rattle.water_text.proofs.MonthLaws.{decimal_year}
use Rattle.water_text.proofs.month.Month.put_into.Goals as goal

four : (year : ℕ) → 1000 ≤ year → year ≤ 9999 → length (decimal year) ≡ 4
four year low high = ap length (decimal_year year low high)

pub amount-requires : goal.amount-requires
amount-requires c = omega (arith, four c.from.result (omega arith) (omega arith))

pub word-requires : goal.word-requires
word-requires c = omega (arith, four c.from.result (omega arith) (omega arith))

pub word-requires-2 : goal.word-requires-2
word-requires-2 c = omega (arith, four c.from.result (omega arith) (omega arith))

pub returns-clause-length : goal.returns-clause-length
returns-clause-length c = omega (arith, four c.from.result (omega arith) (omega arith))
