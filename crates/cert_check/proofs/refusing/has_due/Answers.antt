use Rattle.std.proofs.Common.{sym}
use Rattle.cert_check.proofs.Dues.{some_left, none_left}
use Rattle.cert_check.proofs.refusing.has_due.Goals as goal

pub returns-in-Some : goal.returns-in-Some
returns-in-Some c = λ t k. sym (some_left k c.in-Some.ensures)

pub returns-in-None : goal.returns-in-None
returns-in-None c = λ t k. sym (none_left k c.in-None.ensures)
