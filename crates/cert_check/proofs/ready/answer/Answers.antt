use Rattle.cert_check.proofs.Dues.{keeps_all}
use Rattle.cert_check.proofs.ready.answer.Goals as goal

pub returns-in-None-clause-keeps : goal.returns-in-None-clause-keeps
returns-in-None-clause-keeps c = λ t k. rw c.len-state.ensures (keeps_all
    (c.know_callers.ensures.keeps t k) c.in-None.ensures)
