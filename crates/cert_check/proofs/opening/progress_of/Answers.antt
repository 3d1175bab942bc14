use Rattle.std.proofs.Common.{refl}
use Rattle.cert_check.proofs.Beginnings.{first_book}
use Rattle.cert_check.proofs.opening.progress_of.Goals as goal

pub returns-clause-none : goal.returns-clause-none
returns-clause-none c = λ series.
    first_book c.in_ok-open.ensures.basin c.in_ok-open.ensures.none (c.in_ok-blank_state.ensures series) refl refl
    refl c.requires.audit
