use Rattle.std.proofs.Common.{sym, ap, ◌∙◌}
use Rattle.std.specs.Prelude.{not}
use Rattle.cert_check.specs.Checking.{is_due}
use Rattle.cert_check.proofs.Dues.{due_here, none_due}
use Rattle.cert_check.proofs.refusing.is_not_due.Goals as goal

pub returns-in-Some : goal.returns-in-Some
returns-in-Some c = λ t k. ap not (c.is_pair.ensures ∙ ap (is_due c.args.right c.args.by) (sym (due_here k
    c.in-Some.ensures)))

pub returns-in-None : goal.returns-in-None
returns-in-None c = λ t k. ap (λ o. not (is_due c.args.right c.args.by o)) (sym (none_due k c.in-None.ensures))
