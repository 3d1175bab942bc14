use Rattle.std.proofs.Common.{sym, subst}
use Rattle.result_reader.specs.ReadSoFar.{read_so_far}
use Rattle.cert_check.specs.Keeping.{Keeps}
use Rattle.cert_check.specs.declared.state.CheckState.{CheckState}
use Rattle.cert_check.proofs.Audits.{audit_taken}
use Rattle.cert_check.proofs.progress.take_audit.Goals as goal

pub returns-in-Some-clause-audit : goal.returns-in-Some-clause-audit
returns-in-Some-clause-audit c = λ items so_far.
    let t = read_so_far c.args.context.now.basin.now c.args.context.now.series.now items in
    let kept = subst (λ (a : CheckState). Keeps c.args.context.now.basin.now c.args.context.now.series.now a t)
    (sym c.deref_mut.ensures.value) so_far.state in
    audit_taken c.requires.item so_far (c.requires.good t so_far.state so_far.comes) c.in-Some.is
    (c.audit_item.ensures.takes t kept)

pub audit_item-requires-clause-context : goal.audit_item-requires-clause-context
audit_item-requires-clause-context c = c.requires.context
