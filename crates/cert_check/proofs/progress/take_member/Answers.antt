use Rattle.std.proofs.Common.{sym, ap, subst, refl, ◌∙◌}
use Rattle.result_lines.specs.declared.item.Item.TheVariants as line
use Rattle.result_reader.specs.ReadSoFar.{read_so_far}
use Rattle.cert_check.specs.Keeping.{Keeps}
use Rattle.cert_check.specs.declared.state.CheckState.{CheckState}
use Rattle.cert_check.specs.declared.progress.CheckProgress.{CheckProgress}
use Rattle.cert_check.proofs.MemberLines.{no_row}
use Rattle.cert_check.proofs.Verdicts.{read_more}
use Rattle.cert_check.proofs.progress.take_member.Goals as goal

pub take_audit-requires-clause-good : goal.take_audit-requires-clause-good
take_audit-requires-clause-good c = λ t k m.
    no_row c.args.context.now.basin.now c.args.context.now.series.now t (line.Member c.args.node) refl

pub returns-clause-takes : goal.returns-clause-takes
returns-clause-takes c = λ items so_far.
    let t = read_so_far c.args.context.now.basin.now c.args.context.now.series.now items in
    let audited = c.take_audit.ensures.keeps t so_far.state in
    let known = subst (λ (a : CheckState). Keeps c.args.context.now.basin.now c.args.context.now.series.now a t)
    (sym c.deref_mut.ensures.value) audited in
    let entered = c.enter_node.ensures t known so_far.comes in (
      no_row c.args.context.now.basin.now c.args.context.now.series.now t (line.Member c.args.node) refl,
      rw (
        c.count.ensures.state,
        read_more c.args.context.now.basin.now c.args.context.now.series.now items (line.Member c.args.node),
      ) entered,
      c.count.ensures.counts items (record {
        read = ap (λ (k : CheckProgress). k.read) c.take_audit.ensures.rest ∙ so_far.counts.read;
        last_other = ap (λ (k : CheckProgress). k.last_other) c.take_audit.ensures.rest ∙ so_far.counts.last_other;
        ended = ap (λ (k : CheckProgress). k.ended) c.take_audit.ensures.rest ∙ so_far.counts.ended;
      }),
      rw c.count.ensures.audit (c.take_audit.ensures.audit items so_far),
    )

pub enter_node-requires-clause-context : goal.enter_node-requires-clause-context
enter_node-requires-clause-context c = c.requires.context

pub take_audit-requires-clause-context : goal.take_audit-requires-clause-context
take_audit-requires-clause-context c = c.requires.context
