use Rattle.std.proofs.Common.{sym, ap, subst, ◌∙◌}
use Rattle.result_reader.specs.ReadSoFar.{read_so_far}
use Rattle.cert_check.specs.Keeping.{Keeps}
use Rattle.cert_check.specs.declared.state.CheckState.{CheckState}
use Rattle.cert_check.specs.declared.progress.CheckProgress.{CheckProgress}
use Rattle.cert_check.proofs.Verdicts.{read_more}
use Rattle.cert_check.proofs.progress.take_item.Goals as goal

pub returns-in-None-clause-takes : goal.returns-in-None-clause-takes
returns-in-None-clause-takes c = λ items so_far.
    let t = read_so_far c.args.context.now.basin.now c.args.context.now.series.now items in
    let kept = subst (λ (a : CheckState). Keeps c.args.context.now.basin.now c.args.context.now.series.now a t)
    (sym c.deref_mut.ensures.value) so_far.state in
    let still = c.make_ready.ensures.keeps t kept in
    let ready = subst (λ (a : CheckState). Keeps c.args.context.now.basin.now c.args.context.now.series.now a t)
    (sym c.deref.ensures) still in
    let none = sym (c.in-None.ensures t ready so_far.comes) in
    let audited = c.take_audit.ensures.keeps t still in
    let known = subst (λ (a : CheckState). Keeps c.args.context.now.basin.now c.args.context.now.series.now a t)
    (sym c.deref_mut-in-None.ensures.value) audited in
    let entered = c.enter.ensures t known so_far.comes none in (
      none,
      rw (
        c.count.ensures.state,
        read_more c.args.context.now.basin.now c.args.context.now.series.now items c.args.item.now,
      ) entered,
      c.count.ensures.counts items (record {
        read = ap (λ (k : CheckProgress). k.read) c.take_audit.ensures.rest ∙ so_far.counts.read;
        last_other = ap (λ (k : CheckProgress). k.last_other) c.take_audit.ensures.rest ∙ so_far.counts.last_other;
        ended = ap (λ (k : CheckProgress). k.ended) c.take_audit.ensures.rest ∙ so_far.counts.ended;
      }),
      rw c.count.ensures.audit (c.take_audit.ensures.audit items (record {
        state = still;
        counts = record {
          read = so_far.counts.read;
          last_other = so_far.counts.last_other;
          ended = so_far.counts.ended;
        };
        comes = so_far.comes;
        ends = so_far.ends;
        audit = so_far.audit;
      })),
    )

pub enter-requires-clause-context : goal.enter-requires-clause-context
enter-requires-clause-context c = c.requires.context

pub first_row-requires-clause-context : goal.first_row-requires-clause-context
first_row-requires-clause-context c = c.requires.context

pub make_ready-requires-clause-context : goal.make_ready-requires-clause-context
make_ready-requires-clause-context c = c.requires.context

pub take_audit-requires-clause-context : goal.take_audit-requires-clause-context
take_audit-requires-clause-context c = c.requires.context

pub make_ready-requires-clause-item : goal.make_ready-requires-clause-item
make_ready-requires-clause-item c = c.requires.item

pub first_row-requires-clause-item : goal.first_row-requires-clause-item
first_row-requires-clause-item c = c.requires.item

pub take_audit-requires-clause-item : goal.take_audit-requires-clause-item
take_audit-requires-clause-item c = c.requires.item

pub enter-requires-clause-item : goal.enter-requires-clause-item
enter-requires-clause-item c = c.requires.item

pub take_audit-requires-clause-room : goal.take_audit-requires-clause-room
take_audit-requires-clause-room c = c.requires.room
