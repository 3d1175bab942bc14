use Rattle.std.proofs.Common.{◌≡◌, sym, ap, ◌∙◌, arith}
use Rattle.std.specs.Prelude.{Ok}
use Rattle.result_reader.specs.Reading.{read_line}
use Rattle.cert_check.proofs.Standings.{bounded_lines, line_judged, judged_ended, judged_bad, judged_item, line_comes}
use Rattle.cert_check.proofs.Standings.{line_ends, took}
use Rattle.cert_check.proofs.progress.take_line.Goals as goal

pub overflow_add-next : goal.overflow_add-next
overflow_add-next c =
    omega (
      arith,
      bounded_lines c.requires.context.valid c.requires.lines.stands,
    )

pub returns-then-progress-clause-takes : goal.returns-then-progress-clause-takes
returns-then-progress-clause-takes c = λ lines s. rw s.counts.read
    (line_judged c.args.context.now.basin.now c.args.context.now.series.now lines c.args.text.now s.verdict
    (judged_ended c.args.context.now.basin.now c.args.context.now.series.now s.items c.args.text.now
    (sym s.counts.ended ∙ c.if-progress.true)))

pub take_item-requires-clause-so_far : goal.take_item-requires-clause-so_far
take_item-requires-clause-so_far c =
    let s = c.requires.lines.stands in
    let read : read_line c.args.context.now.basin.now s.items c.args.text.now ≡ Ok c.in-Ok.item =
    ap (λ x. read_line x s.items c.args.text.now) (sym s.basin) ∙ sym (c.in-Ok.ensures.answer s.items s.reader) in
    record {
      items = s.items;
      so_far = record {
        state = s.state;
        counts = record { read = s.counts.read; last_other = s.counts.last_other; ended = s.counts.ended };
        comes = line_comes c.requires.lines.lines
            c.args.text.now c.requires.context.valid c.requires.context.series s.verdict read;
        ends = line_ends c.requires.lines.lines
            c.args.text.now c.requires.context.valid c.requires.context.series s.verdict read;
        audit = s.audit;
      };
    }

pub take_item-requires-clause-room : goal.take_item-requires-clause-room
take_item-requires-clause-room c = bounded_lines c.requires.context.valid c.requires.lines.stands

pub returns-in-Ok-clause-takes : goal.returns-in-Ok-clause-takes
returns-in-Ok-clause-takes c = λ lines s.
    let read : read_line c.args.context.now.basin.now s.items c.args.text.now ≡ Ok c.in-Ok.item =
    ap (λ x. read_line x s.items c.args.text.now) (sym s.basin) ∙ sym (c.in-Ok.ensures.answer s.items s.reader) in
    took c.args.context.now.series.now c.take_item.new.progress lines c.args.text.now
    c.in-Ok.item c.take_item.result s.verdict
    (judged_item c.args.context.now.basin.now c.args.context.now.series.now s.items c.args.text.now
    (sym s.counts.ended ∙ c.if-progress.false) read)
    (ap (λ r. r.basin) c.take_item.ensures.reader ∙ (c.in-Ok.ensures.basin ∙ s.basin))
    (rw c.take_item.ensures.reader (c.in-Ok.ensures.accepted s.items s.reader))
    (c.take_item.ensures.takes s.items (record {
      state = s.state;
      counts = record { read = s.counts.read; last_other = s.counts.last_other; ended = s.counts.ended };
      comes = line_comes lines c.args.text.now c.requires.context.valid c.requires.context.series s.verdict read;
      ends = line_ends lines c.args.text.now c.requires.context.valid c.requires.context.series s.verdict read;
      audit = s.audit;
    }))

pub returns-in-Err-clause-takes : goal.returns-in-Err-clause-takes
returns-in-Err-clause-takes c = λ lines s. rw s.counts.read
    (line_judged c.args.context.now.basin.now c.args.context.now.series.now lines c.args.text.now s.verdict
    (judged_bad c.args.context.now.basin.now c.args.context.now.series.now s.items c.args.text.now
    (sym s.counts.ended ∙ c.if-progress.false)
    (ap (λ x. read_line x s.items c.args.text.now) (sym s.basin) ∙ sym (c.in-Err.ensures.answer s.items s.reader))))

pub take_item-requires-clause-context : goal.take_item-requires-clause-context
take_item-requires-clause-context c = c.requires.context
