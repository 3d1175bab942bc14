use Rattle.std.proofs.Common.{◌≡◌, sym, ap, ◌∙◌}
use Rattle.std.specs.Prelude.{Ok}
use Rattle.result_lines.specs.declared.item.Item.TheVariants as line
use Rattle.result_reader.specs.Reading.{read_line}
use Rattle.cert_check.proofs.Standings.{bounded_lines, judged_item, line_comes, line_ends, took}
use Rattle.cert_check.proofs.progress.take_likely.Goals as goal

pub take_member-requires-clause-so_far : goal.take_member-requires-clause-so_far
take_member-requires-clause-so_far c =
    let s = c.requires.lines.stands in
    let text = c.in-Some.member.text.now in
    let read : read_line c.args.context.now.basin.now s.items text ≡ Ok (line.Member c.in-Some.member.node) =
    ap (λ x. read_line x s.items text) (sym s.basin) ∙ sym (c.in-Some.ensures.answer s.items s.reader) in
    record {
      items = s.items;
      so_far = record {
        state = s.state;
        counts = record { read = s.counts.read; last_other = s.counts.last_other; ended = s.counts.ended };
        comes = line_comes c.requires.lines.lines
            text c.requires.context.valid c.requires.context.series s.verdict read;
        ends = line_ends c.requires.lines.lines
            text c.requires.context.valid c.requires.context.series s.verdict read;
        audit = s.audit;
      };
    }

pub take_member-requires-clause-room : goal.take_member-requires-clause-room
take_member-requires-clause-room c = bounded_lines c.requires.context.valid c.requires.lines.stands

pub returns-in-Some-clause-stands : goal.returns-in-Some-clause-stands
returns-in-Some-clause-stands c = λ lines s.
    let text = c.in-Some.member.text.now in
    let read : read_line c.args.context.now.basin.now s.items text ≡ Ok (line.Member c.in-Some.member.node) =
    ap (λ x. read_line x s.items text) (sym s.basin) ∙ sym (c.in-Some.ensures.answer s.items s.reader) in
    took c.args.context.now.series.now c.take_member.new.progress lines text
    (line.Member c.in-Some.member.node) (Ok tt) s.verdict
    (judged_item c.args.context.now.basin.now c.args.context.now.series.now s.items text
    (sym s.counts.ended ∙ c.if-progress.false) read)
    (ap (λ r. r.basin) c.take_member.ensures.reader ∙ (c.in-Some.ensures.basin ∙ s.basin))
    (rw c.take_member.ensures.reader (c.in-Some.ensures.accepted s.items s.reader))
    (c.take_member.ensures.takes s.items (record {
      state = s.state;
      counts = record { read = s.counts.read; last_other = s.counts.last_other; ended = s.counts.ended };
      comes = line_comes lines text c.requires.context.valid c.requires.context.series s.verdict read;
      ends = line_ends lines text c.requires.context.valid c.requires.context.series s.verdict read;
      audit = s.audit;
    }))

pub take_member-requires-clause-context : goal.take_member-requires-clause-context
take_member-requires-clause-context c = c.requires.context
