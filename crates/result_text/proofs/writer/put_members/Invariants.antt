use Rattle.std.proofs.Common.{◌≤◌}
use Rattle.water_model.specs.Indices.{numbers_from}
use Rattle.result_lines.specs.Spelling.{whole_line}
use Rattle.result_text.specs.Members.{member_at}
use Rattle.water_edge.proofs.Puts.{SoFar}
use Rattle.result_text.proofs.writer.put_members.Given as goal

abbrev pub invariant-loop-turn : goal.invariant-loop-turn
invariant-loop-turn g l = record {
  turns : l._turn ≤ l.from;
  within : l.from ≤ l.nodes;
  put : SoFar (whole_line l.basin) (member_at l.words) (numbers_from 0 l.nodes) l.from
      (g.K.Sink.output l.fn.sink) (g.K.Sink.output l.sink) (g.K.Sink.faults l.fn.sink) (g.K.Sink.faults l.sink);
}
