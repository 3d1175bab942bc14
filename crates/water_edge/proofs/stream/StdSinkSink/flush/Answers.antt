use Rattle.std.proofs.Common.{rules}
use Rattle.water_edge.proofs.Outputs.{flushed_before, writer_stays}
use Rattle.water_edge.proofs.stream.StdSinkSink.flush.Goals as goal

pub returns-then-is_err-clause-bytes : goal.returns-then-is_err-clause-bytes
returns-then-is_err-clause-bytes g c =
    writer_stays _ _ _ _ c.flush_buffer-answer.ensures.hands (search rules) (search rules)

pub returns-then-is_err-clause-first : goal.returns-then-is_err-clause-first
returns-then-is_err-clause-first g c = flushed_before _ _
