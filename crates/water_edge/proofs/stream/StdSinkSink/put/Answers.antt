use Rattle.std.proofs.Common.{rules}
use Rattle.water_edge.proofs.Outputs.{flushed_before, writer_keeps}
use Rattle.water_edge.proofs.stream.StdSinkSink.put.Goals as goal

pub returns-then-is_ok-clause-bytes : goal.returns-then-is_ok-clause-bytes
returns-then-is_ok-clause-bytes g c = writer_keeps _ _ _ _ _ (search rules) (search rules)

pub returns-then-is_ok-clause-first : goal.returns-then-is_ok-clause-first
returns-then-is_ok-clause-first g c = flushed_before _ _

pub returns-then-is_err-clause-first : goal.returns-then-is_err-clause-first
returns-then-is_err-clause-first g c = flushed_before _ _

pub returns-else-is_err-clause-first : goal.returns-else-is_err-clause-first
returns-else-is_err-clause-first g c = flushed_before _ _
