use Rattle.std.proofs.Common.{length}
use Rattle.index_seq.proofs.Putting.{IsPutSoFar}
use Rattle.index_seq.proofs.writer.put_yearly.Given as goal

abbrev pub invariant-loop-rest : goal.invariant-loop-rest
invariant-loop-rest g l =
    IsPutSoFar l.basin l.amounts l.rest (g.K.Sink.output l.fn.sink) (g.K.Sink.output l.sink) (g.K.Sink.faults l.fn.sink)
    (g.K.Sink.faults l.sink)

abbrev pub decreases-loop-rest : goal.decreases-loop-rest
decreases-loop-rest g l = length l.rest
