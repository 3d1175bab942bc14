use Rattle.injury.proofs.Put.{SoFar}
use Rattle.injury.proofs.pairing.Pairing.put_injured.Given as goal

abbrev pub invariant-loop-pair : goal.invariant-loop-pair
invariant-loop-pair g l =
    SoFar l.basin l.first l.second l.pairs l.pair-index
    (g.K.Sink.output l.fn.sink) (g.K.Sink.output l.sink) (g.K.Sink.faults l.fn.sink) (g.K.Sink.faults l.sink) l.count
