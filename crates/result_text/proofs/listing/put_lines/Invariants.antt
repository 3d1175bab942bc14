use Rattle.std.proofs.Common.{[], ◌∷◌}
use Rattle.water_edge.proofs.Puts.{SoFar}
use Rattle.result_text.proofs.listing.put_lines.Given as goal

abbrev pub invariant-loop-said : goal.invariant-loop-said
invariant-loop-said g l =
    SoFar (g.S.Spelled.bytes l.basin) (λ said. said ∷ []) l.lines l.said-index
    (g.K.Sink.output l.fn.sink) (g.K.Sink.output l.sink) (g.K.Sink.faults l.fn.sink) (g.K.Sink.faults l.sink)
