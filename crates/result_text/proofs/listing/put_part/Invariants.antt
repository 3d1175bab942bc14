use Rattle.water_edge.proofs.Puts.{SoFar}
use Rattle.water_model.specs.Entries.{in_order}
use Rattle.result_text.proofs.listing.put_part.Given as goal

abbrev pub invariant-loop-index : goal.invariant-loop-index
invariant-loop-index g l =
    SoFar (g.L.Said.Spelled.bytes l.basin) (g.L.Listing.entry_lines l.listing l.part)
    (in_order (g.L.Listing.part_space l.part) l.basin) l.index
    (g.K.Sink.output l.fn.sink) (g.K.Sink.output l.sink) (g.K.Sink.faults l.fn.sink) (g.K.Sink.faults l.sink)
