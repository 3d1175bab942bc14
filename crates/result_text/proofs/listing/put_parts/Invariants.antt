use Rattle.std.specs.List.{flat_map}
use Rattle.water_edge.proofs.Puts.{SoFar}
use Rattle.water_model.specs.Entries.{in_order}
use Rattle.result_text.proofs.listing.put_parts.Given as goal

abbrev pub invariant-loop-part : goal.invariant-loop-part
invariant-loop-part g l =
    SoFar (g.L.Said.Spelled.bytes l.basin)
    (λ part. flat_map (g.L.Listing.entry_lines l.listing part) (in_order (g.L.Listing.part_space part) l.basin)) l.parts
    l.part-index (g.K.Sink.output l.fn.sink) (g.K.Sink.output l.sink) (g.K.Sink.faults l.fn.sink)
    (g.K.Sink.faults l.sink)
