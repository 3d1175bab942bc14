use Rattle.std.proofs.Common.{arith, ap, sym, subst, ◌∙◌}
use Rattle.std.specs.Prelude.{slice_get}
use Rattle.std.specs.List.{flat_map}
use Rattle.water_edge.specs.Edge.{Extends}
use Rattle.water_edge.proofs.Puts.{PutsPrefix, SoFar-next, SoFar-fails, SoFar-whole}
use Rattle.water_model.specs.Entries.{count_in, in_order}
use Rattle.water_model.specs.declared.types.Basin.{Basin}
use Rattle.water_model.proofs.Entries.{length-in_order}
use Rattle.result_text.proofs.listing.put_part.Goals as goal

pub returns-in_err-put_entry-clause-text : goal.returns-in_err-put_entry-clause-text
returns-in_err-put_entry-clause-text g c =
    SoFar-fails c.entry_at-entry.result (g.K.Sink.output c.put_entry.new.sink) c.from_residual.result
    c.loop-index.invariant
    (ap (λ space. slice_get (in_order space c.args.basin.now) c.loop-index.index) (sym c.space-space.ensures)
    ∙ c.entry_at-entry.ensures.position)
    (subst (λ (b : Basin). PutsPrefix (g.K.Sink.output c.loop-index.sink) (g.K.Sink.output c.put_entry.new.sink)
    (flat_map (g.L.Said.Spelled.bytes b)
    (g.L.Listing.entry_lines c.args.listing.now c.args.part c.entry_at-entry.result)))
    c.requires.same c.in_err-put_entry.ensures.text)
    c.from_residual.ensures.0

pub loop-index-preserved : goal.loop-index-preserved
loop-index-preserved g c =
    SoFar-next c.entry_at-entry.result c.loop-index.invariant
    (ap (λ space. slice_get (in_order space c.args.basin.now) c.loop-index.index) (sym c.space-space.ensures)
    ∙ c.entry_at-entry.ensures.position)
    (subst (λ (b : Basin). Extends (g.K.Sink.output c.loop-index.sink) (g.K.Sink.output c.put_entry.new.sink)
    (flat_map (g.L.Said.Spelled.bytes b)
    (g.L.Listing.entry_lines c.args.listing.now c.args.part c.entry_at-entry.result)))
    c.requires.same c.in_ok-put_entry.ensures.text)
    c.in_ok-put_entry.ensures.cause.later

pub returns-clause-text : goal.returns-clause-text
returns-clause-text g c =
    SoFar-whole c.loop-index.invariant
    (omega (
      arith,
      length-in_order (g.L.Listing.part_space c.args.part) c.args.basin.now,
      c.count_in-count.ensures,
      ap (λ space. count_in space c.args.basin.now) c.space-space.ensures,
      c.loop-index-test.false,
    ))
