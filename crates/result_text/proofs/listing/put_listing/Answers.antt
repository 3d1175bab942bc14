use Rattle.std.proofs.Common.{◌≡◌, ℕ, List, ◌++◌, refl, subst}
use Rattle.std.specs.List.{flat_map}
use Rattle.std.proofs.lemmas.Grind.{flat_map-append}
use Rattle.water_edge.specs.Edge.{Puts}
use Rattle.water_edge.proofs.Puts.{Puts-second, Puts-third}
use Rattle.water_model.specs.Entries.{in_order}
use Rattle.result_text.proofs.listing.put_listing.Goals as goal

pieces : {Y : Type 0} (h : Y → List ℕ) (a m z : List Y) →
    flat_map h a ++ (flat_map h m ++ flat_map h z) ≡ flat_map h (a ++ (m ++ z))
pieces h a m z = rw (flat_map-append h a (m ++ z), flat_map-append h m z) refl

pub returns-in_err-put_parts-clause-text : goal.returns-in_err-put_parts-clause-text
returns-in_err-put_parts-clause-text g c =
    let old = g.K.Sink.output c.args.sink.now in
    let new = g.K.Sink.output c.put_parts.new.sink in
    subst (λ (bytes : List ℕ). Puts old new c.from_residual-in_err-put_parts.result bytes)
    (pieces (g.L.Said.Spelled.bytes c.args.basin.now) c.args.first.now
    (flat_map (λ part. flat_map (g.L.Listing.entry_lines c.args.listing.now part)
    (in_order (g.L.Listing.part_space part) c.args.basin.now)) c.args.parts.now) c.args.last.now)
    (Puts-second old (g.K.Sink.output c.put_lines.new.sink) new c.from_residual-in_err-put_parts.result _ _ _
    c.from_residual-in_err-put_parts.ensures.0 c.in_ok-put_lines.ensures.text c.in_err-put_parts.ensures.text)

pub returns-clause-text : goal.returns-clause-text
returns-clause-text g c =
    let old = g.K.Sink.output c.args.sink.now in
    let new = g.K.Sink.output c.put_lines-2.new.sink in
    subst (λ (bytes : List ℕ). Puts old new c.put_lines-2.result bytes)
    (pieces (g.L.Said.Spelled.bytes c.args.basin.now) c.args.first.now
    (flat_map (λ part. flat_map (g.L.Listing.entry_lines c.args.listing.now part)
    (in_order (g.L.Listing.part_space part) c.args.basin.now)) c.args.parts.now) c.args.last.now)
    (Puts-third old (g.K.Sink.output c.put_lines.new.sink) (g.K.Sink.output c.put_parts.new.sink) new
    c.put_lines-2.result _ _ _ c.in_ok-put_lines.ensures.text c.in_ok-put_parts.ensures.text
    c.put_lines-2.ensures.text)

pub put_lines-requires-clause-basin : goal.put_lines-requires-clause-basin
put_lines-requires-clause-basin g c = c.requires.basin

pub put_lines-requires-clause-lines : goal.put_lines-requires-clause-lines
put_lines-requires-clause-lines g c = c.requires.first

pub put_parts-requires-clause-basin : goal.put_parts-requires-clause-basin
put_parts-requires-clause-basin g c = c.requires.basin

pub put_parts-requires-clause-roll : goal.put_parts-requires-clause-roll
put_parts-requires-clause-roll g c = c.requires.roll

pub put_parts-requires-clause-same : goal.put_parts-requires-clause-same
put_parts-requires-clause-same g c = c.requires.same

pub put_lines-requires-2-clause-basin : goal.put_lines-requires-2-clause-basin
put_lines-requires-2-clause-basin g c = c.requires.basin

pub put_lines-requires-2-clause-lines : goal.put_lines-requires-2-clause-lines
put_lines-requires-2-clause-lines g c = c.requires.last
