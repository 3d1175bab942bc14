use Rattle.std.proofs.Common.{◌≡◌, List, [], ◌∷◌, Some, refl, sym, ap, subst, ◌∙◌}
use Rattle.std.specs.List.{flat_map}
use Rattle.std.proofs.lemmas.List.Elements.{All-from_recursion}
use Rattle.std.proofs.lemmas.Option.{slice_get-get_or}
use Rattle.water_edge.proofs.Puts.{SoFar-next, SoFar-fails, SoFar-whole}
use Rattle.result_text.proofs.listing.put_lines.Goals as goal

one_each : {S : Type 0} (lines : List S) → flat_map (λ said. said ∷ []) lines ≡ lines
one_each [] = refl
one_each (said ∷ lines) = ap (λ further. said ∷ further) (one_each lines)

pub put_line-requires-clause-said : goal.put_line-requires-clause-said
put_line-requires-clause-said g c =
    subst (g.S.Spelled.is_of_basin c.args.basin.now) (sym c.said-item.is)
    (All-from_recursion (g.S.Spelled.is_of_basin c.args.basin.now) c.args.lines.now c.requires.lines
    c.loop-said.said-index c.said-item.result c.loop-said-test.true)

pub returns-in_err-put_line-clause-text : goal.returns-in_err-put_line-clause-text
returns-in_err-put_line-clause-text g c =
    rw (one_each c.args.lines.now) at
    (SoFar-fails _ (g.K.Sink.output c.put_line.new.sink) c.from_residual.result c.loop-said.invariant
    (slice_get-get_or c.args.lines.now c.loop-said.said-index _ c.loop-said-test.true
    ∙ ap (λ said. Some said) (sym c.said-item.is))
    c.in_err-put_line.ensures.text c.from_residual.ensures.0)

pub loop-said-preserved : goal.loop-said-preserved
loop-said-preserved g c =
    SoFar-next _ c.loop-said.invariant
    (slice_get-get_or c.args.lines.now c.loop-said.said-index _ c.loop-said-test.true
    ∙ ap (λ said. Some said) (sym c.said-item.is))
    c.in_ok-put_line.ensures.text c.in_ok-put_line.ensures.cause.later

pub returns-clause-text : goal.returns-clause-text
returns-clause-text g c = rw (one_each c.args.lines.now) at (SoFar-whole c.loop-said.invariant c.loop-said-test.false)
