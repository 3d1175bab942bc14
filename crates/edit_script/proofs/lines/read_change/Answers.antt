use Rattle.std.proofs.Common.{◌≡◌, ℕ, ◌∙◌, ap, sym, true, List, ◌∷◌, refl}
use Rattle.std.specs.Prelude.{Option, Some, None, Err, is_some, ◌==◌}
use Rattle.std.specs.Borrow.{Bor}
use Rattle.water_text.specs.Fields.{pieces_after, pieces_of}
use Rattle.water_model.specs.declared.types.Basin.{Basin}
use Rattle.water_model.specs.declared.types.Series.{Series}
use Rattle.edit_script.specs.Lines.{edit_in}
use Rattle.edit_script.specs.declared.refused.ScriptFault.TheVariants as fault
use Rattle.water_text.proofs.Splits.{some_piece}
use Rattle.edit_script.proofs.lines.read_change.Goals as goal

-- a line with a fifth field asks for nothing
too_many : (b : Basin) (series : Series) (word month name amount : List ℕ) (o : Option (Bor (List ℕ))) →
    is_some o ≡ true →
    edit_in b series (word ∷ month ∷ name ∷ amount ∷ pieces_after o) ≡ Err fault.BadLine
too_many b series word month name amount None h = cc
too_many b series word month name amount (Some rest) h = let found = some_piece (λ byte. byte == 32) rest.now in
    rw found.2 refl

pub returns-then-is_some-clause-reads : goal.returns-then-is_some-clause-reads
returns-then-is_some-clause-reads c =
    sym (ap (λ (fs : List (List ℕ)). edit_in c.args.names.now.basin.now c.args.series.now
    (c.args.word.now ∷ c.args.month.now ∷ fs)) fields
    ∙ too_many c.args.names.now.basin.now c.args.series.now c.args.word.now c.args.month.now c.cut.result.0.now
    c.cut-2.result.0.now c.cut-2.result.1 (sym c.is_some.ensures ∙ c.if-is_some.true))
  where
    fields : pieces_of c.args.after.now ≡ c.cut.result.0.now ∷ c.cut-2.result.0.now ∷ pieces_after c.cut-2.result.1
    fields = c.cut.ensures ∙ (ap (λ o. c.cut.result.0.now ∷ pieces_after o) c.in-Some.is
        ∙ ap (λ fs. c.cut.result.0.now ∷ fs) c.cut-2.ensures)
