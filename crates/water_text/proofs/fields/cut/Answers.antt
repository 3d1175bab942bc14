use Rattle.std.proofs.Common.{sym, ◌∙◌}
use Rattle.std.specs.Prelude.{◌==◌}
use Rattle.water_text.proofs.Splits.{split-cut, split-whole}
use Rattle.water_text.proofs.fields.cut.Goals as goal

pub returns-in-Some : goal.returns-in-Some
returns-in-Some c =
    split-cut (λ byte. byte == 32) c.args.text.now c.in-Some.at (sym c.first_space.ensures ∙ c.in-Some.is)

pub returns-in-None : goal.returns-in-None
returns-in-None c = split-whole (λ byte. byte == 32) c.args.text.now (sym c.first_space.ensures ∙ c.in-None.is)
