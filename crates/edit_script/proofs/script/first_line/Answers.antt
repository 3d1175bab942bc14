use Rattle.std.proofs.Common.{sym, ◌∙◌}
use Rattle.std.specs.Prelude.{◌==◌}
use Rattle.water_text.proofs.Splits.{split-cut, split-whole}
use Rattle.edit_script.proofs.script.first_line.Goals as goal

pub returns-in-Some-clause-some : goal.returns-in-Some-clause-some
returns-in-Some-clause-some c =
    split-cut (λ byte. byte == 10) c.args.text.now c.in-Some.at (sym c.first_feed.ensures ∙ c.in-Some.is)

pub returns-in-None-clause-none : goal.returns-in-None-clause-none
returns-in-None-clause-none c =
    split-whole (λ byte. byte == 10) c.args.text.now (sym c.first_feed.ensures ∙ c.in-None.is)
