use Rattle.std.proofs.Common.{ℕ, ◌∙◌, List, ap, get_or}
use Rattle.cut_cert.proofs.Listed.{tails_are}
use Rattle.cut_cert.proofs.rows.NodeRows.tail.Goals as goal

pub returns : goal.returns
returns c =
    c.index.ensures
    ∙ ap (λ (xs : List ℕ). get_or xs c.args.link c.index.result.now) c.requires.tails
    ∙ tails_are c.args.basin.now.links c.args.link c.index.result.now c.requires.link
