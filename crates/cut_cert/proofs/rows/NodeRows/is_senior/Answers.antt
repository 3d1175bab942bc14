use Rattle.cut_cert.proofs.Listed.{listed_is}
use Rattle.cut_cert.proofs.rows.NodeRows.is_senior.Goals as goal

pub returns : goal.returns
returns c =
    let listed = c.args.self.now.priorities.items in
    let rights = c.args.basin.now.rights in
    let one = listed_is listed rights c.args.one c.index.result.now c.requires.priorities c.requires.one
    c.index.ensures in
    let other = listed_is listed rights c.args.other c.index-2.result.now c.requires.priorities c.requires.other
    c.index-2.ensures in
    rw (← one, ← other) c.is_senior_to.ensures
