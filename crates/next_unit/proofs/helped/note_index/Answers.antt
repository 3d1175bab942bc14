use Rattle.std.proofs.Common.{◌≡◌}
use Rattle.std.specs.Prelude.{None}
use Rattle.std.proofs.lemmas.Bool.{OnFalse_at, OnTrue_at}
use Rattle.rights_roll.proofs.Seniors.{by_seniority_order}
use Rattle.water_model.specs.Basin.{instream_link}
use Rattle.next_unit.specs.Helped.{HelpNot}
use Rattle.next_unit.proofs.Helping.{candidate, no_more, none_instream}
use Rattle.next_unit.proofs.helped.note_index.Goals as goal

pub note_links-requires-clause-right : goal.note_links-requires-clause-right
note_links-requires-clause-right c =
    let short = OnTrue_at c.if-could_be_helped.true c.could_be_helped.ensures.yes in
    rw (← c.right_at-right.ensures.value, c.core-core.ensures) (
    candidate c.requires.month c.right_at-right.ensures.within short c.find_core.ensures.core
    )

pub returns-then-not-is_instream-clause-helped : goal.returns-then-not-is_instream-clause-helped
returns-then-not-is_instream-clause-helped c =
    let none : instream_link c.args.basin.now c.right_at-right.result ≡ None =
    OnFalse_at c.if-not-is_instream.true c.is_instream.ensures in
    none_instream (rw c.right_at-right.ensures.value at none)
    (rw c.right_at-right.ensures.value at c.right_at-right.ensures.within) c.requires.helped

pub returns-else-could_be_helped-clause-helped : goal.returns-else-could_be_helped-clause-helped
returns-else-could_be_helped-clause-helped c =
    let b = c.args.basin.now in
    let not : HelpNot b c.args.month.now c.args.undecided.now c.args.count c.right_at-right.result =
    OnFalse_at c.if-could_be_helped.false c.could_be_helped.ensures.no in
    no_more (by_seniority_order b.rights c.requires.month.plan.valid.roll.strict) c.requires.position
    (rw c.right_at-right.ensures.value at not)
    c.requires.undecided c.requires.helped
