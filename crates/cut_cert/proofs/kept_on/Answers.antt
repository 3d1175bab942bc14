use Rattle.std.proofs.Common.{◌+◌, Some}
use Rattle.chains.proofs.Walking.{key_is}
use Rattle.rights_roll.specs.Rolls.{IsNextOn}
use Rattle.cut_cert.proofs.Chain.{IsKeptSoFar, kept_start, kept_more, kept_all}
use Rattle.cut_cert.proofs.kept_on.Goals as goal

pub loop-next-init : goal.loop-next-init
loop-next-init c =
    kept_start c.args.basin.now c.args.delivered.now c.args.right c.args.link c.first_on-next.result
    (rw c.first_on-next.ensures (c.requires.roll.firsts c.args.link))

pub loop-next-preserved : goal.loop-next-preserved
loop-next-preserved c =
    let so : IsKeptSoFar c.args.basin.now c.args.delivered.now c.args.right c.args.link c.loop-next.kept
    (Some c.in-Some.holder) =
    rw c.in-Some.is at c.loop-next.invariant in
    let next : IsNextOn c.args.basin.now.rights c.args.link (c.in-Some.holder + 1) c.next_on-next.result =
    rw c.next_on-next.ensures (c.requires.roll.nexts c.in-Some.holder c.args.link so.at.1 (key_is _ _ so.at.2)) in
    kept_more c.args.basin.now c.args.delivered.now c.args.right c.args.link c.loop-next.kept c.kept_with-kept.result
    c.in-Some.holder c.next_on-next.result so c.kept_with-kept.ensures next

pub returns : goal.returns
returns c =
    kept_all c.args.basin.now c.args.delivered.now c.args.right c.args.link c.loop-next.kept
    (rw c.in_default.is at c.loop-next.invariant)
