use Rattle.std.proofs.Common.{◌∙◌}
use Rattle.senior_hold.proofs.Dailies.{carry_at, row_more, row_whole}
use Rattle.senior_hold.proofs.carries.dailies_in.Goals as goal

pub loop-link-init : goal.loop-link-init
loop-link-init c = c.in_ok-row.ensures.items

pub daily_of-requires-clause-carry : goal.daily_of-requires-clause-carry
daily_of-requires-clause-carry c =
    carry_at c.args.basin.now c.as_slice-link-items.result.now c.loop-link.link-index c.link-item.result
    c.requires.basin c.as_slice-link-items.ensures c.loop-link-test.true c.link-item.is

pub loop-link-preserved : goal.loop-link-preserved
loop-link-preserved c =
    row_more c.args.basin.now c.as_slice-link-items.result.now c.args.position c.loop-link.link-index c.link-item.result
    c.loop-link.row.items c.push.new.self.items c.daily_of.result c.as_slice-link-items.ensures c.loop-link-test.true
    c.link-item.is c.loop-link.invariant c.daily_of.ensures c.in_ok-push.ensures.items

pub returns : goal.returns
returns c = c.from_vec.ensures ∙ row_whole c.args.basin.now c.as_slice-link-items.result.now c.args.position
    c.loop-link.link-index c.loop-link.row.items c.as_slice-link-items.ensures c.loop-link-test.false
    c.loop-link.invariant
