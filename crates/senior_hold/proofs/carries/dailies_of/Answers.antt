use Rattle.std.proofs.Common.{arith, ap, length}
use Rattle.senior_hold.proofs.Dailies.{rows_more, rows_whole}
use Rattle.senior_hold.proofs.carries.dailies_of.Goals as goal

pub loop-position-init : goal.loop-position-init
loop-position-init c = (ap length c.in_ok-rows.ensures.items, λ p l. absurd (omega (arith, l)))

pub loop-position-preserved : goal.loop-position-preserved
loop-position-preserved c =
    rows_more c.args.basin.now c.loop-position.rows.items c.push.new.self.items c.loop-position.position
    c.in_ok-row.row c.in_ok-push.ensures.items c.loop-position.invariant c.in_ok-row.ensures

pub returns : goal.returns
returns c = rows_whole c.args.basin.now c.loop-position.rows.items c.loop-position.position
    c.loop-position.auto.position-end c.loop-position-test.false c.loop-position.invariant
