use Rattle.std.proofs.Common.{◌∙◌, arith}
use Rattle.senior_hold.proofs.Dailies.{laying_next, next_small}
use Rattle.senior_hold.proofs.carries.lay_carries.Goals as goal

pub carry_in-requires-clause-daily : goal.carry_in-requires-clause-daily
carry_in-requires-clause-daily c =
    next_small c.args.basin.now c.args.month c.as_slice-row.result.now c.loop-link.into c.loop-link.link
    c.requires.valid c.loop-link.invariant c.loop-link-test.true

pub loop-link-preserved : goal.loop-link-preserved
loop-link-preserved c =
    laying_next c.args.basin.now c.args.month c.as_slice-row.result.now c.loop-link.into c.loop-link.link
    c.from-days.result c.carry_in.result c.requires.valid c.loop-link.invariant c.loop-link-test.true
    (c.from-days.ensures ∙ c.days.ensures.value) c.carry_in.ensures

pub days-requires : goal.days-requires
days-requires c = c.requires.month

pub carry_in-requires-clause-days : goal.carry_in-requires-clause-days
carry_in-requires-clause-days c = omega (arith, c.from-days.ensures, c.days.ensures.bounded)
