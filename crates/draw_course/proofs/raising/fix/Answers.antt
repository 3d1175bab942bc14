use Rattle.std.proofs.Common.{ap, arith}
use Rattle.circulation.specs.Contents.{Contents, flow_of}
use Rattle.draw_course.proofs.Raises.{fixed_is, bounded_small}
use Rattle.draw_course.proofs.raising.fix.Goals as goal

pub bound-requires-clause-kept : goal.bound-requires-clause-kept
bound-requires-clause-kept c =
    omega (arith, c.flow-amount.ensures.amount, ap (λ (d : Contents). flow_of d c.args.arc) c.hold.ensures.held)

pub bound-requires-clause-small : goal.bound-requires-clause-small
bound-requires-clause-small c =
    omega (arith, c.flow-amount.ensures.amount, bounded_small c.args.arc c.flow-amount.ensures.kept c.requires)

pub returns-clause-fixed : goal.returns-clause-fixed
returns-clause-fixed c =
    fixed_is c.args.arc c.flow-amount.result c.flow-amount.ensures.kept c.requires c.flow-amount.ensures.amount
    c.hold.ensures.held c.bound.ensures.bounded
