use Rattle.std.proofs.Common.{sym, ◌∙◌}
use Rattle.std.proofs.lemmas.Bool.{both_ways}
use Rattle.rights_roll.proofs.Seniors.{by_seniority_order}
use Rattle.next_unit.proofs.Helping.{none_before, not_helped, now_helped, one_before}
use Rattle.next_unit.proofs.helped.helped_with.Goals as goal

pub returns-then-is_some : goal.returns-then-is_some
returns-then-is_some c =
    one_before c.args.basin.now c.args.month.now c.args.position c.args.link c.args.before
    (sym c.is_some.ensures ∙ c.if-is_some.true) c.requires.before

pub returns-then-carry_helps : goal.returns-then-carry_helps
returns-then-carry_helps c =
    now_helped c.args.basin.now c.args.month.now c.args.position c.args.link c.right_at-right.result
    (by_seniority_order c.args.basin.now.rights c.requires.plan.valid.roll.strict) c.requires.position
    (sym c.right_at-right.ensures.value) (c.carry_helps.ensures.0 c.if-carry_helps.true)
    (none_before c.args.before (sym c.is_some.ensures ∙ c.if-is_some.false) c.requires.before)

pub returns-else-carry_helps : goal.returns-else-carry_helps
returns-else-carry_helps c =
    not_helped c.args.basin.now c.args.month.now c.args.position c.args.link
    (λ helps. both_ways c.carry_helps.result c.if-carry_helps.false (c.carry_helps.ensures.1
    (rw c.right_at-right.ensures.value helps)))
    (none_before c.args.before (sym c.is_some.ensures ∙ c.if-is_some.false) c.requires.before)
