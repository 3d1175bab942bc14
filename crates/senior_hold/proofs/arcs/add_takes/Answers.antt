use Rattle.std.proofs.Common.{◌∙◌, sym}
use Rattle.senior_hold.proofs.Laid.{laid_take, laid_skip}
use Rattle.senior_hold.proofs.arcs.add_takes.Goals as goal
use Rattle.senior_hold.proofs.arcs.add_takes.Goals.{in-Some+in_ok-push, in_default}

pub loop-right-preserved : goal.loop-right-preserved
loop-right-preserved c = elim c.match-taking_node.branch [
  | in-Some+in_ok-push w ↦
      rw w.ends-is (laid_take c.args.basin.now c.loop-right.ends.items _ c.loop-right.right w.in-Some.from
      c.len-outside.result (sym c.taking_node.ensures.value ∙ w.in-Some.is) c.len-outside.ensures
      w.in_ok-push.ensures.items c.loop-right.invariant)
  | in_default w ↦ rw w.ends-is
      (laid_skip c.args.basin.now c.loop-right.ends.items c.loop-right.right (sym c.taking_node.ensures.value
      ∙ w.in_default.is) c.loop-right.invariant)
]
