use Rattle.std.proofs.Common.{arith}
use Rattle.residual_tree.proofs.Frees.{freeing_room, loosen_next}
use Rattle.residual_tree.proofs.freeing.adopt_or_free.Goals as goal

pub adopt_or_free_end-size-requires-clause-room : goal.adopt_or_free_end-size-requires-clause-room
adopt_or_free_end-size-requires-clause-room c = λ is.
    let arc = c.requires.arcs c.loop-at.at c.loop-at.auto.at c.loop-at-test.true in
    freeing_room c.scratch_get-step.result c.requires.kept
    (omega (arith, c.scratch_get-step.ensures, arc)) c.loop-at.invariant is

pub loop-at-preserved : goal.loop-at-preserved
loop-at-preserved c =
    let arc = c.requires.arcs c.loop-at.at c.loop-at.auto.at c.loop-at-test.true in
    let e = c.adopt_or_free_end-size.ensures in
    loosen_next c.requires.kept
    (omega (arith, c.scratch_get-step.ensures, arc)) c.scratch_get-step.ensures c.loop-at.invariant e.saturated e.other
    e.firm

pub adopt_or_free_end-size-requires-clause-steps : goal.adopt_or_free_end-size-requires-clause-steps
adopt_or_free_end-size-requires-clause-steps c = λ u d m.
    let branch = c.loop-at.invariant.tree.branch u d m in
    (branch.arc, branch.predecessor)
