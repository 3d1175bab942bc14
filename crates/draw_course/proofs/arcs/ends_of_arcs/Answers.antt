use Rattle.draw_course.proofs.Laid.{ends_are, laid_more}
use Rattle.draw_course.proofs.arcs.ends_of_arcs.Goals as goal

pub loop-arc-preserved : goal.loop-arc-preserved
loop-arc-preserved c =
    laid_more c.args.basin.now c.args.draws.now c.loop-arc.arc c.loop-arc.ends.items _ _ c.in_ok-push.ensures.items
    (ends_are c.args.basin.now c.args.draws.now c.loop-arc.arc _ c.ends_of.ensures.from c.ends_of.ensures.to)
    c.loop-arc.invariant
