use Rattle.std.proofs.Common.{subst}
use Rattle.std.specs.Prelude.{slice_index}
use Rattle.draw_course.specs.Draws.{BasinDraws}
use Rattle.draw_course.specs.Courses.{IsCourse}
use Rattle.draw_course.specs.Engine.{first_draws}
use Rattle.draw_course.specs.EngineState.{basin_draws}
use Rattle.draw_course.proofs.Checks.{checked_course}
use Rattle.draw_course.proofs.engine.DrawCourse.can_begin.Goals as goal

pub returns-clause-course : goal.returns-clause-course
returns-clause-course c = λ t.
    subst (λ (d : BasinDraws). IsCourse (first_draws d c.args.month c.args.supply.now c.args.taken.now c.args.held.now)
    (slice_index c.args.flow.now) (slice_index c.args.out.now)) c.self.view_is
    (checked_course (basin_draws c.self.inside) c.args.month c.args.supply.now c.args.taken.now c.args.held.now
    c.args.flow.now c.args.out.now (c.are_carried.ensures c.if-not-are_carried.false)
    (c.are_balanced.ensures.outlets t) (c.are_balanced.ensures.balance t))
