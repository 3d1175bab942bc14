-- Laws over the definitions.
use Rattle.std.specs.Prelude.{◌≡◌, ℕ, ◌+◌, ◌<◌, ◌≤◌, List, length, slice_index}
use Rattle.water_text.specs.declared.month.Month.{Month}
use Rattle.water_model.specs.Plans.{IsPlan, taken_at}
use Rattle.water_model.specs.declared.types.Plan.{Plan}
use Rattle.draw_course.specs.Draws.{BasinDraws}
use Rattle.draw_course.specs.Courses.{IsCourse}
use Rattle.draw_course.specs.Engine.{first_draws}

-- A plan of the water that is nobody's is a course before any draw, where each node has what is carried at it besides,
-- as supply and as what is taken there, and no more is held on a link than flows on it.
abbrev pub PlansBegin : Type 0
PlansBegin =
    (d : BasinDraws) (month : Month) (supply carried whole want taken held : List ℕ) (p : Plan) →
    IsPlan d.basin month supply want p →
    ((n : ℕ) → n < length d.basin.nodes → slice_index whole n ≡ slice_index supply n + slice_index carried n) →
    ((n : ℕ) → n < length d.basin.nodes → slice_index taken n ≡ taken_at d.basin p.take n + slice_index carried n) →
    ((e : ℕ) → e < length d.basin.links → slice_index held e ≤ slice_index p.flow e) →
    IsCourse (first_draws d month whole taken held) (slice_index p.flow) (slice_index p.out)
