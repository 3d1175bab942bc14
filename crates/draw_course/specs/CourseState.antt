-- What a month's draws are to their callers, and what they keep.
use Rattle.draw_course.specs.Draws.{MonthDraws}
use Rattle.draw_course.specs.MonthNetwork.{Stands}
use Rattle.draw_course.specs.declared.course.Course.TheInside.{Inside}

-- the month, and what was drawn
abbrev pub month_draws : Inside → MonthDraws
month_draws i = record {
  basin = i.basin.now;
  draws = i.draws.now;
  month = i.month;
  supply = i.supply.now;
  taken = i.taken.now;
  held = i.held.now;
  drawn = i.drawn.now;
}

-- the month stands in its network
abbrev pub IsValidCourse : Inside → Type 0
IsValidCourse i = Stands (month_draws i) i.circ
