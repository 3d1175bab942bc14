-- Where the network of a basin's draws lies, and with what a month begins.
use Rattle.std.specs.Prelude.{◌≡◌, ℕ, ◌+◌, ◌*◌, List, length, replicate}
use Rattle.word_region.specs.Words.{Words}
use Rattle.water_text.specs.declared.month.Month.{Month}
use Rattle.water_model.specs.declared.types.Basin.{Basin}
use Rattle.circulation.specs.declared.Circulation.{Circulation}
use Rattle.circulation.specs.Contents.{Contents, network}
use Rattle.circulation.specs.Places.{HoldsArcs}
use Rattle.draw_course.specs.Draws.{BasinDraws, MonthDraws}
use Rattle.draw_course.specs.Arcs.{arc_count}
use Rattle.draw_course.specs.MonthNetwork.{HasCourseEnds}
use Rattle.draw_course.specs.declared.draws.DrawNodes.{DrawNodes}

-- how many words a month takes
abbrev pub room_words : BasinDraws → ℕ
room_words d = 5 * arc_count d.basin (length d.draws) + 7 * length d.basin.nodes + 14 + length d.draws

-- the region holds the arcs
pub record HasNetwork (b : Basin) (draws : List DrawNodes) (r : Words) (circ : Circulation) : Type 0 where
  pub contents : Contents
  pub held : HoldsArcs r circ contents
  pub ends : HasCourseEnds b draws (network contents)
  pub nodes : circ.nodes ≡ length b.nodes
  pub arcs : circ.arcs ≡ arc_count b (length draws)

-- a month before any draw
abbrev pub first_draws : BasinDraws → Month → (supply taken held : List ℕ) → MonthDraws
first_draws d month supply taken held = record {
  basin = d.basin;
  draws = d.draws;
  month = month;
  supply = supply;
  taken = taken;
  held = held;
  drawn = replicate (length d.draws) 0;
}
