-- What the network of a basin's draws is to its callers, and what it keeps.
use Rattle.water_model.specs.Valid.{IsValidBasin}
use Rattle.draw_course.specs.Draws.{BasinDraws, AreDraws}
use Rattle.draw_course.specs.Engine.{HasNetwork}
use Rattle.draw_course.specs.declared.engine.DrawCourse.TheInside.{Inside}

-- the basin and its draws
abbrev pub basin_draws : Inside → BasinDraws
basin_draws i = record { basin = i.basin.now; draws = i.draws }

pub record IsValidEngine (i : Inside) : Type 0 where
  pub valid : IsValidBasin i.basin.now
  pub draws : AreDraws i.basin.now i.draws
  pub net : HasNetwork i.basin.now i.draws i.region i.network
