-- What a solver keeps.
use Rattle.std.specs.Prelude.{◌≡◌, length}
use Rattle.water_model.specs.declared.types.Basin.{Basin}
use Rattle.river_net.specs.Net.{IsNet}
use Rattle.rights_roll.specs.Rolls.{IsRollOf}
use Rattle.senior_hold.specs.MonthNetwork.{arc_count}
use Rattle.senior_hold.specs.Spilled.{spilled}
use Rattle.senior_hold.specs.Arcs.{AreArcs, ArePositions}
use Rattle.senior_hold.specs.Carries.{AreDailies}
use Rattle.senior_hold.specs.Solved.{FitsPlan}
use Rattle.senior_hold.specs.declared.solver.Layout.{Layout}
use Rattle.senior_hold.specs.declared.solver.Room.{Room}

-- the network, the roll and the arcs of the basin, its rights by seniority, and what its links carry
pub record IsLayout (b : Basin) (l : Layout) : Type 0 where
  pub is_net : IsNet b.nodes b.links l.net
  pub is_roll : IsRollOf b.rights l.roll
  pub are_arcs : AreArcs b l.arcs
  pub are_positions : ArePositions b l.roll.order l.positions.items
  pub are_dailies : AreDailies b l.dailies.items

-- room for a month's bounds, and for the flow that it starts from
pub record FitsRoom (b : Basin) (r : Room) : Type 0 where
  pub fits_most : FitsPlan b r.most
  pub uppers : length r.upper.items ≡ arc_count (spilled b)
  pub starts : length r.start.items ≡ arc_count (spilled b)
