use Rattle.std.proofs.Common.{take}
use Rattle.rights_roll.specs.Zones.{AreSeniorZones}
use Rattle.rights_roll.proofs.zones.senior_zones.Given as goal

abbrev pub invariant-loop-right : goal.invariant-loop-right
invariant-loop-right l = AreSeniorZones (take l.right-index l.rights) l.zones
