use Rattle.rights_roll.proofs.ZoneTables.{senior_zones-more, senior_zones-skip}
use Rattle.rights_roll.proofs.zones.senior_zones.Goals as goal
use Rattle.rights_roll.proofs.zones.senior_zones.Goals.{in-Zone+in_ok-note_zone, in_default}

pub loop-right-preserved : goal.loop-right-preserved
loop-right-preserved c = elim c.match-right.branch [
  | in-Zone+in_ok-note_zone w ↦ rw w.zones-is
      (senior_zones-more c.args.rights.now c.loop-right.right-index c.right-item.result w.in-Zone.reservoir
      w.in-Zone.level w.of.result c.loop-right.zones w.note_zone.new.zones
      c.loop-right-test.true c.right-item.is w.in-Zone.is w.of.ensures w.in_ok-note_zone.ensures c.loop-right.invariant)
  | in_default w ↦ rw w.zones-is
      (senior_zones-skip c.args.rights.now c.loop-right.right-index c.right-item.result c.loop-right.zones
      c.loop-right-test.true c.right-item.is w.in_default.not-Zone c.loop-right.invariant)
]
