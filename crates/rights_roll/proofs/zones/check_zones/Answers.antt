use Rattle.rights_roll.proofs.ZoneFaults.{has_zone_fault-is, zone_fault-first, zone_fault-none}
use Rattle.rights_roll.proofs.ZoneFaults.{clear-zone, clear-other}
use Rattle.std.proofs.Common.{refl}
use Rattle.rights_roll.proofs.zones.check_zones.Goals as goal
use Rattle.rights_roll.proofs.zones.check_zones.Goals.{then-not-is_new-via-then-not-is_new}
use Rattle.rights_roll.proofs.zones.check_zones.Goals.{then-not-is_new-via-else-not-is_new+then-lacks_lower_zone}
use Rattle.rights_roll.proofs.zones.check_zones.Goals.{in-Zone+in_ok-is_new+else-not-is_new+else-lacks_lower_zone}
use Rattle.rights_roll.proofs.zones.check_zones.Goals.{in_default}

pub returns-then-not-is_new-clause-refused : goal.returns-then-not-is_new-clause-refused
returns-then-not-is_new-clause-refused c = zone_fault-first c.loop-at-test.true c.loop-at.invariant
    (elim c.then-not-is_new.branch [
      | then-not-is_new-via-then-not-is_new w ↦ (let fault = has_zone_fault-is c.in_ok-zones.zones c.loop-at-test.true
          c.index-rights-at.is c.in-Zone.is c.in_ok-zones.ensures c.loop-at.invariant refl c.in_ok-is_new.ensures.added
          refl in rw w.if-not-is_new.true at fault)
      | then-not-is_new-via-else-not-is_new+then-lacks_lower_zone w ↦
          (let fault = has_zone_fault-is c.in_ok-zones.zones c.loop-at-test.true c.index-rights-at.is c.in-Zone.is
          c.in_ok-zones.ensures c.loop-at.invariant w.of.ensures c.in_ok-is_new.ensures.added w.lacks_lower_zone.ensures
          in rw (w.if-not-is_new.false, w.if-lacks_lower_zone.true) at fault)
    ])

pub loop-at-preserved : goal.loop-at-preserved
loop-at-preserved c = elim c.match-right.branch [
  | in-Zone+in_ok-is_new+else-not-is_new+else-lacks_lower_zone w ↦
      (let fault = has_zone_fault-is c.in_ok-zones.zones c.loop-at-test.true c.index-rights-at.is w.in-Zone.is
      c.in_ok-zones.ensures c.loop-at.invariant w.of.ensures w.in_ok-is_new.ensures.added w.lacks_lower_zone.ensures in
      rw w.seen-is (clear-zone c.loop-at-test.true c.index-rights-at.is w.in-Zone.is w.in_ok-is_new.ensures.updates
      (rw (w.if-not-is_new.false, w.if-lacks_lower_zone.false) at fault) c.loop-at.invariant))
  | in_default w ↦ rw w.seen-is
      (clear-other c.loop-at-test.true c.index-rights-at.is w.in_default.not-Zone c.loop-at.invariant)
]

pub returns-clause-none : goal.returns-clause-none
returns-clause-none c = zone_fault-none c.loop-at-test.false c.loop-at.invariant
