use Rattle.std.proofs.Common.{◌≡◌, ◌+◌, arith, subst}
use Rattle.circulation.specs.Contents.{IsCirculation}
use Rattle.circulation.proofs.Pushing.{push_start, push_fits, push_next, push_kept, push_done}
use Rattle.circulation.proofs.RoomLists.{rooms_over}
use Rattle.circulation.proofs.circulation_mut.CirculationMut.push.Goals as goal

pub loop-at-init : goal.loop-at-init
loop-at-init g c =
    let kept = subst IsCirculation c.self.view_is c.self.invariant.circulation in
    record {
      push = push_start _ _ _ c.self.view_is kept c.requires.walk.some;
      small = c.self.invariant.small;
      rooms = c.self.invariant.rooms;
    }

pub move_room-requires-clause-step : goal.move_room-requires-clause-step
move_room-requires-clause-step g c =
    let kept = subst IsCirculation c.self.view_is c.self.invariant.circulation in
    (push_fits kept c.requires.walk c.loop-at.invariant.push (rooms_over _ _ c.loop-at.invariant.rooms)
    c.loop-at.auto.at c.loop-at-test.true).inside

pub move_room-requires-clause-other : goal.move_room-requires-clause-other
move_room-requires-clause-other g c =
    let kept = subst IsCirculation c.self.view_is c.self.invariant.circulation in
    (push_fits kept c.requires.walk c.loop-at.invariant.push (rooms_over _ _ c.loop-at.invariant.rooms)
    c.loop-at.auto.at c.loop-at-test.true).other

pub move_room-requires-clause-room : goal.move_room-requires-clause-room
move_room-requires-clause-room g c =
    let kept = subst IsCirculation c.self.view_is c.self.invariant.circulation in
    (push_fits kept c.requires.walk c.loop-at.invariant.push (rooms_over _ _ c.loop-at.invariant.rooms)
    c.loop-at.auto.at c.loop-at-test.true).room

pub move_room-requires-clause-fits : goal.move_room-requires-clause-fits
move_room-requires-clause-fits g c =
    let kept = subst IsCirculation c.self.view_is c.self.invariant.circulation in
    (push_fits kept c.requires.walk c.loop-at.invariant.push (rooms_over _ _ c.loop-at.invariant.rooms)
    c.loop-at.auto.at c.loop-at-test.true).fits

pub loop-at-preserved : goal.loop-at-preserved
loop-at-preserved g c =
    let kept = subst IsCirculation c.self.view_is c.self.invariant.circulation in
    let next = push_next kept c.requires.walk c.loop-at.invariant.push (rooms_over _ _ c.loop-at.invariant.rooms)
    c.loop-at.auto.at c.loop-at-test.true c.move_room.ensures in
    record { push = next.0; small = c.loop-at.invariant.small; rooms = next.1 }

pub invariant_of-self : goal.invariant_of-self
invariant_of-self g c =
    let kept = subst IsCirculation c.self.view_is c.self.invariant.circulation in
    let end : c.loop-at.at ≡ c.args.first + c.args.count = omega (arith, c.loop-at-test.false, c.loop-at.auto.at-end) in
    record {
      circulation = push_kept kept c.loop-at.invariant.push end;
      small = c.loop-at.invariant.small;
      rooms = c.loop-at.invariant.rooms;
    }

pub returns-clause-kept : goal.returns-clause-kept
returns-clause-kept g c =
    let kept = subst IsCirculation c.self.view_is c.self.invariant.circulation in
    let end : c.loop-at.at ≡ c.args.first + c.args.count = omega (arith, c.loop-at-test.false, c.loop-at.auto.at-end) in
    push_kept kept c.loop-at.invariant.push end

pub returns-clause-pushed : goal.returns-clause-pushed
returns-clause-pushed g c =
    let end : c.loop-at.at ≡ c.args.first + c.args.count = omega (arith, c.loop-at-test.false, c.loop-at.auto.at-end) in
    push_done c.loop-at.invariant.push end
