use Rattle.std.proofs.Common.{ℕ, length, arith, sym}
use Rattle.std.proofs.lemmas.List.{get_or-replicate, length-replicate}
use Rattle.circulation.proofs.RoomLists.{written_next, written_all}
use Rattle.circulation.proofs.rooms.write_empty_rooms.Goals as goal

pub loop-arc-preserved : goal.loop-arc-preserved
loop-arc-preserved c =
    let none = get_or-replicate {A = ℕ} (length c.args.upper.now) c.loop-arc.arc 0 0 c.loop-arc-test.true in
    written_next _ _ c.loop-arc.invariant
    (omega (arith, c.loop-arc-test.true, c.loop-arc.auto.rooms, c.requires)) (omega (arith, none)) (sym none)

pub returns : goal.returns
returns c =
    written_all c.loop-arc.invariant c.loop-arc-test.false (length-replicate {A = ℕ} (length c.args.upper.now) 0)
    (omega (arith, c.loop-arc.auto.rooms, c.requires))
