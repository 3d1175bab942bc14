use Rattle.std.proofs.Common.{ℕ, ◌+◌, ◌≤◌, arith, inl, inr, subst, sym, slice_index}
use Rattle.std.proofs.lemmas.Bool.Decides.{eqb_tells}
use Rattle.circulation.specs.Residual.{room_of}
use Rattle.rivers_first.specs.Rounds.{links_above}
use Rattle.rivers_first.specs.Sent.{IsRoomOfOne}
use Rattle.rivers_first.proofs.Sending.{one_next, one_of_more}
use Rattle.rivers_first.proofs.rounds.Rounds.least_room.Goals as goal

pub loop-at-preserved : goal.loop-at-preserved
loop-at-preserved c = record {
  least = λ i l. elim (eqb_tells i c.loop-at.at) [
    | inl e ↦ subst (λ (n : ℕ). c.min-least.result ≤ room_of (links_above c.args.self.now.basin
        (slice_index c.args.self.now.kept)) (slice_index c.args.flow.now) (slice_index c.args.round.now n)) (sym e.1)
        (omega (arith, c.room.ensures, c.min-least.ensures))
    | inr e ↦ omega (arith, c.loop-at.invariant.least i (omega arith), c.min-least.ensures)
  ];
  one = one_next c.args.self.now.basin c.args.self.now.kept c.args.flow.now c.args.round.now c.loop-at.at _ _ _
      c.loop-at.invariant.one c.room.ensures c.min-least.ensures;
}

pub returns-then-least-eq0-clause-one : goal.returns-then-least-eq0-clause-one
returns-then-least-eq0-clause-one c =
    let b = c.args.self.now.basin in
    let kept = c.args.self.now.kept in
    one_of_more b kept c.args.flow.now c.args.round.now (c.loop-at.at + 1) _ 0 (omega (arith, c.loop-at-test.true))
    (subst (IsRoomOfOne b kept c.args.flow.now c.args.round.now (c.loop-at.at + 1)) c.if-least-eq0.true
    (one_next b kept c.args.flow.now c.args.round.now c.loop-at.at _ _ _ c.loop-at.invariant.one c.room.ensures
    c.min-least.ensures))
