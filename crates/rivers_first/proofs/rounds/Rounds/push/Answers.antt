use Rattle.std.proofs.Common.{ℕ, ◌≡◌, arith, length, slice_index, subst}
use Rattle.circulation.specs.Residual.{IsPushed}
use Rattle.rivers_first.proofs.Sending.{sending_start, sending_fits, sending_next, sending_end}
use Rattle.rivers_first.proofs.rounds.Rounds.push.Goals as goal

pub loop-at-init : goal.loop-at-init
loop-at-init c = sending_start _ _ _ _ _ c.requires.round c.requires.within

pub stepped-requires-clause-back : goal.stepped-requires-clause-back
stepped-requires-clause-back c = (sending_fits _ _ _ _ _ _ _ c.requires.round c.requires.within c.requires.amount
    c.requires.room c.loop-at.invariant c.loop-at-test.true).0

pub stepped-requires-clause-forward : goal.stepped-requires-clause-forward
stepped-requires-clause-forward c = (sending_fits _ _ _ _ _ _ _ c.requires.round c.requires.within c.requires.amount
    c.requires.room c.loop-at.invariant c.loop-at-test.true).1

pub loop-at-preserved : goal.loop-at-preserved
loop-at-preserved c = sending_next _ _ _ _ _ _ _ _ c.requires.round c.requires.within c.requires.amount
    c.requires.room c.loop-at.invariant c.loop-at-test.true c.stepped.ensures

pub returns-clause-sent : goal.returns-clause-sent
returns-clause-sent c =
    sending_end _ _ _ _ _ _ _ (omega (arith, c.loop-at-test.false, c.loop-at.auto.at-end)) c.loop-at.invariant

pub returns-clause-pushed : goal.returns-clause-pushed
returns-clause-pushed c =
    let end : c.loop-at.at ≡ length c.args.round.now = omega (arith, c.loop-at-test.false, c.loop-at.auto.at-end) in
    subst (λ (n : ℕ). IsPushed (slice_index c.args.flow.now) (slice_index c.loop-at.flow) (slice_index c.args.round.now)
    0 n c.args.amount) end c.loop-at.invariant.pushing.pushed
