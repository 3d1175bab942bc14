use Rattle.std.proofs.Common.{◌≡◌, arith, subst, sym}
use Rattle.rivers_first.proofs.Sending.{IsChanged, not_changed, relieved}
use Rattle.rivers_first.proofs.rounds.Rounds.send.Goals as goal

pub returns-then-amount-gt0-clause-relieved : goal.returns-then-amount-gt0-clause-relieved
returns-then-amount-gt0-clause-relieved c down =
    relieved _ _ _ _ _ _ c.requires.round c.requires.within down c.least_room-amount.ensures.least
    c.least_room-amount.ensures.one (λ i l. c.push.ensures.pushed.on i (omega arith) l)

pub returns-else-amount-gt0-clause-relieved : goal.returns-else-amount-gt0-clause-relieved
returns-else-amount-gt0-clause-relieved c down =
    let none : c.least_room-amount.result ≡ 0 = omega (arith, c.if-amount-gt0.false) in
    relieved _ _ _ _ _ _ c.requires.round c.requires.within down c.least_room-amount.ensures.least
    c.least_room-amount.ensures.one
    (subst (IsChanged c.args.flow.now c.args.flow.now c.args.round.now) (sym none)
    (not_changed c.args.flow.now c.args.round.now))
