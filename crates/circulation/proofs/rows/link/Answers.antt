use Rattle.std.proofs.Common.{ℕ, ◌≡◌, ◌-◌, slice_index, arith, subst}
use Rattle.circulation.specs.Chains.{IsNext, keys_of}
use Rattle.circulation.proofs.Links.{link_start, link_next, turns_are}
use Rattle.circulation.proofs.rows.link.Goals as goal

pub loop-a-init : goal.loop-a-init
loop-a-init c = link_start (keys_of c.args.pairs.now) c.args.first.now c.args.next.now
    (omega (arith, turns_are c.args.pairs.now)) c.requires.none

pub loop-a-preserved : goal.loop-a-preserved
loop-a-preserved c =
    let turns = turns_are c.args.pairs.now in
    let within = c.requires.within (c.loop-a.a - 1) (omega (arith, turns, c.loop-a.auto.a, c.loop-a-test.true)) in
    link_next c.loop-a-test.true (omega (arith, turns, c.loop-a.auto.a)) c.key-key.ensures
    (omega (arith, within, c.key-key.ensures, c.loop-a.auto.first))
    (omega (arith, turns, c.loop-a.auto.next, c.requires.nexts)) c.loop-a.invariant

pub returns-clause-starts : goal.returns-clause-starts
returns-clause-starts c = λ v b.
    let end : c.loop-a.a ≡ 0 = omega (arith, c.loop-a-test.false) in
    subst (λ (n : ℕ). IsNext (keys_of c.args.pairs.now) v n (slice_index c.loop-a.first v)) end
    (c.loop-a.invariant.starts v b)

pub returns-clause-follows : goal.returns-clause-follows
returns-clause-follows c = λ a b. c.loop-a.invariant.follows a (omega (arith, c.loop-a-test.false)) b
