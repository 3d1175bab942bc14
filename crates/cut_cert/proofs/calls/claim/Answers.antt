use Rattle.std.proofs.Common.{arith, inl, inr}
use Rattle.std.proofs.lemmas.Bool.{cases_lt}
use Rattle.cut_cert.proofs.Claims.{claims_begin, claims_next, unclaimed}
use Rattle.cut_cert.proofs.calls.claim.Goals as goal

pub loop-turn-init : goal.loop-turn-init
loop-turn-init c = record {
  turns = omega arith;
  within = omega arith;
  claimed = claims_begin c.args.nodes c.args.right c.args.set.now c.args.callers.now c.args.free.now;
}

pub loop-turn-preserved : goal.loop-turn-preserved
loop-turn-preserved c =
    let next = c.in-Some.ensures.some in
    record {
      turns = omega (arith, c.loop-turn.invariant.turns, next.after);
      within = omega (arith, next.below);
      claimed =
          claims_next c.args.nodes c.args.right c.loop-turn.from c.in-Some.node c.args.set.now c.args.callers.now
          c.loop-turn.callers
          c.args.free.now c.loop-turn.free c.unmark.new.words c.loop-turn.invariant.claimed next
          (omega (arith, next.below, c.loop-turn.auto.callers, c.requires.callers)) c.unmark.ensures.on
          c.unmark.ensures.off;
    }

pub returns-in-None-clause-given : goal.returns-in-None-clause-given
returns-in-None-clause-given c = λ n below. elim (cases_lt n c.loop-turn.from) [
  | inl early ↦ c.loop-turn.invariant.claimed.given n early below
  | inr late ↦
      (unclaimed c.args.nodes c.args.right c.loop-turn.from c.args.set.now c.args.callers.now c.loop-turn.callers
      c.args.free.now c.loop-turn.free
      c.loop-turn.invariant.claimed n late (c.in-None.ensures.none n late below)).0
]

pub returns-in-None-clause-left : goal.returns-in-None-clause-left
returns-in-None-clause-left c = λ n below. elim (cases_lt n c.loop-turn.from) [
  | inl early ↦ c.loop-turn.invariant.claimed.left n early below
  | inr late ↦
      (unclaimed c.args.nodes c.args.right c.loop-turn.from c.args.set.now c.args.callers.now c.loop-turn.callers
      c.args.free.now c.loop-turn.free
      c.loop-turn.invariant.claimed n late (c.in-None.ensures.none n late below)).1
]

pub returns-clause-given : goal.returns-clause-given
returns-clause-given c = λ n below.
    c.loop-turn.invariant.claimed.given n (omega (arith, c.loop-turn.invariant.turns, c.loop-turn-test.false)) below

pub returns-clause-left : goal.returns-clause-left
returns-clause-left c = λ n below.
    c.loop-turn.invariant.claimed.left n (omega (arith, c.loop-turn.invariant.turns, c.loop-turn-test.false)) below
