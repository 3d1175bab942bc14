use Rattle.std.proofs.Common.{ℕ, List, [], ◌<◌, ◌⊎◌, ◌∙◌, length, subst, arith, All, ap, get_or}
use Rattle.std.proofs.lemmas.List.{get_or_default}
use Rattle.rivers_first.specs.Rounds.{IsDown, IsRound, RoundsView}
use Rattle.rivers_first.specs.Sent.{IsRelieved, HasFullRiver, IsSent}
use Rattle.rivers_first.proofs.Sending.{sent_then, relieved_next}
use Rattle.rivers_first.proofs.rounds.Rounds.send_all.Goals as goal
use Rattle.rivers_first.proofs.rounds.Rounds.send_all.Goals.{then-send_over, else-send_over}

pub loop-at-preserved : goal.loop-at-preserved
loop-at-preserved c =
    let view = c.args.self.now in
    let rounds = view.rounds in
    let at = c.loop-at.at in
    let before = c.loop-at.invariant in
    let flow = c.send_over.new.flow in
    let are : All (IsRound view.basin) rounds =
    subst (λ (v : RoundsView). All (IsRound v.basin) v.rounds) c.self.view_is c.self.invariant.are.each in
    let count = ap (λ (v : RoundsView). length v.rounds) c.self.view_is in
    let within : at < length rounds = omega (arith, c.loop-at-test.true, c.len-at-end.ensures, count) in
    let sent : IsSent view.basin view.kept c.loop-at.flow flow =
    subst (λ (v : RoundsView). IsSent v.basin v.kept c.loop-at.flow flow) before.same c.send_over.ensures.sent in
    let here : IsDown (get_or rounds at []) →
    IsRelieved view.kept flow (get_or rounds at []) ⊎ HasFullRiver view.basin flow =
    subst (λ (v : RoundsView). IsDown (get_or v.rounds at []) →
    IsRelieved v.kept flow (get_or v.rounds at []) ⊎ HasFullRiver v.basin flow) before.same
    c.send_over.ensures.relieved in
    record {
      same = elim c.if-send_over.branch [
        | then-send_over w ↦ w.self-is ∙ c.self-in-loop-at.view_is ∙ before.same
        | else-send_over w ↦ w.self-is ∙ before.same
      ];
      sent = sent_then view.basin view.kept _ _ _ before.sent sent;
      relieved = λ d. relieved_next view.basin view.kept _ _ flow rounds at d are within before.sent sent
          (subst (λ (round : List ℕ). IsDown round → IsRelieved view.kept flow round ⊎ HasFullRiver view.basin flow)
          (get_or_default rounds at [] d within) here) (before.relieved d);
      few = elim c.if-send_over.branch [
        | then-send_over w ↦ omega (arith, w.count-is, before.few)
        | else-send_over w ↦ omega (arith, w.count-is, before.few)
      ];
    }

pub send_over-requires-clause-within : goal.send_over-requires-clause-within
send_over-requires-clause-within c = rw c.loop-at.invariant.same c.loop-at.invariant.sent.within

pub returns-clause-same : goal.returns-clause-same
returns-clause-same c = c.loop-at.invariant.same

pub returns-clause-sent : goal.returns-clause-sent
returns-clause-sent c = c.loop-at.invariant.sent
