use Rattle.std.proofs.Common.{All, subst, sym, ◌∷◌, []}
use Rattle.std.specs.Prelude.{IfSome}
use Rattle.std.proofs.lemmas.List.Elements.{All-append, All-cons, All-nil}
use Rattle.rivers_first.specs.Rounds.{IsRound}
use Rattle.rivers_first.proofs.search.Search.add_round.Goals as goal

pub returns-in_ok-push : goal.returns-in_ok-push
returns-in_ok-push c =
    let one : IsRound c.args.basin.now c.in-Some.round =
    subst (λ o. IfSome o (IsRound c.args.basin.now)) c.in-Some.is c.in_ok-round.ensures in
    subst (All (IsRound c.args.basin.now)) (sym c.in_ok-push.ensures.items)
    (All-append (IsRound c.args.basin.now) c.args.rounds.now.items (c.in-Some.round ∷ []) c.requires
    (All-cons (IsRound c.args.basin.now) c.in-Some.round [] one (All-nil (IsRound c.args.basin.now))))
