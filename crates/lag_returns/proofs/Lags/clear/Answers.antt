use Rattle.std.proofs.Common.{◌∙◌, [], map, ap, sym, subst}
use Rattle.std.specs.Prelude.{All}
use Rattle.std.proofs.lemmas.List.Elements.{All-map}
use Rattle.lag_returns.specs.ReturnFlows.{emptied, fresh}
use Rattle.lag_returns.specs.Lags.{IsLagged, LagsStandFor, return_rows}
use Rattle.lag_returns.proofs.Months.{emptied_are, written}
use Rattle.lag_returns.proofs.Indices.{stands_fresh}
use Rattle.lag_returns.proofs.Lags.clear.Goals as goal

pub invariant_of-self : goal.invariant_of-self
invariant_of-self c =
    subst (All (λ w. IsLagged w.row)) (sym (written emptied c.self.inside.flows
    c.clear_each.ensures c.deref_mut.ensures.value c.deref_mut.ensures.len))
    (All-map (λ w. IsLagged w.row) emptied c.self.inside.flows.items c.self.invariant)

pub returns : goal.returns
returns c =
    subst (λ lags. LagsStandFor lags (return_rows c.args.self.now) []) (sym (written emptied c.self.inside.flows
    c.clear_each.ensures c.deref_mut.ensures.value c.deref_mut.ensures.len
    ∙ emptied_are c.self.inside.flows.items ∙ ap (λ ws. map fresh (return_rows ws)) c.self.view_is))
    (stands_fresh (return_rows c.args.self.now))
