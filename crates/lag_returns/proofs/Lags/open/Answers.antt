use Rattle.std.proofs.Common.{◌≡◌, ◌∙◌, [], map, ap, sym, subst, arith}
use Rattle.std.specs.Prelude.{All}
use Rattle.std.proofs.lemmas.List.{take_all}
use Rattle.lag_returns.specs.ReturnFlows.{fresh}
use Rattle.lag_returns.specs.Lags.{IsLagged, LagsStandFor}
use Rattle.lag_returns.proofs.Indices.{lagged_fresh, stands_fresh}
use Rattle.lag_returns.proofs.Lags.open.Goals as goal

pub invariant_of-result : goal.invariant_of-result
invariant_of-result c =
    let all : c.loop-row.flows.items ≡ map fresh c.args.rows.now =
    c.loop-row.invariant ∙ ap (map fresh) (take_all c.loop-row.row-index c.args.rows.now (omega arith)) in
    subst (All (λ w. IsLagged w.row)) (sym all) (lagged_fresh c.args.rows.now c.requires)

pub returns : goal.returns
returns c =
    let all : c.loop-row.flows.items ≡ map fresh c.args.rows.now =
    c.loop-row.invariant ∙ ap (map fresh) (take_all c.loop-row.row-index c.args.rows.now (omega arith)) in
    subst (λ lags. LagsStandFor lags c.args.rows.now []) (sym all) (stands_fresh c.args.rows.now)
