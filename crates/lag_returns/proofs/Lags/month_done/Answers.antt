use Rattle.std.proofs.Common.{◌∙◌, ◌++◌, ◌∷◌, [], ap, sym, subst}
use Rattle.std.specs.Prelude.{All}
use Rattle.lag_returns.specs.ReturnFlows.{after_month}
use Rattle.lag_returns.specs.Lags.{IsLagged, LagsStandFor, return_rows}
use Rattle.lag_returns.proofs.Months.{lagged_after, rows_after, stands_after, written}
use Rattle.lag_returns.proofs.Lags.month_done.Goals as goal

pub invariant_of-self : goal.invariant_of-self
invariant_of-self c =
    subst (All (λ w. IsLagged w.row)) (sym (written (after_month c.args.delivered.now) c.self.inside.flows
    c.take_each.ensures c.deref_mut.ensures.value c.deref_mut.ensures.len))
    (lagged_after c.args.delivered.now c.self.inside.flows.items c.self.invariant)

pub returns-clause-rows : goal.returns-clause-rows
returns-clause-rows c =
    ap return_rows (written (after_month c.args.delivered.now) c.self.inside.flows
    c.take_each.ensures c.deref_mut.ensures.value c.deref_mut.ensures.len)
    ∙ rows_after c.args.delivered.now c.self.inside.flows.items ∙ ap return_rows c.self.view_is

pub returns-clause-stands : goal.returns-clause-stands
returns-clause-stands c rows deliveries stands =
    subst (λ lags. LagsStandFor lags rows (deliveries ++ c.args.delivered.now ∷ []))
    (sym (written (after_month c.args.delivered.now) c.self.inside.flows
    c.take_each.ensures c.deref_mut.ensures.value c.deref_mut.ensures.len))
    (stands_after c.args.delivered.now c.self.invariant
    (subst (λ lags. LagsStandFor lags rows deliveries) (sym c.self.view_is) stands))
