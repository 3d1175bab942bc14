use Rattle.std.proofs.Common.{◌≡◌, ◌∙◌, ◌<◌, length, get_or, ap, sym, subst, arith}
use Rattle.std.proofs.lemmas.List.Edits.{map_over_more}
use Rattle.lag_returns.specs.ReturnFlows.{after_month, with_delivery}
use Rattle.lag_returns.proofs.Months.{unchanged}
use Rattle.lag_returns.proofs.Indices.{of_row}
use Rattle.lag_returns.proofs.take_each.Goals as goal

pub bounds-delivered-right : goal.bounds-delivered-right
bounds-delivered-right c =
    let here : c.loop-flow.flow-index < length c.args.flows.now = omega arith in
    subst (λ w. w.row.right < length c.args.delivered.now)
    (sym (c.flow.view_is ∙ unchanged (after_month c.args.delivered.now) c.loop-flow.flows c.args.flows.now
    c.loop-flow.flow-index c.flow-item.result here c.loop-flow.invariant))
    (of_row (λ row. row.right < length c.args.delivered.now) c.args.flows.now c.requires.rights c.loop-flow.flow-index
    c.flow-item.result here)

pub loop-flow-preserved : goal.loop-flow-preserved
loop-flow-preserved c =
    rw changed (map_over_more (after_month c.args.delivered.now) c.args.flows.now c.loop-flow.flows
    c.loop-flow.flow-index c.flow-item.result (omega arith) c.loop-flow.invariant c.flow-item.is)
  where
    changed : c.take.new.self ≡ after_month c.args.delivered.now c.flow-item.result
    changed =
        c.take.ensures ∙ ap (λ w. with_delivery (get_or c.args.delivered.now c.flow.inside.row.right 0) w)
        (sym c.flow-item.is) ∙ ap (λ r. with_delivery (get_or c.args.delivered.now r 0) c.flow-item.result)
        (ap (λ w. w.row.right) (c.flow.view_is ∙ sym c.flow-item.is))
