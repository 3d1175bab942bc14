use Rattle.std.proofs.Common.{◌≡◌, ◌∙◌, ap, sym, arith}
use Rattle.std.proofs.lemmas.List.Edits.{map_over_more}
use Rattle.lag_returns.specs.ReturnFlows.{emptied}
use Rattle.lag_returns.proofs.clear_each.Goals as goal

pub loop-flow-preserved : goal.loop-flow-preserved
loop-flow-preserved c =
    let changed : c.clear.new.self ≡ emptied c.flow-item.result = c.clear.ensures ∙ ap emptied (sym c.flow-item.is) in
    rw changed (map_over_more emptied c.args.flows.now c.loop-flow.flows c.loop-flow.flow-index c.flow-item.result
    (omega arith) c.loop-flow.invariant c.flow-item.is)
