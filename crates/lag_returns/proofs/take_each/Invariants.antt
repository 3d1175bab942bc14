use Rattle.std.proofs.Common.{◌≡◌, ◌++◌, map, take, drop}
use Rattle.lag_returns.specs.ReturnFlows.{after_month}
use Rattle.lag_returns.proofs.take_each.Given as goal

abbrev pub invariant-loop-flow : goal.invariant-loop-flow
invariant-loop-flow l =
    l.flows ≡ map (after_month l.delivered) (take l.flow-index l.initial.flows) ++ drop l.flow-index l.initial.flows
