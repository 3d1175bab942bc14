use Rattle.std.proofs.Common.{◌≡◌, ◌++◌, map, take, drop}
use Rattle.lag_returns.specs.ReturnFlows.{emptied}
use Rattle.lag_returns.proofs.clear_each.Given as goal

abbrev pub invariant-loop-flow : goal.invariant-loop-flow
invariant-loop-flow l = l.flows ≡ map emptied (take l.flow-index l.initial.flows) ++ drop l.flow-index l.initial.flows
