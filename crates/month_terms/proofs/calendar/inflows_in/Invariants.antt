use Rattle.std.proofs.Common.{◌≡◌, map, take}
use Rattle.month_terms.specs.Calendars.{monthly_inflow}
use Rattle.month_terms.proofs.calendar.inflows_in.Given as goal

abbrev pub invariant-loop-node : goal.invariant-loop-node
invariant-loop-node l =
    l.inflows.items ≡ map (λ n. monthly_inflow n.inflow l.position) (take l.node-index l.node-items)
