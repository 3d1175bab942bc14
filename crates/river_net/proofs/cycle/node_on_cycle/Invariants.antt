use Rattle.std.proofs.Common.{◌≡◌, ℕ, ◌<◌, false}
use Rattle.river_net.specs.Search.{reaches_itself}
use Rattle.river_net.proofs.cycle.node_on_cycle.Given as goal

abbrev pub invariant-loop-node : goal.invariant-loop-node
invariant-loop-node l = (v : ℕ) → v < l.node → reaches_itself l.graph v ≡ false
