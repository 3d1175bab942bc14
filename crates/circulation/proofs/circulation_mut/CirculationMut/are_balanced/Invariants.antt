use Rattle.std.proofs.Common.{ℕ, ◌≡◌, ◌+◌, ◌<◌, slice_index}
use Rattle.circulation.specs.Network.{inflow, outflow}
use Rattle.circulation.specs.Contents.{network}
use Rattle.circulation.proofs.circulation_mut.CirculationMut.are_balanced.Given as goal

abbrev pub invariant-loop-node : goal.invariant-loop-node
invariant-loop-node l = (v : ℕ) → v < l.node → slice_index l.supply v + inflow (network l.self)
    (slice_index l.amounts) v ≡ outflow (network l.self) (slice_index l.amounts) v
