use Rattle.std.proofs.Common.{◌≡◌, ℕ, ◌<◌, slice_index}
use Rattle.circulation.specs.Contents.{flow_of}
use Rattle.senior_hold.specs.MonthNetwork.{spill_arc}
use Rattle.senior_hold.proofs.amounts.read_spills.Given as goal

abbrev pub invariant-loop-node : goal.invariant-loop-node
invariant-loop-node l = (n : ℕ) → n < l.node → slice_index l.into n ≡ flow_of l.circ (spill_arc l.basin n)
