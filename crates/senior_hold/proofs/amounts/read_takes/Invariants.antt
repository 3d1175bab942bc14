use Rattle.std.proofs.Common.{◌≡◌, ℕ, ◌<◌, slice_index}
use Rattle.finite_sums.specs.Sums.{when}
use Rattle.circulation.specs.Contents.{flow_of}
use Rattle.senior_hold.specs.MonthNetwork.{takes, take_arc}
use Rattle.senior_hold.proofs.amounts.read_takes.Given as goal

abbrev pub invariant-loop-right : goal.invariant-loop-right
invariant-loop-right l = (r : ℕ) → r < l.right →
    slice_index l.into r ≡ when (takes l.basin r) (flow_of l.circ (take_arc l.basin r))
