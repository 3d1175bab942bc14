use Rattle.std.proofs.Common.{◌≡◌, ◌+◌, ◌-◌, ◌<◌, ◌≤◌, drop, length}
use Rattle.std.specs.Prelude.{◌==◌, slice_index}
use Rattle.std.specs.List.{prefix_len}
use Rattle.index_seq.proofs.writer.run_length.Given as goal

abbrev pub invariant-loop-count : goal.invariant-loop-count
invariant-loop-count l =
    (prefix_len (λ x. x == slice_index l.amounts 0) l.amounts ≡ l.count + prefix_len (λ x. x == slice_index l.amounts 0)
    (drop l.count l.amounts))
    × (0 < l.count) × (l.count ≤ length l.amounts)

abbrev pub decreases-loop-count : goal.decreases-loop-count
decreases-loop-count l = length l.amounts - l.count
