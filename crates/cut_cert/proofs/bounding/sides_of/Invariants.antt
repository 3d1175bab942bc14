use Rattle.std.proofs.Common.{◌-◌, length}
use Rattle.std.specs.Prelude.{unwrap_or}
use Rattle.water_model.specs.Lookups.{has}
use Rattle.cut_cert.specs.Rows.{node_capacity, node_kept}
use Rattle.cut_cert.specs.Sets.{marked_nodes}
use Rattle.cut_cert.proofs.RowSums.{IsSummedSoFar}
use Rattle.cut_cert.proofs.bounding.sides_of.Given as goal

abbrev pub invariant-loop-next : goal.invariant-loop-next
invariant-loop-next l = record {
  capacity : IsSummedSoFar (λ n. has (marked_nodes l.basin l.words) n) (length l.basin.nodes)
      (node_capacity l.basin l.month l.supply (marked_nodes l.basin l.words)) l.sides.capacity l.next;
  kept : IsSummedSoFar (λ n. has (marked_nodes l.basin l.words) n) (length l.basin.nodes)
      (node_kept l.basin l.delivered l.right (marked_nodes l.basin l.words)) l.sides.kept l.next;
}

abbrev pub decreases-loop-next : goal.decreases-loop-next
decreases-loop-next l = length l.basin.nodes - unwrap_or l.next (length l.basin.nodes)
