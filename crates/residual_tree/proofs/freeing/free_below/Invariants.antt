use Rattle.std.proofs.Common.{ℕ, ◌-◌}
use Rattle.residual_tree.specs.Repair.{IsFreeing}
use Rattle.residual_tree.proofs.freeing.free_below.Given as goal

abbrev pub invariant-loop-done : goal.invariant-loop-done
invariant-loop-done l = (at : ℕ) × IsFreeing l.circ l.labels l.freed at at l.done l.count

abbrev pub decreases-loop-done : goal.decreases-loop-done
decreases-loop-done l = l.circ.nodes - l.done
