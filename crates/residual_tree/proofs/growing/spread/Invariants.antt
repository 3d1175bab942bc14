use Rattle.residual_tree.specs.Tree.{IsLabeled}
use Rattle.std.proofs.Common.{ℕ, ◌-◌, []}
use Rattle.residual_tree.specs.Repair.{IsGrowing}
use Rattle.residual_tree.proofs.growing.spread.Given as goal

abbrev pub invariant-loop-done : goal.invariant-loop-done
invariant-loop-done g l = record {
  tree : IsGrowing l.circ g.artificial l.labels [] l.queue 0 0 l.done l.count;
  more : (v : ℕ) → IsLabeled l.fn.labels v → IsLabeled l.labels v;
}

abbrev pub decreases-loop-done : goal.decreases-loop-done
decreases-loop-done g l = l.circ.nodes - l.done

abbrev pub ghost-spread_from : goal.ghost-spread_from
ghost-spread_from g a = g.artificial
