use Rattle.std.proofs.Common.{◌≡◌, ◌≤◌, ◌+◌, ◌-◌, slice_index}
use Rattle.circulation.specs.Contents.{IsCirculation, SameButScratch}
use Rattle.augment.specs.Search.{HasTree}
use Rattle.augment.specs.Raised.{position_of}
use Rattle.augment.proofs.Searches.{AreDone}
use Rattle.augment.proofs.searching.search.Given as goal

abbrev pub invariant-loop-done : goal.invariant-loop-done
invariant-loop-done l = record {
  rest : SameButScratch l.fn.circ l.circ;
  tree : HasTree l.circ l.arc l.least l.size;
  kept : IsCirculation l.circ;
  done : position_of l.circ (slice_index l.fn.circ.from l.arc) ≡ 0 → AreDone l.fn.circ l.circ l.arc l.least l.done;
  within : l.done ≤ l.size;
  nodes : l.nodes ≡ l.circ.nodes;
  most : l.size ≤ l.nodes + 1;
}

abbrev pub decreases-loop-done : goal.decreases-loop-done
decreases-loop-done l = l.nodes + 1 - l.done
