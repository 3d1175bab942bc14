use Rattle.std.proofs.Common.{ℕ, ◌≡◌, ◌<◌}
use Rattle.circulation.specs.Contents.{IsCirculation, SameButScratch}
use Rattle.augment.specs.Raised.{position_of}
use Rattle.augment.proofs.scratch.clear.Given as goal

abbrev pub invariant-loop-at : goal.invariant-loop-at
invariant-loop-at l = record {
  rest : SameButScratch l.fn.circ l.circ;
  kept : IsCirculation l.circ;
  none : (v : ℕ) → v < l.at → position_of l.circ v ≡ 0;
}
