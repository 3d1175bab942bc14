use Rattle.circulation.specs.Contents.{IsCirculation}
use Rattle.augment.proofs.Scans.{IsTrying}
use Rattle.augment.proofs.searching.scan.Given as goal

abbrev pub invariant-loop-place : goal.invariant-loop-place
invariant-loop-place l = record {
  trying : IsTrying l.fn.circ l.circ l.arc l.least l.fn.size l.count l.node l.place;
  kept : IsCirculation l.circ;
}
