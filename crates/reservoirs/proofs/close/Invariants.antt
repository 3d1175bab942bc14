use Rattle.std.proofs.Common.{◌≡◌, ◌≤◌, ◌*◌, ◌^◌, take}
use Rattle.std.specs.Prelude.{sum}
use Rattle.reservoirs.proofs.close.Given as goal

abbrev pub invariant-loop-fill : goal.invariant-loop-fill
invariant-loop-fill l = record {
  total : l.closing ≡ sum (take l.fill-index l.fills);
  small : l.closing ≤ 10 ^ 9 * l.fill-index;
}
