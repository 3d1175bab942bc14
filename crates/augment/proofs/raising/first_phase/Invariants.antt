use Rattle.std.proofs.Common.{◌≡◌, ◌-◌, ◌^◌, ◌<◌, ◌≤◌}
use Rattle.augment.proofs.raising.first_phase.Given as goal

abbrev pub invariant-loop-least : goal.invariant-loop-least
invariant-loop-least l = record {
  power : l.least ≡ 2 ^ (l.count - 1);
  some : 0 < l.count;
  positive : 0 < l.least;
  within : l.least ≤ l.missing;
  bounded : l.count ≤ l.least;
}

abbrev pub decreases-loop-least : goal.decreases-loop-least
decreases-loop-least l = l.missing - l.least
