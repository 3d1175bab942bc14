use Rattle.std.proofs.Common.{◌≡◌, ◌++◌, ◌≤◌, ◌<◌, ◌^◌, drop, length}
use Rattle.std.specs.Fmt.{decimal}
use Rattle.water_text.proofs.line.Line.amount.Given as goal

abbrev pub invariant-loop-rest : goal.invariant-loop-rest
invariant-loop-rest l = record {
  whole : length l.digits ≡ 20;
  some : 0 < l.at;
  within : l.at ≤ 20;
  enough : l.rest < 10 ^ l.at;
  fits : l.rest < 2 ^ 64;
  spelled : decimal l.rest ++ drop l.at l.digits ≡ decimal l.value;
}

abbrev pub decreases-loop-rest : goal.decreases-loop-rest
decreases-loop-rest l = l.rest
