use Rattle.std.proofs.Common.{◌≡◌, ℕ, ◌+◌, ◌-◌, ◌≤◌, ◌++◌, List, length, take}
use Rattle.std.specs.Prelude.{None}
use Rattle.cert_check.specs.Pieces.{AreGiven, IsPartialLine, room_left}
use Rattle.cert_check.specs.Standing.{IsAudit}
use Rattle.cert_check.proofs.pieces.give.Given as goal

abbrev pub invariant-loop-at : goal.invariant-loop-at
invariant-loop-at l = record {
  within : l.at ≤ length l.piece;
  given : (text : List ℕ) → AreGiven l.fn.checker l.fn.line text →
      AreGiven l.checker l.line (text ++ take l.at l.piece);
  good : l.checker.refused ≡ None;
  left : room_left l.checker l.line + l.at ≤ room_left l.fn.checker l.fn.line;
  line : IsPartialLine l.line;
  basin : l.checker.basin ≡ l.fn.checker.basin;
  series : l.checker.series ≡ l.fn.checker.series;
  audit : IsAudit l.fn.checker → IsAudit l.checker;
}

abbrev pub decreases-loop-at : goal.decreases-loop-at
decreases-loop-at l = length l.piece - l.at
