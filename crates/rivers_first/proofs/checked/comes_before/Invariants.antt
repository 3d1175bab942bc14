use Rattle.std.proofs.Common.{ℕ, ◌≢◌, ◌<◌, slice_index}
use Rattle.circulation.specs.Residual.{arc_of}
use Rattle.rivers_first.proofs.checked.comes_before.Given as goal

abbrev pub invariant-loop-earlier : goal.invariant-loop-earlier
invariant-loop-earlier l =
    (i : ℕ) → i < l.earlier → arc_of (slice_index l.round i) ≢ arc_of (slice_index l.round l.at)
