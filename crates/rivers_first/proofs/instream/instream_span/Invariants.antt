use Rattle.std.proofs.Common.{ℕ, ◌≡◌, ◌<◌, ◌≤◌, ◌⊎◌}
use Rattle.std.specs.Prelude.{None}
use Rattle.water_model.specs.Basin.{instream_link}
use Rattle.rivers_first.proofs.instream.instream_span.Given as goal

abbrev pub invariant-loop-right : goal.invariant-loop-right
invariant-loop-right l = record {
  order : l.span.first ≤ l.span.last;
  within : l.span.last ≤ l.right;
  others : (r : ℕ) → r < l.right → (r < l.span.first) ⊎ (l.span.last ≤ r) → instream_link l.basin r ≡ None;
}
