use Rattle.std.proofs.Common.{◌≡◌, ℕ, ◌<◌, length, take}
use Rattle.std.specs.Prelude.{find}
use Rattle.water_model.specs.Indices.{seniors_first}
use Rattle.cut_cert.specs.Callers.{AreFree, caller_at, is_short_at}
use Rattle.cut_cert.proofs.calls.callers_by_node.Given as goal

abbrev pub invariant-loop-right : goal.invariant-loop-right
invariant-loop-right l = record {
  count : length l.callers ≡ 2000;
  words : length l.free ≡ 32;
  free : AreFree l.nodes l.callers l.free;
  each : (n : ℕ) → n < l.nodes →
      caller_at l.callers n ≡ find (λ c. is_short_at l.month c n) (take l.right-index (seniors_first l.basin));
}
