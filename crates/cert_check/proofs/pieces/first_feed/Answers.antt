use Rattle.std.proofs.Common.{◌≡◌, ℕ, ◌==◌, true, false, List, arith, length}
use Rattle.std.specs.Prelude.{Option, None, Some, slice_index}
use Rattle.std.specs.List.{position}
use Rattle.std.proofs.lemmas.List.Sums.{position_or_len_is}
use Rattle.memchr.specs.Find.{IsFirstByte, is_byte}
use Rattle.water_text.specs.LinesIn.{is_feed}
use Rattle.cert_check.proofs.pieces.first_feed.Goals as goal

no_feed : (byte : ℕ) → ¬ (byte == 10 ≡ true) → byte == 10 ≡ false
no_feed byte h = grind arith

is_position : (bytes : List ℕ) (found : Option ℕ) → IsFirstByte (is_byte 10) bytes found →
    found ≡ position is_feed bytes
is_position bytes None h =
    let at = position_or_len_is is_feed bytes (length bytes) 0 (omega arith)
    (λ k before. no_feed (slice_index bytes k) (h k (omega arith) before)) (λ past. absurd (omega arith)) in
    grind (arith, at)
is_position bytes (Some k) h =
    let at = position_or_len_is is_feed bytes k 0 (omega (arith, h.0.high))
    (λ other before. no_feed (slice_index bytes other) (h.0.before other (omega arith) before)) (λ within. h.1) in
    grind (arith, at, h.0.high)

pub returns : goal.returns
returns c = is_position c.args.piece.now c.memchr.result c.memchr.ensures
