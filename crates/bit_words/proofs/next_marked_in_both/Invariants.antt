use Rattle.std.proofs.Common.{◌≡◌, ℕ, ◌*◌, ◌<◌, ◌≤◌, false}
use Rattle.bit_words.specs.Marks.{in_both}
use Rattle.bit_words.proofs.next_marked_in_both.Given as goal

-- no index of an earlier word is marked in both
abbrev pub invariant-loop-at : goal.invariant-loop-at
invariant-loop-at l = (q : ℕ) → l.from ≤ q → q < l.indices → q < l.at * 64 → in_both l.words l.others q ≡ false
