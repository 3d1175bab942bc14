use Rattle.std.proofs.Common.{ℕ, ◌+◌, ◌-◌, ◌*◌, ◌≤◌, length}
use Rattle.circulation.specs.Chains.{IsNext, tails_of, heads_of, keys_of, IsPartRow, AreApart, AreSameBelow, AreSmall}
use Rattle.circulation.proofs.rows.write_row.Given as goal

abbrev pub invariant-loop-turn : goal.invariant-loop-turn
invariant-loop-turn l = record {
  written : (upto : ℕ) × (IsPartRow (tails_of l.pairs) (heads_of l.pairs) l.node upto l.first l.place l.step l.ends
      × IsNext (keys_of l.pairs) l.node upto l.turn);
  before : AreApart (tails_of l.pairs) (heads_of l.pairs) l.node l.first l.step;
  apart : AreApart (tails_of l.pairs) (heads_of l.pairs) (l.node + 1) l.place l.step;
  same : AreSameBelow l.first l.fn.step l.fn.ends l.step l.ends;
  small : AreSmall l.ends;
  inside : l.place ≤ 2 * length l.pairs;
}

abbrev pub decreases-loop-turn : goal.decreases-loop-turn
decreases-loop-turn l = 2 * length l.pairs - l.turn
