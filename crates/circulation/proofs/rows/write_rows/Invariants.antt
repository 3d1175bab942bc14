use Rattle.std.proofs.Common.{◌≡◌, ◌+◌, length}
use Rattle.circulation.specs.Chains.{tails_of, heads_of, AreApart, AreSmall}
use Rattle.circulation.proofs.RowLists.{AreRowsUpTo}
use Rattle.circulation.proofs.rows.write_rows.Given as goal

abbrev pub invariant-loop-node : goal.invariant-loop-node
invariant-loop-node l = record {
  rows : AreRowsUpTo (tails_of l.pairs) (heads_of l.pairs) l.node l.place
      record { first = l.first; step = l.step; end = l.ends };
  apart : AreApart (tails_of l.pairs) (heads_of l.pairs) l.node l.place l.step;
  small : AreSmall l.ends;
  firsts : length l.first ≡ l.nodes + 2;
}
