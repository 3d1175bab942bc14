use Rattle.std.proofs.Common.{ℕ, ◌≡◌, ◌<◌, length}
use Rattle.std.specs.Prelude.{Option}
use Rattle.chains.proofs.Building.{AreFrom}
use Rattle.chains.proofs.chains_by.Given as goal

abbrev pub invariant-loop-index : goal.invariant-loop-index
invariant-loop-index g l = record {
  one_first : length l.first.items ≡ l.keys;
  one_next : length l.next.items ≡ l.count;
  chains : (own : ℕ → Option ℕ) →
      ((index : ℕ) (key : Option ℕ) → index < l.count → goal.F-post g l.key_of index key → key ≡ own index) →
      AreFrom own l.count l.index l.first.items l.next.items;
}
