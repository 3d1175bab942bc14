-- The words of a circulation that is opened.
use Rattle.std.specs.Prelude.{ℕ, ◌≡◌, ◌*◌, List, ◌++◌, length}
use Rattle.circulation.specs.declared.Ends.{Ends}
use Rattle.circulation.specs.Rows.{Rows, AreRows}
use Rattle.circulation.specs.Places.{tails, heads}
use Rattle.circulation.specs.Chains.{tails_of, heads_of, AreSmall}

-- the words are those of the rows over the arcs whose ends are packed in words
pub record AreFixed (nodes : ℕ) (pairs : List ℕ) (r : Rows) (words : List ℕ) : Type 0 where
  pub rows : AreRows nodes (tails_of pairs) (heads_of pairs) r
  pub steps : length r.step ≡ 2 * length pairs
  pub small : AreSmall r.end
  pub is : words ≡ r.step ++ (r.end ++ r.first)

-- the words are the ends of the arcs, packed, and then their rows
pub record IsLaid (nodes : ℕ) (es : List Ends) (fixed : List ℕ) : Type 0 where
  pub pairs : List ℕ
  pub rest : List ℕ
  pub rows : Rows
  pub from : tails_of pairs ≡ tails es
  pub to : heads_of pairs ≡ heads es
  pub count : length pairs ≡ length es
  pub words : fixed ≡ pairs ++ rest
  pub laid : AreFixed nodes pairs rows rest
