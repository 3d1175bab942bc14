-- What contracts see of a river network.
use Rattle.std.specs.Prelude.{ℕ, List, Option}

-- the nodes in an order in which links run forward, for each node the first river that leaves it, and for each link the
-- node that it leads to
pub record NetView : Type 0 where
  pub order : List ℕ
  pub rivers : List (Option ℕ)
  pub heads : List ℕ
