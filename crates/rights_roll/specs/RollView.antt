-- What contracts see of a roll of rights.
use Rattle.std.specs.Prelude.{ℕ, List, Option}

-- the rights, seniors first; and for each link the first instream right on it, for each right the next one on its link
pub record RollView : Type 0 where
  pub order : List ℕ
  pub first_on : List (Option ℕ)
  pub next_on : List (Option ℕ)
