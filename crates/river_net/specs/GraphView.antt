-- What contracts see of a graph.
use Rattle.std.specs.Prelude.{ℕ, List}
use Rattle.water_model.specs.declared.types.Link.{Link}

-- how many nodes there are, and the links between them
pub record GraphView : Type 0 where
  pub nodes : ℕ
  pub links : List Link
