use Rattle.std.proofs.Common.{◌∙◌}
use Rattle.basin_tree.proofs.document.index_of.Goals as goal

pub returns : goal.returns
returns c = rw (← c.as_bytes.ensures.value) (c.copied.ensures ∙ c.get.ensures.value)
