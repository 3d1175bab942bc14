use Rattle.std.proofs.Common.{sym, ◌∙◌}
use Rattle.basin_tree.proofs.Chains.{listed_by}
use Rattle.basin_tree.proofs.kinds.is_list_of.Goals as goal

pub returns-in-Some : goal.returns-in-Some
returns-in-Some c = c.are_so_many_integer.ensures ∙ sym (listed_by _ _ _ _ c.in-Some.ensures)
