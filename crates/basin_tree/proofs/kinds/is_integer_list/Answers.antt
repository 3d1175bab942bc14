use Rattle.std.proofs.Common.{sym, ◌∙◌}
use Rattle.basin_tree.proofs.Chains.{all_or}
use Rattle.basin_tree.proofs.kinds.is_integer_list.Goals as goal

pub returns-in-Some : goal.returns-in-Some
returns-in-Some c = c.are_integer.ensures ∙ sym (all_or _ _ _ _ c.in-Some.ensures)
