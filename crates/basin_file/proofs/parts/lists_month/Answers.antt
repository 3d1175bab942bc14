use Rattle.std.proofs.Common.{sym, ◌∙◌}
use Rattle.basin_file.proofs.Values.{any_or}
use Rattle.basin_file.proofs.parts.lists_month.Goals as goal

pub returns-in-Some : goal.returns-in-Some
returns-in-Some c = c.has_month.ensures ∙ sym (any_or _ _ _ c.in-Some.ensures)
