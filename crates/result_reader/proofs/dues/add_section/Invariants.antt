use Rattle.std.proofs.Common.{◌≡◌, ◌++◌, take}
use Rattle.std.specs.List.{flat_map}
use Rattle.water_model.specs.Entries.{in_order}
use Rattle.result_lines.specs.Text.{section_space}
use Rattle.result_reader.specs.Form.{shapes_at}
use Rattle.result_reader.proofs.dues.add_section.Given as goal

abbrev pub invariant-loop-position : goal.invariant-loop-position
invariant-loop-position l =
    l.dues.items
    ≡ l.fn.dues.items ++ flat_map (shapes_at l.section l.basin)
    (take l.position (in_order (section_space l.section) l.basin))
