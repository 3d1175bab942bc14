use Rattle.std.proofs.Common.{◌≡◌, take}
use Rattle.std.specs.List.{flat_map}
use Rattle.result_reader.specs.Form.{shapes_in}
use Rattle.result_reader.proofs.dues.sections_of.Given as goal

abbrev pub invariant-loop-section : goal.invariant-loop-section
invariant-loop-section l =
    l.dues.items ≡ flat_map (λ section. shapes_in section l.basin) (take l.section-index l.section-items)
