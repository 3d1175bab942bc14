use Rattle.std.proofs.Common.{take}
use Rattle.toml.specs.View.{items_view}
use Rattle.toml_tree.specs.Texts.{texts_after}
use Rattle.toml_tree.specs.FirstIndices.{AddsIndices}
use Rattle.toml_tree.proofs.indices.add_indices.Given as goal

-- the texts of the values so far are added
abbrev pub invariant-loop-i : goal.invariant-loop-i
invariant-loop-i l = AddsIndices l.initial.indices l.indices l.from (take l.i (texts_after l.key (items_view l.values)))
