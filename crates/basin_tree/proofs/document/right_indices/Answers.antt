use Rattle.std.specs.Prelude.{codes}
use Rattle.toml_tree.specs.Texts.{is_the_text}
use Rattle.basin_tree.proofs.Rights.{in_three}
use Rattle.basin_tree.proofs.document.right_indices.Goals as goal

pub returns : goal.returns
returns c = λ q. rw (← c.listed_at-diversions.ensures, ← c.listed_at-instreams.ensures, ← c.listed_at-zones.ensures)
    (in_three (is_the_text q) (codes "name") c.listed_at-diversions.result.now c.listed_at-instreams.result.now
    c.listed_at-zones.result.now _ _ _ (c.in_ok-indices.ensures q) (c.in_ok-add_indices.ensures q)
    (c.in_ok-add_indices-2.ensures q))
