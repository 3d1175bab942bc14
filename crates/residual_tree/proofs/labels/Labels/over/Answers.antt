use Rattle.std.proofs.Common.{◌-◌, length, arith}
use Rattle.residual_tree.proofs.Marked.{marked_all}
use Rattle.residual_tree.proofs.labels.Labels.over.Goals as goal

pub invariant_of-result : goal.invariant_of-result
invariant_of-result c = marked_all (length c.args.labels.now - 1) (omega (arith, c.requires.outside))
    c.requires.marks (c.fill.ensures.after (λ y h. h)) (c.fill-2.ensures.after (λ y h. h))
