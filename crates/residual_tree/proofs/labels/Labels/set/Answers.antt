use Rattle.std.proofs.Common.{List, ℕ, ◌+◌, ◌*◌, ◌^◌, arith, ap, subst, sym, ◌∙◌}
use Rattle.std.proofs.lemmas.List.{length-set}
use Rattle.residual_tree.specs.Tree.{relabel}
use Rattle.residual_tree.specs.UnlabeledMarks.{HasUnlabeledMarks}
use Rattle.residual_tree.proofs.Packed.{written_word}
use Rattle.residual_tree.proofs.Marked.{marked_relabel, marked_outside}
use Rattle.residual_tree.proofs.labels.Labels.set.Goals as goal

pub invariant_of-self : goal.invariant_of-self
invariant_of-self c =
    let labels : List ℕ = c.self.inside.labels.now in
    let long = length-set labels c.args.node (c.args.label + c.from.result * 2 ^ 34) in
    let written = written_word labels c.args.node c.args.label c.args.start c.from.result c.from.ensures in
    let marks = c.mark_as.ensures in
    subst (λ (xs : List ℕ). HasUnlabeledMarks xs c.mark_as.new.words) (sym written)
    (marked_relabel c.args.node c.args.label c.args.start c.self.invariant (omega (arith, c.if-node-self.true, long))
    c.requires.label marks.count marks.on marks.off)

pub invariant_of-self-else-node-self : goal.invariant_of-self-else-node-self
invariant_of-self-else-node-self c =
    let labels : List ℕ = c.self.inside.labels.now in
    let long = length-set labels c.args.node (c.args.label + c.from.result * 2 ^ 34) in
    let written = written_word labels c.args.node c.args.label c.args.start c.from.result c.from.ensures in
    subst (λ (xs : List ℕ). HasUnlabeledMarks xs c.self.inside.unlabeled.now) (sym written)
    (marked_outside c.args.node c.args.label c.args.start c.self.invariant (omega (arith, c.if-node-self.false, long)))

pub returns-then-node-self : goal.returns-then-node-self
returns-then-node-self c =
    written_word c.self.inside.labels.now c.args.node c.args.label c.args.start c.from.result c.from.ensures
    ∙ ap (λ (xs : List ℕ). relabel xs c.args.node c.args.label c.args.start) c.self.view_is

pub returns-else-node-self : goal.returns-else-node-self
returns-else-node-self c =
    written_word c.self.inside.labels.now c.args.node c.args.label c.args.start c.from.result c.from.ensures
    ∙ ap (λ (xs : List ℕ). relabel xs c.args.node c.args.label c.args.start) c.self.view_is
