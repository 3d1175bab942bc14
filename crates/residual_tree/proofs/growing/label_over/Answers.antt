use Rattle.std.proofs.Common.{ℕ, ◌+◌, ◌*◌, ap, subst}
use Rattle.residual_tree.specs.Repair.{HasArtificialStep}
use Rattle.residual_tree.proofs.Grows.{lending}
use Rattle.residual_tree.proofs.growing.label_over.Goals as goal

pub spread-requires : goal.spread-requires
spread-requires c =
    let l = lending c.args.queue.now c.args.exit c.requires.kept c.requires.tree c.requires.places
    c.requires.exit c.requires.out c.requires.unlabeled c.ends-node.ensures.from
    (ap (λ (a : ℕ). 2 * a + 1) c.from.ensures) c.nodes.ensures.number
    c.attach-size.ensures.labels c.attach-size.ensures.queue c.attach-size.ensures.count in
    (l.grows, c.requires.kept)

pub returns : goal.returns
returns c =
    let l = lending c.args.queue.now c.args.exit c.requires.kept c.requires.tree c.requires.places c.requires.exit
    c.requires.out c.requires.unlabeled c.ends-node.ensures.from (ap (λ (a : ℕ). 2 * a + 1) c.from.ensures)
    c.nodes.ensures.number c.attach-size.ensures.labels c.attach-size.ensures.queue c.attach-size.ensures.count in
    record {
      tree = subst (λ (n : ℕ). HasArtificialStep c.args.circ.now c.spread.new.labels n) l.artificial
          c.spread.ensures.tree;
      head = c.spread.ensures.more _ l.labeled;
    }
