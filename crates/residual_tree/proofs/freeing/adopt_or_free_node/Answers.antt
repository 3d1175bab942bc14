use Rattle.std.proofs.Common.{ℕ, ◌≡◌, ◌+◌, ◌-◌, arith, ap, refl, inl, ◌∙◌}
use Rattle.circulation.specs.Contents.{network}
use Rattle.circulation.specs.Residual.{start_of}
use Rattle.residual_tree.specs.Tree.{relabel}
use Rattle.residual_tree.proofs.freeing.adopt_or_free_node.Goals as goal

pub returns-then-word-ne0-clause-child : goal.returns-then-word-ne0-clause-child
returns-then-word-ne0-clause-child c = λ e.
    let is : c.find_near-word.result ≡ c.find_near-word.result - 1 + 1 = omega (arith, c.if-word-ne0.true) in
    let near = c.find_near-word.ensures (c.find_near-word.result - 1) is in
    inl record {
      step = c.find_near-word.result - 1;
      in_step = near.0;
      clear = near.1;
      words = c.set.ensures ∙ ap (relabel c.args.labels.now c.args.node c.find_near-word.result) c.start.ensures
          ∙ ap (λ (n : ℕ). relabel c.args.labels.now c.args.node n
          (start_of (network c.args.circ.now) (c.find_near-word.result - 1))) is;
      same = refl;
      none = refl;
    }
