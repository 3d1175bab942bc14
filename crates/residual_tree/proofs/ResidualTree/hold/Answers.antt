use Rattle.std.proofs.Common.{◌≡◌, ℕ, ◌+◌, ◌*◌, List, ap, sym, ◌∙◌, arith}
use Rattle.std.specs.Prelude.{max, slice_index, slice_set}
use Rattle.std.proofs.lemmas.List.{set-get_or}
use Rattle.residual_tree.proofs.Pushes.{hold_saturated}
use Rattle.residual_tree.proofs.ResidualTree.hold.Goals as goal

pub repair-requires-clause-saturated : goal.repair-requires-clause-saturated
repair-requires-clause-saturated c =
    hold_saturated c.args.arc c.args.amount
    c.nodes-nodes.ensures.kept c.requires.tree c.requires.arc (ap (λ (a : ℕ). 2 * a + 1) c.from.ensures)
    c.scratch_set.ensures.written c.hold.ensures.held

pub returns-then-amount-lower : goal.returns-then-amount-lower
returns-then-amount-lower c =
    let d = c.args.circ.now in
    let r = c.args.arc in
    let most : max (slice_index d.lower r) c.args.amount ≡ slice_index d.lower r =
    omega (arith, c.lower.ensures, c.if-amount-lower.true) in
    let same : slice_set d.lower r (max (slice_index d.lower r) c.args.amount) ≡ d.lower =
    ap (slice_set d.lower r) most ∙ set-get_or d.lower r 0 in
    record {
      kept = c.nodes-nodes.ensures.kept;
      held = sym (ap (λ (ls : List ℕ). record d { lower = ls }) same);
      tree = c.requires.tree;
    }
