use Rattle.std.proofs.Common.{ℕ, ◌≡◌, ◌+◌, ap, arith, subst, sym}
use Rattle.residual_tree.specs.Tree.{label_of}
use Rattle.residual_tree.specs.Repair.{IsSaturatedTree}
use Rattle.residual_tree.proofs.Grows.{saturated_next, saturated_none}
use Rattle.residual_tree.proofs.ResidualTree.repair.Goals as goal

pub loop-at-preserved : goal.loop-at-preserved
loop-at-preserved c = saturated_next (sym c.scratch_get-step.ensures) (λ e. omega (
  arith,
  e,
  c.if-word-step.false,
  c.word.ensures,
  ap (label_of c.loop-at.self) c.end.ensures,
)) c.loop-at.invariant

pub returns : goal.returns
returns c =
    let all : c.args.first + c.args.count ≡ c.loop-at.at = omega (arith, c.loop-at.auto.at-end, c.loop-at-test.false) in
    saturated_none (subst (λ (n : ℕ). IsSaturatedTree c.args.circ.now c.loop-at.self c.loop-at.at n) all
    c.loop-at.invariant)

pub loop-at-init : goal.loop-at-init
loop-at-init c = c.requires.saturated

pub end-requires-clause-kept : goal.end-requires-clause-kept
end-requires-clause-kept c = c.nodes-nodes.ensures.kept

pub regrow-requires-clause-kept : goal.regrow-requires-clause-kept
regrow-requires-clause-kept c = c.nodes-nodes.ensures.kept

pub returns-then-word-step : goal.returns-then-word-step
returns-then-word-step c = c.regrow.ensures
