use Rattle.std.proofs.Common.{ℕ, ◌≡◌, ◌-◌, ◌<◌, arith, subst, ap, ◌∙◌}
use Rattle.std.proofs.lemmas.Bool.{eqb-true}
use Rattle.circulation.specs.Contents.{network}
use Rattle.circulation.specs.Residual.{start_of}
use Rattle.residual_tree.specs.Tree.{label_of}
use Rattle.residual_tree.specs.Adopting.{IsClear}
use Rattle.circulation.proofs.Overs.{start_within}
use Rattle.residual_tree.proofs.Adopts.{clear_arrived, clear_step}
use Rattle.residual_tree.proofs.adopting.is_near.Goals as goal

pub returns-then-at-outside : goal.returns-then-at-outside
returns-then-at-outside c = λ e. c.loop-steps.invariant.clear
    (clear_arrived c.args.circ.now c.args.labels.now c.args.other c.requires.other
    (c.if-at-outside.true ∙ c.nodes-outside.ensures.number))

pub loop-steps-preserved : goal.loop-steps-preserved
loop-steps-preserved c =
    let b = c.args.circ.now in
    let labels = c.args.labels.now in
    let word : c.get-word.result - 1 ≡ label_of labels c.loop-steps.at - 1 = ap (λ (n : ℕ). n - 1) c.get-word.ensures in
    let starts = c.predecessor-at.ensures ∙ ap (start_of (network b)) word in
    let inner : c.loop-steps.at < b.nodes =
    omega (arith, c.loop-steps.invariant.within, c.if-at-outside.false, c.nodes-outside.ensures.number) in
    let arc = c.requires.steps c.loop-steps.at inner (omega (arith, c.get-word.ensures, c.if-word-eq0.false))
    in
    record {
      within = omega
          (arith, starts, start_within (network b) (label_of labels c.loop-steps.at - 1) c.requires.kept.ends arc.0);
      clear = λ h. c.loop-steps.invariant.clear (clear_step c.loop-steps.at c.if-at-other.false
          (subst (λ (u : ℕ). IsClear b labels c.args.other u) starts h));
    }

pub returns : goal.returns
returns c = λ e. c.loop-steps.invariant.clear
    (clear_arrived c.args.circ.now c.args.labels.now c.args.other c.requires.other
    (eqb-true c.loop-steps.at c.nodes-outside.result e ∙ c.nodes-outside.ensures.number))
