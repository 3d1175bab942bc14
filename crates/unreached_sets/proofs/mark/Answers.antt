use Rattle.std.proofs.Common.{◌≡◌, ◌∙◌, ◌<◌, ℕ, List, Bool, true, false, arith, ap, sym, subst, replicate}
use Rattle.std.specs.Prelude.{Some, IfSome, slice_set}
use Rattle.water_model.specs.CutSets.{CutSets, set_of, with_set}
use Rattle.unreached_sets.proofs.Marks.{marked, marked_none, marked_all, marked_skip, mark_more, with_same, is_some_set}
use Rattle.unreached_sets.proofs.Marks.{is_unreached, is_reached}
use Rattle.unreached_sets.proofs.mark.Goals as goal
use Rattle.unreached_sets.proofs.mark.Goals.{then-not-reached, else-not-reached}
use Rattle.augment.specs.Raised.{not_reached, position_of}

pub loop-node-init : goal.loop-node-init
loop-node-init c =
    let none = marked_none c.args.circ.now.nodes (not_reached c.args.circ.now) in
    sym (with_same c.args.sets.now c.args.index _ c.requires.index (c.requires.empty
    ∙ ap (λ (n : ℕ). Some (replicate n false)) c.requires.nodes ∙ ap (λ (xs : List Bool). Some xs) none))

pub add-requires-clause-held : goal.add-requires-clause-held
add-requires-clause-held c =
    is_some_set c.args.sets.now c.loop-node.sets c.args.index _ c.requires.index c.loop-node.invariant

pub loop-node-preserved : goal.loop-node-preserved
loop-node-preserved c =
    let y = not_reached c.args.circ.now in
    let below : c.loop-node.node < c.args.circ.now.nodes =
    omega (arith, c.loop-node-test.true, c.nodes-node-end.ensures.number) in
    elim c.if-not-reached.branch [
      | then-not-reached w ↦ w.sets-is
          ∙ mark_more c.args.sets.now _ c.args.index c.args.circ.now.nodes y c.loop-node.node c.requires.index below
          (is_unreached c.loop-node.node c.args.circ.now.nodes (position_of c.args.circ.now c.loop-node.node)
          c.reached.result below c.reached.ensures w.if-not-reached.true)
          (subst (λ (d : CutSets).
          IfSome (set_of d c.args.index) (λ set. w.add.new.self
          ≡ with_set d c.args.index (Some (slice_set set c.loop-node.node true)))) c.loop-node.invariant
          w.add.ensures)
      | else-not-reached w ↦ w.sets-is ∙ c.loop-node.invariant
          ∙ ap (λ (xs : List Bool). with_set c.args.sets.now c.args.index (Some xs))
          (marked_skip c.args.circ.now.nodes y c.loop-node.node
          (is_reached c.loop-node.node c.args.circ.now.nodes (position_of c.args.circ.now c.loop-node.node)
          c.reached.result c.reached.ensures w.if-not-reached.false))
    ]

pub returns : goal.returns
returns c =
    let all : c.loop-node.node ≡ c.args.circ.now.nodes =
    omega (arith, c.loop-node-test.false, c.loop-node.auto.node-end, c.nodes-node-end.ensures.number) in
    c.loop-node.invariant ∙ ap (λ (xs : List Bool). with_set c.args.sets.now c.args.index (Some xs))
    (ap (marked c.args.circ.now.nodes (not_reached c.args.circ.now)) all
    ∙ marked_all c.args.circ.now.nodes (not_reached c.args.circ.now))
