use Rattle.std.proofs.Common.{List, ℕ, length, ◌≡◌, ◌-◌, ◌*◌, ◌<◌, slice_index, arith, ap, subst, sym, ◌∙◌}
use Rattle.circulation.specs.Contents.{Contents, network, flow_of}
use Rattle.residual_tree.specs.Tree.{predecessor_of}
use Rattle.residual_tree.proofs.Traces.{tracing_start, tracing_space, tracing_back, tracing_next, tracing_head}
use Rattle.residual_tree.proofs.Traces.{tracing_inside, tracing_word, tracing_exit, taken_space, room_same, rest_more}
use Rattle.circulation.proofs.Overs.{over_forward}
use Rattle.residual_tree.proofs.tracing.trace.Goals as goal

pub loop-node-init : goal.loop-node-init
loop-node-init c =
    let start = tracing_start c.args.tree.now c.args.arc c.args.most c.requires.kept c.requires.arc c.requires.positive
    c.requires.labeled in
    record { tracing = rw (c.nodes-nodes.ensures.number, c.ends-ends.ensures.from) start; space = omega arith }

pub loop-node-preserved : goal.loop-node-preserved
loop-node-preserved c =
    let ne = λ (e : c.loop-node.node ≡ slice_index c.args.circ.now.to c.args.arc). c.loop-node-test.true
    (e ∙ sym c.ends-ends.ensures.to) in
    let basin = λ (e : c.loop-node.node ≡ c.args.circ.now.nodes).
    c.if-node-nodes.false (e ∙ sym c.nodes-nodes.ensures.number) in
    let step = ap (λ (n : ℕ). n - 1) c.word-step.ensures in
    let w = c.take_step-walk.ensures in
    let next = tracing_next c.requires.kept c.loop-node.invariant.tracing c.requires.tree c.requires.held ne
    basin step c.predecessor-node.ensures w.amount w.taken w.kept w.gathered in
    record { tracing = next; space = tracing_space next c.requires.tree }

pub returns-then-node-nodes-clause-traced : goal.returns-then-node-nodes-clause-traced
returns-then-node-nodes-clause-traced c =
    let ne = λ (e : c.loop-node.node ≡ slice_index c.args.circ.now.to c.args.arc). c.loop-node-test.true
    (e ∙ sym c.ends-ends.ensures.to) in
    let x = c.take_step-out.ensures in
    let w = c.take_step.ensures in
    tracing_exit c.args.exit c.requires.kept c.requires.arc c.requires.positive
    c.loop-node.invariant.tracing c.requires.tree c.requires.most
    c.requires.labeled c.requires.exit ne (c.if-node-nodes.true ∙ c.nodes-nodes.ensures.number)
    (ap (λ (a : ℕ). 2 * a) c.from.ensures) (ap (λ (a : ℕ). 2 * a) c.from-then-node-nodes.ensures) x.amount
    x.taken w.amount w.taken w.gathered

pub returns-clause-traced : goal.returns-clause-traced
returns-clause-traced c =
    let w = c.take_step-2.ensures in
    tracing_head c.requires.kept c.requires.arc c.loop-node.invariant.tracing c.requires.tree
    c.requires.most (c.loop-node-test.false ∙ c.ends-ends.ensures.to) (ap (λ (a : ℕ). 2 * a) c.from-2.ensures)
    w.amount w.taken w.gathered

pub take_step-requires-clause-apart : goal.take_step-requires-clause-apart
take_step-requires-clause-apart c =
    let x = c.take_step-out.ensures in
    taken_space c.loop-node.invariant.tracing c.requires.tree x.taken x.gathered

pub take_step-walk-requires-clause-arc : goal.take_step-walk-requires-clause-arc
take_step-walk-requires-clause-arc c =
    let ne = λ (e : c.loop-node.node ≡ slice_index c.args.circ.now.to c.args.arc). c.loop-node-test.true
    (e ∙ sym c.ends-ends.ensures.to) in
    let basin = λ (e : c.loop-node.node ≡ c.args.circ.now.nodes).
    c.if-node-nodes.false (e ∙ sym c.nodes-nodes.ensures.number) in
    let back = tracing_back c.requires.kept c.loop-node.invariant.tracing c.requires.tree
    c.requires.held ne basin (ap (λ (n : ℕ). n - 1) c.word-step.ensures) in
    omega (arith, back.arc, ap (λ (x : Contents). length x.from) c.loop-node.invariant.tracing.rest)

pub returns-then-node-nodes-clause-blocked : goal.returns-then-node-nodes-clause-blocked
returns-then-node-nodes-clause-blocked c = λ empty.
    let tracing = c.loop-node.invariant.tracing in
    let trail = tracing.trail c.requires.tree in
    let x = c.take_step-out.ensures in
    let out = room_same c.args.circ.now c.args.exit tracing.rest (ap (λ (a : ℕ). 2 * a) c.from.ensures) in
    let own = room_same c.args.circ.now c.args.arc
    (rest_more c.args.circ.now c.loop-node.circ c.take_step-out.new.circ.scratch tracing.rest x.taken.rest)
    (ap (λ (a : ℕ). 2 * a) c.from-then-node-nodes.ensures) in
    let full = (over_forward (network c.args.circ.now) (flow_of c.args.circ.now) c.args.exit).room in (
      λ e. c.loop-node-test.true
          (c.if-node-nodes.true ∙ c.nodes-nodes.ensures.number ∙ sym e ∙ sym c.ends-ends.ensures.to),
      omega (
        arith,
        full,
        out,
        own,
        trail.way.positive,
        trail.way.limit,
        x.amount,
        c.take_step.ensures.amount,
        c.requires.most,
        empty,
      ),
    )

pub returns-clause-blocked : goal.returns-clause-blocked
returns-clause-blocked c = λ empty.
    let tracing = c.loop-node.invariant.tracing in
    let trail = tracing.trail c.requires.tree in
    let own = room_same c.args.circ.now c.args.arc tracing.rest (ap (λ (a : ℕ). 2 * a) c.from-2.ensures) in
    absurd (omega (
      arith,
      own,
      trail.way.positive,
      trail.way.limit,
      c.take_step-2.ensures.amount,
      c.requires.most,
      empty,
    ))

pub word-step-requires : goal.word-step-requires
word-step-requires c = tracing_inside c.loop-node.invariant.tracing c.requires.tree
    (λ e. c.if-node-nodes.false (e ∙ sym c.nodes-nodes.ensures.number))

pub predecessor-node-requires-clause-node : goal.predecessor-node-requires-clause-node
predecessor-node-requires-clause-node c =
    subst (λ (xs : List ℕ). c.loop-node.node < length xs) (sym c.tree.view_is)
    (tracing_inside c.loop-node.invariant.tracing c.requires.tree
    (λ e. c.if-node-nodes.false (e ∙ sym c.nodes-nodes.ensures.number)))

pub predecessor-node-requires-clause-arc : goal.predecessor-node-requires-clause-arc
predecessor-node-requires-clause-arc c =
    (tracing_word c.loop-node.invariant.tracing c.requires.tree
    (λ e. c.if-node-nodes.false (e ∙ sym c.nodes-nodes.ensures.number)) (ap (λ (n : ℕ). n - 1) c.word-step.ensures)
    c.take_step-walk.ensures.taken).0

pub predecessor-node-requires-clause-kept_start : goal.predecessor-node-requires-clause-kept_start
predecessor-node-requires-clause-kept_start c =
    let word = tracing_word c.loop-node.invariant.tracing c.requires.tree
    (λ e. c.if-node-nodes.false (e ∙ sym c.nodes-nodes.ensures.number)) (ap (λ (n : ℕ). n - 1) c.word-step.ensures)
    c.take_step-walk.ensures.taken in
    ap (λ (xs : List ℕ). predecessor_of xs c.loop-node.node) c.tree.view_is ∙ word.1

pub ends-ends-requires : goal.ends-ends-requires
ends-ends-requires c = c.requires.arc

pub take_step-out-requires-clause-apart : goal.take_step-out-requires-clause-apart
take_step-out-requires-clause-apart c = c.loop-node.invariant.space

pub take_step-out-requires-clause-gathered : goal.take_step-out-requires-clause-gathered
take_step-out-requires-clause-gathered c = c.loop-node.invariant.tracing.gathered

pub take_step-out-requires-clause-kept : goal.take_step-out-requires-clause-kept
take_step-out-requires-clause-kept c = c.loop-node.invariant.tracing.kept

pub take_step-requires-clause-gathered : goal.take_step-requires-clause-gathered
take_step-requires-clause-gathered c = c.take_step-out.ensures.gathered

pub take_step-requires-clause-kept : goal.take_step-requires-clause-kept
take_step-requires-clause-kept c = c.take_step-out.ensures.kept

pub returns-then-node-nodes-clause-kept : goal.returns-then-node-nodes-clause-kept
returns-then-node-nodes-clause-kept c = c.take_step.ensures.kept

pub take_step-walk-requires-clause-apart : goal.take_step-walk-requires-clause-apart
take_step-walk-requires-clause-apart c = c.loop-node.invariant.space

pub take_step-walk-requires-clause-gathered : goal.take_step-walk-requires-clause-gathered
take_step-walk-requires-clause-gathered c = c.loop-node.invariant.tracing.gathered

pub take_step-walk-requires-clause-kept : goal.take_step-walk-requires-clause-kept
take_step-walk-requires-clause-kept c = c.loop-node.invariant.tracing.kept

pub predecessor-node-requires-clause-kept : goal.predecessor-node-requires-clause-kept
predecessor-node-requires-clause-kept c = c.take_step-walk.ensures.kept

pub take_step-requires-2-clause-apart : goal.take_step-requires-2-clause-apart
take_step-requires-2-clause-apart c = c.loop-node.invariant.space

pub take_step-requires-2-clause-gathered : goal.take_step-requires-2-clause-gathered
take_step-requires-2-clause-gathered c = c.loop-node.invariant.tracing.gathered

pub take_step-requires-2-clause-kept : goal.take_step-requires-2-clause-kept
take_step-requires-2-clause-kept c = c.loop-node.invariant.tracing.kept

pub returns-clause-kept : goal.returns-clause-kept
returns-clause-kept c = c.take_step-2.ensures.kept
