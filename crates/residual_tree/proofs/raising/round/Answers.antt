use Rattle.std.proofs.Common.{ℕ, ◌≡◌, ◌+◌, ◌-◌, ◌*◌, true, false, arith, ap, sym, subst, refl, slice_index}
use Rattle.circulation.specs.Contents.{Contents, network, flow_of, step_of}
use Rattle.circulation.specs.Residual.{IsClosedWalk}
use Rattle.residual_tree.specs.Raised.{IsRaisedOver, IsFull}
use Rattle.residual_tree.proofs.Rounds.{round_saturated, round_is, round_written}
use Rattle.residual_tree.proofs.raising.round.Goals as goal

apart : true ≡ false → ⊥
apart h = cc (h)

pub trace-walk-requires-clause-tree : goal.trace-walk-requires-clause-tree
trace-walk-requires-clause-tree g c =
    record { step = c.args.artificial; enters = c.requires.artificial_end; tree = c.requires.tree }

pub push-requires-clause-walk : goal.push-requires-clause-walk
push-requires-clause-walk g c =
    let t = c.trace-walk.ensures.traced in
    let nodes = ap (λ (x : Contents). x.nodes) t.rest in
    let last : 4 * c.args.circ.now.nodes + 8 ≡ c.trace-walk.result.first +
    (4 * c.nodes.result + 8 - c.trace-walk.result.first) = omega (arith, nodes, c.nodes.ensures.number, t.some) in
    let own = subst (λ (x : Contents). IsClosedWalk (network x) (flow_of x) (step_of c.trace-walk.new.circ)
    c.trace-walk.result.first (4 * c.args.circ.now.nodes + 8) c.trace-walk.result.amount) (sym t.rest)
    (t.walk (omega (arith, c.if-walk-eq0.false))) in
    subst (λ (n : ℕ). IsClosedWalk (network c.trace-walk.new.circ) (flow_of c.trace-walk.new.circ)
    (step_of c.trace-walk.new.circ) c.trace-walk.result.first n c.trace-walk.result.amount) last own

pub repair-requires : goal.repair-requires
repair-requires g c =
    let t = c.trace-walk.ensures.traced in
    let nodes = ap (λ (x : Contents). x.nodes) t.rest in
    let r = round_saturated (0 + (c.trace-walk.result.full + 1)) c.flow-flow.result c.trace-walk.ensures.kept
    record { step = c.args.artificial; enters = c.requires.artificial_end; tree = c.requires.tree }
    c.requires.artificial_arc c.requires.held t (omega (arith, c.if-walk-eq0.false)) c.push.ensures.rest
    (omega (arith, nodes, c.nodes.ensures.number, t.some)) c.push.ensures.pushed c.hold.ensures.held
    c.scratch_set.ensures.written (omega arith) in
    record { fits = r.fits; arcs = r.arcs; saturated = r.saturated }

pub returns-clause-pushed : goal.returns-clause-pushed
returns-clause-pushed g c = λ _.
    let t = c.trace-walk.ensures.traced in
    let nodes = ap (λ (x : Contents). x.nodes) t.rest in
    let round = round_is c.trace-walk.ensures.kept
    c.requires.arc c.requires.held t (omega (arith, c.if-walk-eq0.false)) c.push.ensures.rest
    (omega (arith, nodes, c.nodes.ensures.number, t.some)) c.push.ensures.pushed c.flow-flow.ensures.amount
    c.hold.ensures.held in
    let done = round_written _ round c.scratch_set.ensures.written in
    let limit = t.limit in (
      omega (arith, done.raised, c.if-walk-eq0.false),
      omega (arith, done.raised, limit),
      c.push.ensures.ticked,
    )

pub trace-walk-requires-clause-arc : goal.trace-walk-requires-clause-arc
trace-walk-requires-clause-arc g c = c.requires.arc

pub trace-walk-requires-clause-positive : goal.trace-walk-requires-clause-positive
trace-walk-requires-clause-positive g c = c.requires.positive

pub trace-walk-requires-clause-most : goal.trace-walk-requires-clause-most
trace-walk-requires-clause-most g c = c.requires.most

pub trace-walk-requires-clause-held : goal.trace-walk-requires-clause-held
trace-walk-requires-clause-held g c = c.requires.held

pub trace-walk-requires-clause-exit : goal.trace-walk-requires-clause-exit
trace-walk-requires-clause-exit g c = c.requires.exit

pub trace-walk-requires-clause-labeled : goal.trace-walk-requires-clause-labeled
trace-walk-requires-clause-labeled g c = c.requires.labeled

pub trace-walk-requires-clause-kept : goal.trace-walk-requires-clause-kept
trace-walk-requires-clause-kept g c = c.requires.kept

pub returns-then-walk-eq0-clause-kept : goal.returns-then-walk-eq0-clause-kept
returns-then-walk-eq0-clause-kept g c = c.trace-walk.ensures.kept

pub returns-then-walk-eq0-clause-rest : goal.returns-then-walk-eq0-clause-rest
returns-then-walk-eq0-clause-rest g c =
    subst (λ (x : Contents). IsRaisedOver c.args.circ.now x c.args.arc) (sym c.trace-walk.ensures.traced.rest)
    (record { rest = refl; lowers = λ a ne. refl })

pub returns-then-walk-eq0-clause-held : goal.returns-then-walk-eq0-clause-held
returns-then-walk-eq0-clause-held g c = subst (λ (x : Contents). flow_of x c.args.arc ≡ slice_index x.lower c.args.arc)
    (sym c.trace-walk.ensures.traced.rest) c.requires.held

pub returns-then-walk-eq0-clause-tree : goal.returns-then-walk-eq0-clause-tree
returns-then-walk-eq0-clause-tree g c = λ h. absurd (apart (sym h))

pub returns-then-walk-eq0-clause-pushed : goal.returns-then-walk-eq0-clause-pushed
returns-then-walk-eq0-clause-pushed g c = λ h. absurd (apart (sym h))

pub returns-then-walk-eq0-clause-stopped : goal.returns-then-walk-eq0-clause-stopped
returns-then-walk-eq0-clause-stopped g c = λ _. (c.trace-walk.ensures.traced.rest, refl, refl)

pub returns-then-walk-eq0-clause-full : goal.returns-then-walk-eq0-clause-full
returns-then-walk-eq0-clause-full g c = λ _.
    let blocked = c.trace-walk.ensures.blocked c.if-walk-eq0.true in
    (blocked.0, subst (λ (x : Contents). IsFull x c.args.exit) (sym c.trace-walk.ensures.traced.rest) blocked.1)

pub hold-requires-clause-kept : goal.hold-requires-clause-kept
hold-requires-clause-kept g c = omega (arith, c.flow-flow.ensures.amount)

pub returns-clause-kept : goal.returns-clause-kept
returns-clause-kept g c = c.scratch_set.ensures.kept

pub returns-clause-tree : goal.returns-clause-tree
returns-clause-tree g c = λ _. c.repair.ensures

pub returns-clause-stopped : goal.returns-clause-stopped
returns-clause-stopped g c = λ h. absurd (apart h)

pub returns-clause-full : goal.returns-clause-full
returns-clause-full g c = λ h. absurd (apart h)

pub overflow_sub-count : goal.overflow_sub-count
overflow_sub-count g c =
    let t = c.trace-walk.ensures.traced in
    omega (arith, ap (λ (x : Contents). x.nodes) t.rest, c.nodes.ensures.number, t.some)

pub push-requires-clause-fits : goal.push-requires-clause-fits
push-requires-clause-fits g c =
    let t = c.trace-walk.ensures.traced in
    omega (arith, ap (λ (x : Contents). x.nodes) t.rest, c.nodes.ensures.number, t.some)

pub flow-flow-requires : goal.flow-flow-requires
flow-flow-requires g c = rw c.push.ensures.rest (rw c.trace-walk.ensures.traced.rest c.requires.arc)

pub hold-requires-clause-arc : goal.hold-requires-clause-arc
hold-requires-clause-arc g c = rw c.push.ensures.rest (rw c.trace-walk.ensures.traced.rest c.requires.arc)

pub returns-clause-rest : goal.returns-clause-rest
returns-clause-rest g c =
    let t = c.trace-walk.ensures.traced in
    let nodes = ap (λ (x : Contents). x.nodes) t.rest in
    let round = round_is c.trace-walk.ensures.kept
    c.requires.arc c.requires.held t (omega (arith, c.if-walk-eq0.false)) c.push.ensures.rest
    (omega (arith, nodes, c.nodes.ensures.number, t.some)) c.push.ensures.pushed c.flow-flow.ensures.amount
    c.hold.ensures.held in
    (round_written _ round c.scratch_set.ensures.written).rest

pub returns-clause-held : goal.returns-clause-held
returns-clause-held g c =
    let t = c.trace-walk.ensures.traced in
    let nodes = ap (λ (x : Contents). x.nodes) t.rest in
    let round = round_is c.trace-walk.ensures.kept
    c.requires.arc c.requires.held t (omega (arith, c.if-walk-eq0.false)) c.push.ensures.rest
    (omega (arith, nodes, c.nodes.ensures.number, t.some)) c.push.ensures.pushed c.flow-flow.ensures.amount
    c.hold.ensures.held in
    (round_written _ round c.scratch_set.ensures.written).held
