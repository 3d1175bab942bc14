use Rattle.std.proofs.Common.{◌≡◌, ◌+◌, ◌-◌, ◌*◌, arith, ap}
use Rattle.circulation.specs.Contents.{Contents, flow_of}
use Rattle.circulation.proofs.Pushing.{pushed_first}
use Rattle.augment.proofs.Traces.{tree_weak}
use Rattle.augment.proofs.Raises.{missed, stopped_cut, stopped_rise}
use Rattle.augment.proofs.raising.round.Goals as goal

pub trace-walk-requires-clause-tree : goal.trace-walk-requires-clause-tree
trace-walk-requires-clause-tree g c = (c.search.result, tree_weak c.requires.least c.search.ensures.tree)

pub returns-then-not-reached-clause-rise : goal.returns-then-not-reached-clause-rise
returns-then-not-reached-clause-rise g c = λ _.
    let none = missed c.args.circ.now c.args.arc c.search.ensures.rest c.ends-ends.ensures.from c.reached.ensures
    c.if-not-reached.true in
    stopped_rise c.args.circ.now c.requires.arc c.search.ensures.rest c.ends-ends.ensures.kept
    c.search.ensures.tree none (c.search.ensures.closed none)

pub returns-then-not-reached-clause-cut : goal.returns-then-not-reached-clause-cut
returns-then-not-reached-clause-cut g c = λ _ one.
    let none = missed c.args.circ.now c.args.arc c.search.ensures.rest c.ends-ends.ensures.from c.reached.ensures
    c.if-not-reached.true in
    stopped_cut c.args.circ.now c.requires.arc c.search.ensures.rest c.requires.path_out
    c.ends-ends.ensures.kept (rw one at c.search.ensures.tree) none (rw one at (c.search.ensures.closed none))

pub push-requires-clause-walk : goal.push-requires-clause-walk
push-requires-clause-walk g c =
    let t = c.trace-walk.ensures in
    let nodes = ap (λ (x : Contents). x.nodes) t.rest in
    let last : c.trace-walk.result.first + (4 * c.nodes.result + 8 - c.trace-walk.result.first)
    ≡ 4 * c.search.new.circ.nodes + 8 = omega (arith, nodes, c.nodes.ensures.number, t.walk.some) in
    rw (last, t.rest) t.walk

pub returns-clause-pushed : goal.returns-clause-pushed
returns-clause-pushed g c = λ _.
    let t = c.trace-walk.ensures in
    let nodes = ap (λ (x : Contents). x.nodes) t.rest in
    let some = t.walk.some in
    let positive = t.walk.positive in
    let limit = t.limit in
    let first = pushed_first c.args.arc c.push.ensures.pushed
    (omega (arith, nodes, c.nodes.ensures.number, some)) t.forward in
    let before = ap (λ (x : Contents). flow_of x c.args.arc) t.rest in
    let start = ap (λ (x : Contents). flow_of x c.args.arc) c.search.ensures.rest in
    let seen = c.flow.ensures.amount in
    let less = c.requires.less in (
      omega (arith, first, before, start, positive),
      omega (arith, first, before, start, seen, limit, less),
      c.push.ensures.ticked,
    )

pub returns-clause-wide : goal.returns-clause-wide
returns-clause-wide g c = λ _.
    let t = c.trace-walk.ensures in
    let nodes = ap (λ (x : Contents). x.nodes) t.rest in
    let first = pushed_first c.args.arc c.push.ensures.pushed
    (omega (arith, nodes, c.nodes.ensures.number, t.walk.some)) t.forward in
    let before = ap (λ (x : Contents). flow_of x c.args.arc) t.rest in
    let start = ap (λ (x : Contents). flow_of x c.args.arc) c.search.ensures.rest in
    let wide = t.wide c.args.least c.search.result c.search.ensures.tree in
    omega (arith, first, before, start, wide, c.flow.ensures.amount)
