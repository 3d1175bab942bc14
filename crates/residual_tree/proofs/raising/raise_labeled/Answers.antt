use Rattle.std.proofs.Common.{◌≢◌, ◌<◌, slice_index, arith, ap, refl, subst, sym, ◌∙◌, inl, inr}
use Rattle.circulation.specs.Contents.{Contents, arcs, flow_of}
use Rattle.residual_tree.specs.Raised.{IsExit, IsFull}
use Rattle.residual_tree.specs.Tree.{label_of}
use Rattle.residual_tree.proofs.Grows.{artificial_some}
use Rattle.residual_tree.proofs.Pushes.{stopped_tree}
use Rattle.residual_tree.proofs.Rounds.{raised_more}
use Rattle.residual_tree.proofs.Traces.{rest_more}
use Rattle.residual_tree.proofs.raising.raise_labeled.Goals as goal

pub loop-pushes-init : goal.loop-pushes-init
loop-pushes-init g c = record {
  kept = c.requires.kept;
  rest = record { rest = refl; lowers = λ a ne. refl };
  held = c.requires.held;
  tree = c.requires.tree;
  rises = omega arith;
  limit = c.requires.less;
  count = omega arith;
  each = omega arith;
  still = λ none. refl;
}

pub round-requires-clause-tree : goal.round-requires-clause-tree
round-requires-clause-tree g c = artificial_some c.loop-pushes.circ c.loop-pushes.tree _ c.loop-pushes.invariant.tree

pub round-requires-clause-exit : goal.round-requires-clause-exit
round-requires-clause-exit g c =
    subst (λ (x : Contents). IsExit x c.args.arc c.args.exit) (sym c.loop-pushes.invariant.rest.rest) c.requires.exit

pub loop-pushes-preserved : goal.loop-pushes-preserved
loop-pushes-preserved g c =
    let inv = c.loop-pushes.invariant in
    let done = c.round.ensures in
    let pushed = done.pushed c.if-not-round.false in
    record {
      kept = done.kept;
      rest = raised_more c.args.circ.now c.loop-pushes.circ c.round.new.circ c.args.arc inv.rest done.rest;
      held = done.held;
      tree = done.tree c.if-not-round.false;
      rises = omega (arith, inv.rises, pushed.0);
      limit = omega (arith, inv.limit, pushed.1, c.flow-flow.ensures.amount);
      count = omega (arith, inv.count, pushed.2);
      each = omega (arith, inv.each, pushed.0);
      still = λ none. absurd (omega (arith, none));
    }

pub returns-then-flow-want : goal.returns-then-flow-want
returns-then-flow-want g c =
    let inv = c.loop-pushes.invariant in
    record {
      kept = inv.kept;
      rest = inv.rest;
      held = inv.held;
      tree = inv.tree;
      rises = inv.rises;
      limit = inv.limit;
      cost = omega (arith, inv.count, c.loop-pushes.auto._pushes-end);
      each = omega (arith, inv.count, inv.each);
      why = λ short labeled. absurd (omega (arith, short, c.flow-flow.ensures.amount, c.if-flow-want.true));
      count = omega (arith, inv.count);
      still = λ none. inv.still (omega (arith, none, inv.count));
    }

pub returns-then-word-eq0 : goal.returns-then-word-eq0
returns-then-word-eq0 g c =
    let inv = c.loop-pushes.invariant in
    let none = ap (label_of c.loop-pushes.tree) (sym c.ends-tail.ensures.from) ∙ sym c.word.ensures
    ∙ c.if-word-eq0.true in
    record {
      kept = inv.kept;
      rest = inv.rest;
      held = inv.held;
      tree = inv.tree;
      rises = inv.rises;
      limit = inv.limit;
      cost = omega (arith, inv.count, c.loop-pushes.auto._pushes-end);
      each = omega (arith, inv.count, inv.each);
      why = λ short labeled. absurd (omega (arith, labeled, none));
      count = omega (arith, inv.count);
      still = λ same. inv.still (omega (arith, same, inv.count));
    }

pub returns-then-not-round : goal.returns-then-not-round
returns-then-not-round g c =
    let inv = c.loop-pushes.invariant in
    let done = c.round.ensures in
    let stopped = done.stopped c.if-not-round.true in
    let flow = ap (λ (x : Contents). flow_of x c.args.arc) stopped.0 in
    record {
      kept = done.kept;
      rest = raised_more c.args.circ.now c.loop-pushes.circ c.round.new.circ c.args.arc inv.rest done.rest;
      held = done.held;
      tree = stopped_tree c.round.new.circ inv.tree stopped.0 stopped.1;
      rises = omega (arith, inv.rises, flow);
      limit = omega (arith, inv.limit, flow);
      cost = omega (arith, inv.count, stopped.2, c.loop-pushes.auto._pushes-end);
      each = omega (arith, inv.count, stopped.2, inv.each, flow);
      why = λ short labeled. inr (subst (λ (x : Contents).
          (slice_index x.to c.args.arc ≢ x.nodes) × IsFull c.round.new.circ c.args.exit) inv.rest.rest
          (done.full c.if-not-round.true));
      count = omega (arith, inv.count, stopped.2);
      still = λ none. rest_more c.args.circ.now c.loop-pushes.circ c.round.new.circ.scratch
          (inv.still (omega (arith, none, inv.count, stopped.2))) stopped.0;
    }

pub returns : goal.returns
returns g c =
    let inv = c.loop-pushes.invariant in
    record {
      kept = inv.kept;
      rest = inv.rest;
      held = inv.held;
      tree = inv.tree;
      rises = inv.rises;
      limit = inv.limit;
      cost = omega (arith, inv.count, c.loop-pushes.auto._pushes-end);
      each = omega (arith, inv.count, inv.each);
      why = λ short labeled. inl (omega (arith, inv.count, c.loop-pushes-test.false, c.loop-pushes.auto._pushes-end));
      count = omega (arith, inv.count);
      still = λ none. inv.still (omega (arith, none, inv.count));
    }

pub ends-tail-requires : goal.ends-tail-requires
ends-tail-requires g c = c.requires.arc

pub flow-flow-requires : goal.flow-flow-requires
flow-flow-requires g c = rw c.loop-pushes.invariant.rest.rest c.requires.arc

pub round-requires-clause-arc : goal.round-requires-clause-arc
round-requires-clause-arc g c = rw c.loop-pushes.invariant.rest.rest c.requires.arc

pub round-requires-clause-held : goal.round-requires-clause-held
round-requires-clause-held g c = c.loop-pushes.invariant.held

pub round-requires-clause-kept : goal.round-requires-clause-kept
round-requires-clause-kept g c = c.loop-pushes.invariant.kept

pub round-requires-clause-positive : goal.round-requires-clause-positive
round-requires-clause-positive g c =
    omega (arith, c.if-flow-want.false, c.flow-flow.ensures.amount, c.loop-pushes.invariant.limit)

pub round-requires-clause-most : goal.round-requires-clause-most
round-requires-clause-most g c =
    let upper = ap (λ (x : Contents). slice_index x.upper c.args.arc) c.loop-pushes.invariant.rest.rest in
    omega (arith, upper, c.requires.want, c.flow-flow.ensures.amount, c.loop-pushes.invariant.limit)

pub round-requires-clause-artificial_arc : goal.round-requires-clause-artificial_arc
round-requires-clause-artificial_arc g c =
    let inside : c.args.arc < arcs c.loop-pushes.circ = rw c.loop-pushes.invariant.rest.rest c.requires.arc in
    omega (arith, c.from-artificial.ensures, inside)
