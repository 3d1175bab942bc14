use Rattle.std.proofs.Common.{ℕ, ◌≡◌, ◌<◌, List, length, slice_index, ◌+◌, ◌*◌, arith, ap, refl, subst, sym, ◌∙◌}
use Rattle.std.proofs.Common.{inl, inr}
use Rattle.circulation.specs.Contents.{Contents, arcs, network, flow_of}
use Rattle.residual_tree.specs.Raised.{IsFull}
use Rattle.residual_tree.specs.Tree.{label_of, IsLabeled}
use Rattle.residual_tree.proofs.UnlabeledCut.{unlabeled_cut}
use Rattle.circulation.proofs.Overs.{over_backward}
use Rattle.residual_tree.proofs.Pushes.{stopped_artificial}
use Rattle.residual_tree.proofs.Rounds.{raised_more, raised_scratch}
use Rattle.residual_tree.specs.declared.raising.TreeRaised.{TreeRaised}
use Rattle.residual_tree.proofs.raising.raise_within_unlabeled.Goals as goal

met_stopped : TreeRaised.Met ≡ TreeRaised.Stopped → ⊥
met_stopped h = cc (h)

met_unfinished : TreeRaised.Met ≡ TreeRaised.Unfinished → ⊥
met_unfinished h = cc (h)

stopped_unfinished : TreeRaised.Stopped ≡ TreeRaised.Unfinished → ⊥
stopped_unfinished h = cc (h)

pub loop-pushes-init : goal.loop-pushes-init
loop-pushes-init g c = record {
  kept = c.ends-ends.ensures.kept;
  rest = record { rest = refl; lowers = λ a ne. refl };
  held = c.requires.held;
  tree = c.requires.tree;
  rises = omega arith;
  limit = c.requires.less;
  count = omega arith;
  each = omega arith;
  first = λ none. refl;
}

pub returns-then-flow-want : goal.returns-then-flow-want
returns-then-flow-want g c =
    let inv = c.loop-pushes.invariant in
    record {
      kept = inv.kept;
      rest = inv.rest;
      held = inv.held;
      rises = inv.rises;
      limit = inv.limit;
      count = omega (arith, inv.count);
      cost = omega (arith, inv.count, c.loop-pushes.auto._pushes-end);
      each = omega (arith, inv.count, inv.each);
      met = (λ _. sym c.flow-flow.ensures.amount ∙ c.if-flow-want.true, λ _. refl);
      tree = λ _. inv.tree;
      artificial = λ is. absurd (met_stopped is);
      cut = λ is. absurd (met_stopped is);
      unfinished = λ is. absurd (met_unfinished is);
      at_first = λ is none some. absurd (met_unfinished is);
    }

pub returns-then-word-ne0 : goal.returns-then-word-ne0
returns-then-word-ne0 g c =
    let inv = c.loop-pushes.invariant in
    let some : 0 < label_of c.loop-pushes.tree c.ends-ends.result.to =
    omega (arith, c.word.ensures, c.if-word-ne0.true) in
    let labeled = subst (λ (v : ℕ). IsLabeled c.loop-pushes.tree v) c.ends-ends.ensures.to some in
    record {
      kept = inv.kept;
      rest = inv.rest;
      held = inv.held;
      rises = inv.rises;
      limit = inv.limit;
      count = omega (arith, inv.count);
      cost = omega (arith, inv.count, c.loop-pushes.auto._pushes-end);
      each = omega (arith, inv.count, inv.each);
      met = (
        λ is. absurd (met_unfinished (sym is)),
        λ same. absurd (omega (arith, same, c.flow-flow.ensures.amount, c.if-flow-want.false)),
      );
      tree = λ _. inv.tree;
      artificial = λ is. absurd (stopped_unfinished (sym is));
      cut = λ is. absurd (stopped_unfinished (sym is));
      unfinished = λ _. inr (inr labeled);
      at_first = λ _ none pushes. inr (subst (λ (labels : List ℕ).
          IsLabeled labels (slice_index c.args.circ.now.to c.args.arc)) (inv.first (omega (arith, none, inv.count)))
          labeled);
    }

pub add_artificial-requires : goal.add_artificial-requires
add_artificial-requires g c =
    let inv = c.loop-pushes.invariant in
    let rest = inv.rest.rest in
    record {
      exit = omega (arith, c.requires.exit, ap (λ (x : Contents). length x.from) rest);
      out = ap (λ (x : Contents). slice_index x.to c.args.exit) rest
          ∙ (c.requires.out ∙ sym (ap (λ (x : Contents). x.nodes) rest));
      unlabeled = ap (label_of c.loop-pushes.tree) (ap (λ (x : Contents). slice_index x.from c.args.exit) rest
          ∙ (c.requires.head ∙ sym c.ends-ends.ensures.to)) ∙ (sym c.word.ensures ∙ c.if-word-ne0.false);
      tree = inv.tree;
    }

pub returns-then-word-eq0 : goal.returns-then-word-eq0
returns-then-word-eq0 g c =
    let inv = c.loop-pushes.invariant in
    let size = ap (λ (x : Contents). length x.from) inv.rest.rest in
    let from = ap (λ (x : Contents). slice_index x.from c.args.arc) inv.rest.rest in
    let head = ap (λ (x : Contents). slice_index x.from c.args.exit) inv.rest.rest ∙ c.requires.head
    ∙ sym (ap (λ (x : Contents). slice_index x.to c.args.arc) inv.rest.rest) in
    record {
      kept = inv.kept;
      rest = inv.rest;
      held = inv.held;
      rises = inv.rises;
      limit = inv.limit;
      count = omega (arith, inv.count);
      cost = omega (arith, inv.count, c.loop-pushes.auto._pushes-end);
      each = omega (arith, inv.count, inv.each);
      met = (
        λ is. absurd (met_stopped (sym is)),
        λ same. absurd (omega (arith, same, c.flow-flow.ensures.amount, c.if-flow-want.false)),
      );
      tree = λ differs. absurd (differs refl);
      artificial = λ _. c.add_artificial.ensures.tree;
      cut = λ _. unlabeled_cut inv.kept
          record {
            step = 2 * c.args.exit + 1;
            enters = (over_backward (network c.loop-pushes.circ) (flow_of c.loop-pushes.circ) c.args.exit).enters
                ∙ head;
            tree = c.add_artificial.ensures.tree;
          } (omega (arith, size, c.requires.arc))
          (ap (label_of c.add_artificial.new.self) (from ∙ sym c.ends-ends.ensures.from)
          ∙ sym c.word-in-loop-pushes.ensures ∙ c.if-word-eq0.true)
          (subst (λ (v : ℕ). IsLabeled c.add_artificial.new.self v) head c.add_artificial.ensures.head);
      unfinished = λ is. absurd (stopped_unfinished is);
      at_first = λ is none some. absurd (stopped_unfinished is);
    }

pub round-requires-clause-exit : goal.round-requires-clause-exit
round-requires-clause-exit g c = λ inner.
    subst (λ (x : Contents). (c.args.exit < arcs x) × (slice_index x.from c.args.exit ≡ slice_index x.to c.args.arc)
    × (slice_index x.to c.args.exit ≡ x.nodes)) (sym c.loop-pushes.invariant.rest.rest)
    (c.requires.exit, c.requires.head, c.requires.out)

pub round-requires-clause-labeled : goal.round-requires-clause-labeled
round-requires-clause-labeled g c =
    let some : 0 < label_of c.add_artificial.new.self c.ends-ends.result.from =
    omega (arith, c.word-in-loop-pushes.ensures, c.if-word-eq0.false) in
    subst (λ (v : ℕ). IsLabeled c.add_artificial.new.self v) (c.ends-ends.ensures.from
    ∙ sym (ap (λ (x : Contents). slice_index x.from c.args.arc) c.loop-pushes.invariant.rest.rest)) some

pub drop_artificial-requires-clause-tree : goal.drop_artificial-requires-clause-tree
drop_artificial-requires-clause-tree g c =
    let stopped = c.round.ensures.stopped c.if-not-round.true in
    stopped_artificial c.round.new.circ c.add_artificial.ensures.tree stopped.0 stopped.1

pub returns-then-not-round : goal.returns-then-not-round
returns-then-not-round g c =
    let inv = c.loop-pushes.invariant in
    let done = c.round.ensures in
    let dropped = c.drop_artificial.ensures in
    let stopped = done.stopped c.if-not-round.true in
    let flow = ap (λ (x : Contents). flow_of x c.args.arc) dropped.rest
    ∙ ap (λ (x : Contents). flow_of x c.args.arc) stopped.0 in
    let full = subst (λ (x : Contents). IsFull x c.args.exit) (sym dropped.rest)
    (done.full c.if-not-round.true).1 in
    record {
      kept = dropped.kept;
      rest = raised_more c.args.circ.now c.loop-pushes.circ c.drop_artificial.new.circ c.args.arc inv.rest
          (raised_more c.loop-pushes.circ c.round.new.circ c.drop_artificial.new.circ c.args.arc done.rest
          (raised_scratch c.round.new.circ c.args.arc dropped.rest));
      held = subst (λ (x : Contents). flow_of x c.args.arc ≡ slice_index x.lower c.args.arc) (sym dropped.rest)
          done.held;
      rises = omega (arith, inv.rises, flow);
      limit = omega (arith, inv.limit, flow);
      met = (
        λ is. absurd (met_unfinished (sym is)),
        λ same. absurd (omega (arith, same, flow, c.flow-flow.ensures.amount, c.if-flow-want.false)),
      );
      tree = λ _. dropped.tree;
      artificial = λ is. absurd (stopped_unfinished (sym is));
      cut = λ is. absurd (stopped_unfinished (sym is));
      count = omega (arith, inv.count, stopped.2);
      cost = omega (arith, inv.count, stopped.2, c.loop-pushes.auto._pushes-end);
      each = omega (arith, inv.count, stopped.2, inv.each, flow);
      unfinished = λ _. inr (inl full);
      at_first = λ _ none some. inl full;
    }

pub loop-pushes-preserved : goal.loop-pushes-preserved
loop-pushes-preserved g c =
    let inv = c.loop-pushes.invariant in
    let pushed = c.round.ensures.pushed c.if-not-round.false in
    let limit = inv.limit in
    record {
      kept = c.round.ensures.kept;
      rest = raised_more c.args.circ.now c.loop-pushes.circ c.round.new.circ c.args.arc inv.rest c.round.ensures.rest;
      held = c.round.ensures.held;
      tree = c.round.ensures.tree c.if-not-round.false;
      rises = omega (arith, inv.rises, pushed.0);
      limit = omega (arith, pushed.1, limit, c.flow-flow.ensures.amount);
      count = omega (arith, inv.count, pushed.2);
      each = omega (arith, inv.each, pushed.0);
      first = λ e. absurd (omega arith);
    }

pub returns-then-flow-want-2 : goal.returns-then-flow-want-2
returns-then-flow-want-2 g c =
    let inv = c.loop-pushes.invariant in
    record {
      kept = inv.kept;
      rest = inv.rest;
      held = inv.held;
      rises = inv.rises;
      limit = inv.limit;
      count = omega (arith, inv.count);
      cost = omega (arith, inv.count, c.loop-pushes.auto._pushes-end);
      each = omega (arith, inv.count, inv.each);
      met = (λ _. sym c.flow.ensures.amount ∙ c.if-flow-want-2.true, λ _. refl);
      tree = λ _. inv.tree;
      artificial = λ is. absurd (met_stopped is);
      cut = λ is. absurd (met_stopped is);
      unfinished = λ is. absurd (met_unfinished is);
      at_first = λ is none some. absurd (met_unfinished is);
    }

pub returns-else-flow-want-2 : goal.returns-else-flow-want-2
returns-else-flow-want-2 g c =
    let inv = c.loop-pushes.invariant in
    record {
      kept = inv.kept;
      rest = inv.rest;
      held = inv.held;
      rises = inv.rises;
      limit = inv.limit;
      count = omega (arith, inv.count);
      cost = omega (arith, inv.count, c.loop-pushes.auto._pushes-end);
      each = omega (arith, inv.count, inv.each);
      met = (
        λ is. absurd (met_unfinished (sym is)),
        λ same. absurd (omega (arith, same, c.flow.ensures.amount, c.if-flow-want-2.false)),
      );
      tree = λ _. inv.tree;
      artificial = λ is. absurd (stopped_unfinished (sym is));
      cut = λ is. absurd (stopped_unfinished (sym is));
      unfinished = λ _. inl (omega (
        arith,
        inv.count,
        c.loop-pushes-test.false,
        c.loop-pushes.auto._pushes-end,
      ));
      at_first = λ _ none some. absurd (omega (arith, none, some, inv.count, c.loop-pushes-test.false));
    }

pub ends-ends-requires : goal.ends-ends-requires
ends-ends-requires g c = c.requires.arc

pub flow-flow-requires : goal.flow-flow-requires
flow-flow-requires g c = rw c.loop-pushes.invariant.rest.rest c.requires.arc

pub round-requires-clause-arc : goal.round-requires-clause-arc
round-requires-clause-arc g c = rw c.loop-pushes.invariant.rest.rest c.requires.arc

pub round-requires-clause-held : goal.round-requires-clause-held
round-requires-clause-held g c = c.loop-pushes.invariant.held

pub round-requires-clause-tree : goal.round-requires-clause-tree
round-requires-clause-tree g c = rw c.from.ensures c.add_artificial.ensures.tree

pub round-requires-clause-kept : goal.round-requires-clause-kept
round-requires-clause-kept g c = c.loop-pushes.invariant.kept

pub flow-requires : goal.flow-requires
flow-requires g c = rw c.loop-pushes.invariant.rest.rest c.requires.arc

pub round-requires-clause-positive : goal.round-requires-clause-positive
round-requires-clause-positive g c =
    omega (arith, c.if-flow-want.false, c.flow-flow.ensures.amount, c.loop-pushes.invariant.limit)

pub round-requires-clause-most : goal.round-requires-clause-most
round-requires-clause-most g c =
    let upper = ap (λ (x : Contents). slice_index x.upper c.args.arc) c.loop-pushes.invariant.rest.rest in
    omega (arith, upper, c.requires.want, c.flow-flow.ensures.amount, c.loop-pushes.invariant.limit)

pub round-requires-clause-artificial_arc : goal.round-requires-clause-artificial_arc
round-requires-clause-artificial_arc g c =
    let inside : c.args.exit < arcs c.loop-pushes.circ = rw c.loop-pushes.invariant.rest.rest c.requires.exit in
    omega (arith, c.from.ensures, inside)
