use Rattle.std.proofs.Common.{ℕ, ◌≡◌, ◌<◌, length, slice_index, arith, ap, refl, subst, sym, ◌∙◌}
use Rattle.circulation.specs.Contents.{Contents, arcs}
use Rattle.residual_tree.specs.Tree.{label_of, IsLabeled}
use Rattle.residual_tree.proofs.UnlabeledCut.{unlabeled_cut}
use Rattle.residual_tree.proofs.Grows.{artificial_some}
use Rattle.residual_tree.proofs.Pushes.{residual_artificial}
use Rattle.residual_tree.proofs.Rounds.{raised_more}
use Rattle.residual_tree.specs.declared.raising.TreeRaised.{TreeRaised}
use Rattle.residual_tree.proofs.raising.raise_take.Goals as goal

met_stopped : TreeRaised.Met ≡ TreeRaised.Stopped → ⊥
met_stopped h = cc (h)

met_unfinished : TreeRaised.Met ≡ TreeRaised.Unfinished → ⊥
met_unfinished h = cc (h)

stopped_unfinished : TreeRaised.Stopped ≡ TreeRaised.Unfinished → ⊥
stopped_unfinished h = cc (h)

pub returns-then-most-eq0 : goal.returns-then-most-eq0
returns-then-most-eq0 g c = record {
  kept = c.ends-tail.ensures.kept;
  rest = record { rest = refl; lowers = λ a ne. refl };
  held = c.requires.held;
  tree = c.requires.tree;
  rises = omega arith;
  limit = omega (arith, c.requires.less);
  met = (λ is. absurd (met_unfinished (sym is)), λ same. absurd (omega (arith, same, c.requires.less)));
  unlabeled = λ is. absurd (stopped_unfinished (sym is));
  cut = λ is. absurd (stopped_unfinished (sym is));
  count = omega arith;
  each = omega arith;
  cost = omega arith;
  used = omega arith;
  pushed = λ some. absurd (omega (arith, some));
  unfinished = λ _. omega (arith, c.if-most-eq0.true);
}

pub returns-then-word-eq0 : goal.returns-then-word-eq0
returns-then-word-eq0 g c =
    let none = ap (label_of c.args.tree.now) (sym c.ends-tail.ensures.from) ∙ sym c.word.ensures
    ∙ c.if-word-eq0.true in
    record {
      kept = c.ends-tail.ensures.kept;
      rest = record { rest = refl; lowers = λ a ne. refl };
      held = c.requires.held;
      tree = c.requires.tree;
      rises = omega arith;
      limit = omega (arith, c.requires.less);
      met = (λ is. absurd (met_stopped (sym is)), λ same. absurd (omega (arith, same, c.requires.less)));
      unlabeled = λ _. none;
      cut = λ _. unlabeled_cut c.ends-tail.ensures.kept (residual_artificial c.args.arc c.requires.tree) c.requires.arc
          none
          (subst (λ (v : ℕ). IsLabeled c.args.tree.now v) (sym c.requires.out) (omega (arith, c.requires.tree.root)));
      count = omega arith;
      each = omega arith;
      cost = omega arith;
      used = omega (arith, c.if-most-eq0.false);
      pushed = λ some. absurd (omega (arith, some));
      unfinished = λ is. absurd (stopped_unfinished is);
    }

pub round-pushed-requires-clause-tree : goal.round-pushed-requires-clause-tree
round-pushed-requires-clause-tree g c =
    artificial_some c.loop-pushes.circ c.loop-pushes.tree _ c.loop-pushes.invariant.tree

pub round-pushed-requires-clause-exit : goal.round-pushed-requires-clause-exit
round-pushed-requires-clause-exit g c = λ inner.
    let rest = c.loop-pushes.invariant.rest.rest in
    absurd (inner (ap (λ (x : Contents). slice_index x.to c.args.arc) rest ∙ c.requires.out
    ∙ sym (ap (λ (x : Contents). x.nodes) rest)))

pub round-pushed-requires-clause-labeled : goal.round-pushed-requires-clause-labeled
round-pushed-requires-clause-labeled g c =
    subst (λ (v : ℕ). IsLabeled c.loop-pushes.tree v)
    (sym (ap (λ (x : Contents). slice_index x.from c.args.arc) c.loop-pushes.invariant.rest.rest))
    c.loop-pushes.invariant.labeled

pub prove-unreachable-requires : goal.prove-unreachable-requires
prove-unreachable-requires g c =
    let rest = c.loop-pushes.invariant.rest.rest in
    (c.round-pushed.ensures.full c.if-prove.true).0 (ap (λ (x : Contents). slice_index x.to c.args.arc) rest
    ∙ c.requires.out ∙ sym (ap (λ (x : Contents). x.nodes) rest))

pub loop-pushes-preserved : goal.loop-pushes-preserved
loop-pushes-preserved g c =
    let inv = c.loop-pushes.invariant in
    let round = c.round-pushed.ensures in
    let pushed = round.pushed c.if-prove.false in
    let tail = c.ends-tail.ensures.from in
    let got = c.flow-got-in-loop-pushes.ensures.amount in
    record {
      kept = round.kept;
      rest = raised_more c.args.circ.now c.loop-pushes.circ c.round-pushed.new.circ c.args.arc inv.rest round.rest;
      held = round.held;
      tree = round.tree c.if-prove.false;
      labeled = subst (λ (v : ℕ). IsLabeled c.round-pushed.new.tree v) tail
          (omega (arith, c.word-in-loop-pushes.ensures, c.if-word-eq0-2.false));
      got = got;
      rises = omega (arith, inv.rises, inv.got, got, pushed.0);
      less = omega (arith, inv.got, got, pushed.1, inv.less, c.if-got-want.false);
      count = omega (arith, inv.count, pushed.2);
      left = omega (arith, inv.left, c.loop-pushes-test.true);
      each = omega (arith, inv.each, inv.got, got, pushed.0);
    }

pub returns-then-got-want : goal.returns-then-got-want
returns-then-got-want g c =
    let inv = c.loop-pushes.invariant in
    let done = c.round-pushed.ensures in
    let pushed = done.pushed c.if-prove.false in
    let got = c.flow-got-in-loop-pushes.ensures.amount in
    let all = raised_more c.args.circ.now c.loop-pushes.circ c.round-pushed.new.circ c.args.arc inv.rest done.rest in
    record {
      kept = done.kept;
      rest = all;
      held = done.held;
      tree = done.tree c.if-prove.false;
      rises = omega (arith, inv.rises, inv.got, pushed.0);
      limit = omega (arith, pushed.1, inv.got, inv.less);
      count = omega (arith, inv.count, pushed.2);
      each = omega (arith, inv.count, inv.each, inv.got, pushed.0, pushed.2);
      cost = omega (arith, inv.count, inv.left, pushed.2, c.loop-pushes-test.true);
      used = omega (arith, inv.count, inv.left, pushed.2, c.loop-pushes-test.true);
      pushed = λ some. omega (arith, inv.count, inv.left, pushed.2, c.loop-pushes-test.true);
      met = (λ _. sym got ∙ c.if-got-want.true, λ _. refl);
      unlabeled = λ is. absurd (met_stopped is);
      cut = λ is. absurd (met_stopped is);
      unfinished = λ is. absurd (met_unfinished is);
    }

pub returns-then-word-eq0-2 : goal.returns-then-word-eq0-2
returns-then-word-eq0-2 g c =
    let inv = c.loop-pushes.invariant in
    let done = c.round-pushed.ensures in
    let pushed = done.pushed c.if-prove.false in
    let got = c.flow-got-in-loop-pushes.ensures.amount in
    let all = raised_more c.args.circ.now c.loop-pushes.circ c.round-pushed.new.circ c.args.arc inv.rest done.rest in
    let from = ap (λ (x : Contents). slice_index x.from c.args.arc) all.rest in
    let to = ap (λ (x : Contents). slice_index x.to c.args.arc) all.rest in
    let nodes = ap (λ (x : Contents). x.nodes) all.rest in
    let arcs = ap (λ (x : Contents). length x.from) all.rest in
    let tree = done.tree c.if-prove.false in
    let none = ap (label_of c.round-pushed.new.tree) (sym c.ends-tail.ensures.from)
    ∙ sym c.word-in-loop-pushes.ensures ∙ c.if-word-eq0-2.true in
    record {
      kept = done.kept;
      rest = all;
      held = done.held;
      tree = done.tree c.if-prove.false;
      rises = omega (arith, inv.rises, inv.got, pushed.0);
      limit = omega (arith, pushed.1, inv.got, inv.less);
      count = omega (arith, inv.count, pushed.2);
      each = omega (arith, inv.count, inv.each, inv.got, pushed.0, pushed.2);
      cost = omega (arith, inv.count, inv.left, pushed.2, c.loop-pushes-test.true);
      used = omega (arith, inv.count, inv.left, pushed.2, c.loop-pushes-test.true);
      pushed = λ some. omega (arith, inv.count, inv.left, pushed.2, c.loop-pushes-test.true);
      met = (λ is. absurd (met_stopped (sym is)), λ same. absurd (omega (arith, same, got, c.if-got-want.false)));
      unlabeled = λ _. none;
      cut = λ _. unlabeled_cut done.kept (residual_artificial c.args.arc tree) (omega (arith, arcs, c.requires.arc))
          (ap (label_of c.round-pushed.new.tree) from ∙ none)
          (subst (λ (v : ℕ). IsLabeled c.round-pushed.new.tree v) (sym (to ∙ c.requires.out ∙ sym nodes))
          (omega (arith, tree.root)));
      unfinished = λ is. absurd (stopped_unfinished is);
    }

pub returns : goal.returns
returns g c =
    let inv = c.loop-pushes.invariant in
    record {
      kept = inv.kept;
      rest = inv.rest;
      held = inv.held;
      tree = inv.tree;
      rises = omega (arith, inv.rises, inv.got);
      limit = omega (arith, inv.got, inv.less);
      met = (λ is. absurd (met_unfinished (sym is)), λ same. absurd (omega (arith, same, inv.got, inv.less)));
      unlabeled = λ is. absurd (stopped_unfinished (sym is));
      cut = λ is. absurd (stopped_unfinished (sym is));
      count = omega (arith, inv.count);
      each = omega (arith, inv.count, inv.each, inv.got);
      cost = omega (arith, inv.count, inv.left);
      used = omega (arith, inv.count, inv.left);
      pushed = λ some. omega (arith, inv.count, inv.left);
      unfinished = λ _. omega (arith, inv.count, c.loop-pushes-test.false);
    }

pub ends-tail-requires : goal.ends-tail-requires
ends-tail-requires g c = c.requires.arc

pub flow-got-requires : goal.flow-got-requires
flow-got-requires g c = c.requires.arc

pub round-pushed-requires-clause-arc : goal.round-pushed-requires-clause-arc
round-pushed-requires-clause-arc g c = rw c.loop-pushes.invariant.rest.rest c.requires.arc

pub round-pushed-requires-clause-held : goal.round-pushed-requires-clause-held
round-pushed-requires-clause-held g c = c.loop-pushes.invariant.held

pub round-pushed-requires-clause-kept : goal.round-pushed-requires-clause-kept
round-pushed-requires-clause-kept g c = c.loop-pushes.invariant.kept

pub round-pushed-requires-clause-positive : goal.round-pushed-requires-clause-positive
round-pushed-requires-clause-positive g c = omega (arith, c.loop-pushes.invariant.less)

pub round-pushed-requires-clause-most : goal.round-pushed-requires-clause-most
round-pushed-requires-clause-most g c =
    let upper = ap (λ (x : Contents). slice_index x.upper c.args.arc) c.loop-pushes.invariant.rest.rest in
    omega (arith, upper, c.requires.want, c.loop-pushes.invariant.got, c.loop-pushes.invariant.less)

pub round-pushed-requires-clause-artificial_arc : goal.round-pushed-requires-clause-artificial_arc
round-pushed-requires-clause-artificial_arc g c =
    let inside : c.args.arc < arcs c.loop-pushes.circ = rw c.loop-pushes.invariant.rest.rest c.requires.arc in
    omega (arith, c.from-artificial.ensures, inside)
