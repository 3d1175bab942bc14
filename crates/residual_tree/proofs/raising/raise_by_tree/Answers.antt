use Rattle.std.proofs.Common.{ℕ, ◌≡◌, ◌≢◌, ◌⊎◌, ◌+◌, ◌<◌, length, slice_index, arith, ap, refl, subst, sym, ◌∙◌}
use Rattle.circulation.specs.Contents.{Contents, flow_of}
use Rattle.residual_tree.specs.Raised.{IsExit, IsFull}
use Rattle.residual_tree.specs.Tree.{label_of, IsLabeled}
use Rattle.residual_tree.proofs.UnlabeledCut.{unlabeled_cut}
use Rattle.residual_tree.proofs.Pushes.{residual_artificial}
use Rattle.residual_tree.proofs.Rounds.{hold_is, hold_still, raised_more}
use Rattle.residual_tree.proofs.Traces.{rest_more}
use Rattle.residual_tree.specs.declared.raising.TreeRaised.{TreeRaised}
use Rattle.residual_tree.proofs.raising.raise_by_tree.Goals as goal

met_stopped : TreeRaised.Met ≡ TreeRaised.Stopped → ⊥
met_stopped h = cc (h)

met_unfinished : TreeRaised.Met ≡ TreeRaised.Unfinished → ⊥
met_unfinished h = cc (h)

stopped_unfinished : TreeRaised.Stopped ≡ TreeRaised.Unfinished → ⊥
stopped_unfinished h = cc (h)

pub raise_labeled-requires : goal.raise_labeled-requires
raise_labeled-requires g c =
    let hold = hold_is c.args.arc c.flow-start.ensures.kept c.requires.arc
    c.flow-start.ensures.amount c.hold.ensures.held in
    let rest = hold.rest.rest in
    record {
      arc = omega (arith, c.requires.arc, ap (λ (x : Contents). length x.from) rest);
      want = omega (arith, c.requires.want, ap (λ (x : Contents). slice_index x.upper c.args.arc) rest);
      less = omega (arith, c.requires.less, hold.raised);
      held = hold.held;
      exit = subst (λ (x : Contents). IsExit x c.args.arc c.args.exit) (sym rest) c.requires.exit;
      tree = c.hold.ensures.tree;
      kept = c.hold.ensures.kept;
    }

pub returns-then-flow-want : goal.returns-then-flow-want
returns-then-flow-want g c =
    let hold = hold_is c.args.arc c.flow-start.ensures.kept c.requires.arc
    c.flow-start.ensures.amount c.hold.ensures.held in
    let done = c.raise_labeled.ensures in
    let all = raised_more c.args.circ.now c.hold.new.circ c.raise_labeled.new.circ c.args.arc hold.rest done.rest in
    record {
      kept = done.kept;
      rest = all;
      held = done.held;
      tree = done.tree;
      rises = omega (arith, hold.raised, done.rises);
      limit = done.limit;
      count = done.count;
      cost = done.cost;
      each = omega (arith, hold.raised, done.each);
      still = λ none held. rest_more c.args.circ.now c.hold.new.circ c.raise_labeled.new.circ.scratch
          (hold_still c.args.arc c.flow-start.ensures.kept c.requires.arc
          c.flow-start.ensures.amount held c.hold.ensures.held) (done.still none);
      met = (λ _. sym c.flow.ensures.amount ∙ c.if-flow-want.true, λ _. refl);
      unlabeled = λ is. absurd (met_stopped is);
      cut = λ is. absurd (met_stopped is);
      unfinished = λ is. absurd (met_unfinished is);
    }

pub returns-then-word-eq0 : goal.returns-then-word-eq0
returns-then-word-eq0 g c =
    let hold = hold_is c.args.arc c.flow-start.ensures.kept c.requires.arc
    c.flow-start.ensures.amount c.hold.ensures.held in
    let done = c.raise_labeled.ensures in
    let all = raised_more c.args.circ.now c.hold.new.circ c.raise_labeled.new.circ c.args.arc hold.rest done.rest in
    let from = ap (λ (x : Contents). slice_index x.from c.args.arc) all.rest in
    let to = ap (λ (x : Contents). slice_index x.to c.args.arc) all.rest in
    let arcs = ap (λ (x : Contents). length x.from) all.rest in
    let none = ap (label_of c.raise_labeled.new.tree) (sym c.ends-tail.ensures.from) ∙ sym c.word.ensures
    ∙ c.if-word-eq0.true in
    record {
      kept = done.kept;
      rest = all;
      held = done.held;
      tree = done.tree;
      rises = omega (arith, hold.raised, done.rises);
      limit = done.limit;
      count = done.count;
      cost = done.cost;
      each = omega (arith, hold.raised, done.each);
      still = λ none held. rest_more c.args.circ.now c.hold.new.circ c.raise_labeled.new.circ.scratch
          (hold_still c.args.arc c.flow-start.ensures.kept c.requires.arc
          c.flow-start.ensures.amount held c.hold.ensures.held) (done.still none);
      met = (
        λ is. absurd (met_stopped (sym is)),
        λ same. absurd (omega (arith, same, c.flow.ensures.amount, c.if-flow-want.false)),
      );
      unlabeled = λ _. ap (label_of c.raise_labeled.new.tree) (sym from) ∙ none;
      cut = λ _ head.
          unlabeled_cut c.ends-tail.ensures.kept (residual_artificial c.args.arc done.tree)
          (omega (arith, arcs, c.requires.arc)) none
          (subst (λ (v : ℕ). IsLabeled c.raise_labeled.new.tree v) (sym to) head);
      unfinished = λ is. absurd (stopped_unfinished is);
    }

pub returns-else-word-eq0 : goal.returns-else-word-eq0
returns-else-word-eq0 g c =
    let hold = hold_is c.args.arc c.flow-start.ensures.kept c.requires.arc
    c.flow-start.ensures.amount c.hold.ensures.held in
    let done = c.raise_labeled.ensures in
    let all = raised_more c.args.circ.now c.hold.new.circ c.raise_labeled.new.circ c.args.arc hold.rest done.rest in
    let short : flow_of c.raise_labeled.new.circ c.args.arc < c.args.want =
    omega (arith, done.limit, c.flow.ensures.amount, c.if-flow-want.false) in
    let some : 0 < label_of c.raise_labeled.new.tree c.ends-tail.result.from =
    omega (arith, c.word.ensures, c.if-word-eq0.false) in
    record {
      kept = done.kept;
      rest = all;
      held = done.held;
      tree = done.tree;
      rises = omega (arith, hold.raised, done.rises);
      limit = done.limit;
      count = done.count;
      cost = done.cost;
      each = omega (arith, hold.raised, done.each);
      still = λ none held. rest_more c.args.circ.now c.hold.new.circ c.raise_labeled.new.circ.scratch
          (hold_still c.args.arc c.flow-start.ensures.kept c.requires.arc
          c.flow-start.ensures.amount held c.hold.ensures.held) (done.still none);
      met = (λ is. absurd (met_unfinished (sym is)), λ same. absurd (omega (arith, same, short)));
      unlabeled = λ is. absurd (stopped_unfinished (sym is));
      cut = λ is. absurd (stopped_unfinished (sym is));
      unfinished = λ _. subst (λ (x : Contents).
          (c.raise_labeled.new.pushes ≡ c.args.pushes.now + c.args.max_pushes)
          ⊎ ((slice_index x.to c.args.arc ≢ x.nodes) × IsFull c.raise_labeled.new.circ c.args.exit)) hold.rest.rest
          (done.why short (subst (λ (v : ℕ). IsLabeled c.raise_labeled.new.tree v)
          (c.ends-tail.ensures.from ∙ ap (λ (x : Contents). slice_index x.from c.args.arc) done.rest.rest) some));
    }
