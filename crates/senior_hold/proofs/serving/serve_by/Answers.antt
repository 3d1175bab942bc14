use Rattle.std.proofs.Common.{◌≡◌, ◌≢◌, ◌-◌, ◌∙◌, ℕ, Bool, List, length, arith, ap, refl, sym, inl}
use Rattle.std.specs.Prelude.{Some}
use Rattle.bit_words.specs.Marks.{marks, words_for}
use Rattle.circulation.specs.Contents.{Contents}
use Rattle.water_model.specs.CutSets.{with_set}
use Rattle.residual_tree.specs.declared.raising.TreeRaised.{TreeRaised}
use Rattle.senior_hold.specs.declared.serving.Turn.{Turn}
use Rattle.senior_hold.specs.declared.sweep.Method.{Method}
use Rattle.senior_hold.proofs.Marks.{marks_are}
use Rattle.senior_hold.proofs.TreeServes.{served_full, served_unlabeled}
use Rattle.senior_hold.proofs.serving.serve_by.Goals as goal

apart : (r : TreeRaised) → r ≡ TreeRaised.Stopped → r ≢ TreeRaised.Met
apart r e = λ f. let both : TreeRaised.Stopped ≡ TreeRaised.Met = sym e ∙ f in cc (both)

ended_unlabeled : (r : TreeRaised) → r ≡ TreeRaised.Stopped → r ≢ TreeRaised.Unfinished
ended_unlabeled r e = λ f. let both : TreeRaised.Stopped ≡ TreeRaised.Unfinished = sym e ∙ f in cc (both)

ended_met : (r : TreeRaised) → r ≡ TreeRaised.Met → r ≢ TreeRaised.Unfinished
ended_met r e = λ f. let both : TreeRaised.Met ≡ TreeRaised.Unfinished = sym e ∙ f in cc (both)

tree_searches : (m : Method) → m ≡ Method.Tree → m ≡ Method.Searches → ⊥
tree_searches m h i = let both : Method.Tree ≡ Method.Searches = sym h ∙ i in cc (both)

served_gave_up : Turn.Served ≡ Turn.GaveUp → ⊥
served_gave_up h = cc (h)

not_stopped : (r : TreeRaised) → r ≡ TreeRaised.Met → r ≢ TreeRaised.Stopped
not_stopped r e = λ f. let both : TreeRaised.Met ≡ TreeRaised.Stopped = sym e ∙ f in cc (both)

pub returns-in-Searches : goal.returns-in-Searches
returns-in-Searches g c =
    let done = c.serve.ensures in
    record {
      served = λ _. done.served;
      tree = λ h e. absurd (tree_searches c.args.method h c.in-Searches.is);
      raised = λ e. absurd (served_gave_up e);
      kept = done.kept;
      shape = done.shape;
      cost = λ h. absurd (tree_searches c.args.method h c.in-Searches.is);
      used = λ h. absurd (tree_searches c.args.method h c.in-Searches.is);
      gave_up = λ e. absurd (served_gave_up e);
      searched = λ _. refl;
      search_cost = λ _. done.cost;
    }

pub returns-then-claim-flow-clause-tree : goal.returns-then-claim-flow-clause-tree
returns-then-claim-flow-clause-tree g c = λ _ _. c.hold.ensures.tree

pub returns-then-claim-flow-clause-raised : goal.returns-then-claim-flow-clause-raised
returns-then-claim-flow-clause-raised g c = λ e. absurd (served_gave_up e)

pub returns-then-claim-flow-clause-gave_up : goal.returns-then-claim-flow-clause-gave_up
returns-then-claim-flow-clause-gave_up g c = λ e. absurd (served_gave_up e)

pub returns-then-claim-flow-clause-search_cost : goal.returns-then-claim-flow-clause-search_cost
returns-then-claim-flow-clause-search_cost g c = λ h. absurd (tree_searches c.args.method c.in-Tree.is h)

pub returns-in-Met : goal.returns-in-Met
returns-in-Met g c =
    let done = c.raise_fully.ensures in
    record {
      served = λ _. served_full c.flow.ensures.kept done.raised c.requires.claim.arc
          ((done.met (ended_met c.raise_fully.result c.in-Met.is)).0 c.in-Met.is);
      tree = λ _ _. done.leaves.tree (not_stopped c.raise_fully.result c.in-Met.is);
      raised = λ e. absurd (served_gave_up e);
      kept = done.raised.kept;
      shape = record { nodes = refl; sets = refl };
      cost = λ _. done.cost;
      used = λ _. done.used;
      gave_up = λ e. absurd (served_gave_up e);
      searched = λ _. refl;
      search_cost = λ h. absurd (tree_searches c.args.method c.in-Tree.is h);
    }

pub returns-in-Unfinished : goal.returns-in-Unfinished
returns-in-Unfinished g c =
    let done = c.raise_fully.ensures in
    record {
      served = λ e. absurd (served_gave_up (sym e));
      tree = λ _ e. absurd (served_gave_up (sym e));
      raised = λ _. done.raised.rest;
      kept = done.raised.kept;
      shape = record { nodes = refl; sets = refl };
      cost = λ _. done.cost;
      used = λ _. done.used;
      gave_up = λ _. done.gave_up c.in-Unfinished.is;
      searched = λ h. absurd (tree_searches c.args.method c.in-Tree.is h);
      search_cost = λ h. absurd (tree_searches c.args.method c.in-Tree.is h);
    }

pub begin_with-requires-clause-words : goal.begin_with-requires-clause-words
begin_with-requires-clause-words g c =
    let tree = c.raise_fully.ensures.leaves.artificial c.in-Stopped.is in
    let same = ap (λ (x : Contents). x.nodes) c.raise_fully.ensures.raised.rest.rest in
    let nodes : length c.raise_fully.new.tree - 1 ≡ c.args.cuts.now.nodes =
    omega (arith, tree.words, same, c.requires.set.nodes) in
    c.unlabeled_marks.ensures.count ∙ ap words_for nodes

pub returns-in-Stopped-clause-served : goal.returns-in-Stopped-clause-served
returns-in-Stopped-clause-served g c = λ _.
    let done = c.raise_fully.ensures in
    let nodes : c.args.cuts.now.nodes ≡ c.raise_fully.new.circ.nodes =
    c.requires.set.nodes ∙ sym (ap (λ (x : Contents). x.nodes) done.raised.rest.rest) in
    served_unlabeled c.raise_fully.new.tree c.flow.ensures.kept done.raised c.requires.claim.arc
    (λ e. apart c.raise_fully.result c.in-Stopped.is
    ((done.met (ended_unlabeled c.raise_fully.result c.in-Stopped.is)).1 e))
    c.drop_artificial.ensures.rest (done.leaves.cut c.in-Stopped.is)
    (c.begin_with.ensures ∙ ap (λ (xs : List Bool). with_set c.args.cuts.now c.args.claim.right (Some xs))
    (ap (λ (n : ℕ). marks n c.unlabeled_marks.result.now) nodes
    ∙ marks_are c.raise_fully.new.circ.nodes c.unlabeled_marks.result.now c.raise_fully.new.tree
    (done.leaves.artificial c.in-Stopped.is).words c.unlabeled_marks.ensures.marks))

pub returns-in-Stopped-clause-tree : goal.returns-in-Stopped-clause-tree
returns-in-Stopped-clause-tree g c = λ _ _. c.drop_artificial.ensures.tree

pub returns-in-Stopped-clause-raised : goal.returns-in-Stopped-clause-raised
returns-in-Stopped-clause-raised g c = λ e. absurd (served_gave_up e)

pub returns-in-Stopped-clause-gave_up : goal.returns-in-Stopped-clause-gave_up
returns-in-Stopped-clause-gave_up g c = λ e. absurd (served_gave_up e)

pub returns-in-Stopped-clause-search_cost : goal.returns-in-Stopped-clause-search_cost
returns-in-Stopped-clause-search_cost g c = λ h. absurd (tree_searches c.args.method c.in-Tree.is h)

pub serve-requires-clause-claim : goal.serve-requires-clause-claim
serve-requires-clause-claim g c = c.requires.claim

pub serve-requires-clause-set : goal.serve-requires-clause-set
serve-requires-clause-set g c = c.requires.set

pub serve-requires-clause-path_out : goal.serve-requires-clause-path_out
serve-requires-clause-path_out g c = c.requires.path_out c.in-Searches.is

pub flow-requires : goal.flow-requires
flow-requires g c = c.requires.claim.arc

pub hold-requires-clause-arc : goal.hold-requires-clause-arc
hold-requires-clause-arc g c = c.requires.claim.arc

pub hold-requires-clause-tree : goal.hold-requires-clause-tree
hold-requires-clause-tree g c = c.requires.tree c.in-Tree.is

pub returns-then-claim-flow-clause-kept : goal.returns-then-claim-flow-clause-kept
returns-then-claim-flow-clause-kept g c = c.hold.ensures.kept

pub returns-then-claim-flow-clause-shape : goal.returns-then-claim-flow-clause-shape
returns-then-claim-flow-clause-shape g c = record { nodes = refl; sets = refl }

pub returns-then-claim-flow-clause-cost : goal.returns-then-claim-flow-clause-cost
returns-then-claim-flow-clause-cost g c = λ _. omega arith

pub returns-then-claim-flow-clause-used : goal.returns-then-claim-flow-clause-used
returns-then-claim-flow-clause-used g c = λ _. inl (omega arith)

pub returns-then-claim-flow-clause-searched : goal.returns-then-claim-flow-clause-searched
returns-then-claim-flow-clause-searched g c = λ _. refl

pub raise_fully-requires-clause-claim : goal.raise_fully-requires-clause-claim
raise_fully-requires-clause-claim g c = c.requires.claim

pub raise_fully-requires-clause-tree : goal.raise_fully-requires-clause-tree
raise_fully-requires-clause-tree g c = c.requires.tree c.in-Tree.is

pub begin_with-requires-clause-right : goal.begin_with-requires-clause-right
begin_with-requires-clause-right g c = c.requires.set.right

pub begin_with-requires-clause-free : goal.begin_with-requires-clause-free
begin_with-requires-clause-free g c = c.requires.set.free

pub drop_artificial-requires-clause-tree : goal.drop_artificial-requires-clause-tree
drop_artificial-requires-clause-tree g c = c.raise_fully.ensures.leaves.artificial c.in-Stopped.is

pub returns-in-Stopped-clause-kept : goal.returns-in-Stopped-clause-kept
returns-in-Stopped-clause-kept g c = c.drop_artificial.ensures.kept

pub returns-in-Stopped-clause-cost : goal.returns-in-Stopped-clause-cost
returns-in-Stopped-clause-cost g c = λ _. c.raise_fully.ensures.cost

pub returns-in-Stopped-clause-used : goal.returns-in-Stopped-clause-used
returns-in-Stopped-clause-used g c = λ _. c.raise_fully.ensures.used

pub returns-in-Stopped-clause-searched : goal.returns-in-Stopped-clause-searched
returns-in-Stopped-clause-searched g c = λ _. refl
