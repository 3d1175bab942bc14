use Rattle.std.proofs.lemmas.Bool.Decides.{nat_tests}
use Rattle.std.specs.Prelude.{IsTrue, ◌↔◌}
use Rattle.std.proofs.lemmas.Bool.{cases_eq}
use Rattle.std.proofs.Common.{ℕ, Bool, ◌<◌, ◌≤◌, ◌≡◌, ◌≢◌, ◌*◌, ◌+◌, ◌∙◌, true, false, refl, sym, subst, arith, inl}
use Rattle.std.proofs.Common.{inr}
use denote.Enum.Bare.{sameb}
use Rattle.residual_tree.specs.Tree.{label_of, IsLabeled}
use Rattle.residual_tree.specs.declared.raising.TreeRaised.{TreeRaised}
use Rattle.residual_tree.specs.contracts.TreeRaised.{the_type}
use Rattle.residual_tree.proofs.Grows.{artificial_some}
use Rattle.residual_tree.proofs.Reaches.{same_labeled}
use Rattle.senior_hold.proofs.tree_raises.raise_once.Goals as goal
use Rattle.senior_hold.proofs.tree_raises.raise_once.Goals.{else-is_unlabeled-via-then-is_unlabeled+else-is_unlabeled-2}
use Rattle.senior_hold.proofs.tree_raises.raise_once.Goals.{else-is_unlabeled-via-else-is_unlabeled}
use Rattle.senior_hold.proofs.tree_raises.raise_once.Goals.{else-eq-via-then-eq+else-is_unlabeled-3}
use Rattle.senior_hold.proofs.tree_raises.raise_once.Goals.{else-eq-via-else-eq}

not_unlabeled : (r : TreeRaised) → sameb the_type r TreeRaised.Stopped ≡ false → r ≢ TreeRaised.Stopped
not_unlabeled TreeRaised.Stopped h = cc
not_unlabeled TreeRaised.Met h = λ e. cc (e)
not_unlabeled TreeRaised.Unfinished h = λ e. cc (e)

is_unlabeled : (r : TreeRaised) → sameb the_type r TreeRaised.Stopped ≡ true → r ≡ TreeRaised.Stopped
is_unlabeled TreeRaised.Stopped h = refl
is_unlabeled TreeRaised.Met h = cc
is_unlabeled TreeRaised.Unfinished h = cc

arid : (t : Bool) (p : ℕ) → (IsTrue t ↔ (p ≡ 0)) → t ≡ true → p ≡ 0
arid t p both h = grind (arith, nat_tests)

wet : (t : Bool) (p : ℕ) → (IsTrue t ↔ (p ≡ 0)) → t ≡ false → 0 < p
wet t p both h = grind (arith, nat_tests)

met_stopped : (r : TreeRaised) → r ≡ TreeRaised.Stopped → r ≡ TreeRaised.Met → ⊥
met_stopped r e f = let both : TreeRaised.Stopped ≡ TreeRaised.Met = sym e ∙ f in cc (both)

met_unfinished : TreeRaised.Met ≡ TreeRaised.Unfinished → ⊥
met_unfinished h = cc (h)

stopped_unfinished : TreeRaised.Stopped ≡ TreeRaised.Unfinished → ⊥
stopped_unfinished h = cc (h)

-- before the first push the head is unlabeled
pub returns-then-is_unlabeled-2 : goal.returns-then-is_unlabeled-2
returns-then-is_unlabeled-2 g c =
    let r = c.raise_within_unlabeled in
    let done = r.ensures in
    let bare = arid c.is_unlabeled-then-is_unlabeled.result (label_of c.args.tree.now c.ends-ends.result.to)
    c.is_unlabeled-then-is_unlabeled.ensures c.if-is_unlabeled-2.true in
    record {
      raised = record {
        kept = done.kept;
        rest = done.rest;
        held = done.held;
        rises = done.rises;
        limit = done.limit;
      };
      met = done.met;
      leaves = record { tree = done.tree; artificial = done.artificial; cut = done.cut };
      count = done.count;
      cost = done.cost;
      unfinished = λ is. elim (cases_eq r.new.pushes c.args.pushes.now) [
        | inr pushed ↦ inl (omega (arith, pushed, done.count, done.cost))
        | inl none ↦ elim (done.at_first is none (omega arith)) [
          | inl full ↦ inr full
          | inr labeled ↦ absurd (omega (
            arith,
            subst (λ (v : ℕ). IsLabeled c.args.tree.now v) (sym c.ends-ends.ensures.to) labeled,
            bare,
          ))
        ]
      ];
    }

pub returns-else-eq : goal.returns-else-eq
returns-else-eq g c =
    let done = c.raise_by_tree-pulled.ensures in
    let tree = c.raise_by_tree-pulled.new.tree in
    record {
      raised = record {
        kept = done.kept;
        rest = done.rest;
        held = done.held;
        rises = done.rises;
        limit = done.limit;
      };
      met = done.met;
      leaves = record {
        tree = λ _. c.raise_by_tree-pulled.ensures.tree;
        artificial = λ is. artificial_some c.raise_by_tree-pulled.new.circ tree (2 * c.args.claim.exit + 1)
            c.raise_by_tree-pulled.ensures.tree;
        cut = λ is. c.raise_by_tree-pulled.ensures.cut is (elim c.else-eq.branch [
          | else-eq-via-then-eq+else-is_unlabeled-3 w ↦
              subst (λ (v : ℕ). IsLabeled tree v) c.ends-ends.ensures.to
              (wet w.is_unlabeled-then-eq.result (label_of tree c.ends-ends.result.to) w.is_unlabeled-then-eq.ensures
              w.if-is_unlabeled-3.false)
          | else-eq-via-else-eq w ↦
              absurd (not_unlabeled c.raise_by_tree-pulled.result (sym c.eq.ensures ∙ w.if-eq.false) is)
        ]);
      };
      count = done.count;
      cost = done.cost;
      unfinished = λ is. elim (done.unfinished is) [ inl pushed ↦ inl pushed | inr full ↦ inr full.1 ];
    }

-- without a push both ends are as they were, so that one of them is labeled
pub returns-then-is_unlabeled-3 : goal.returns-then-is_unlabeled-3
returns-then-is_unlabeled-3 g c =
    let done = c.raise_by_tree-pulled.ensures in
    let is = is_unlabeled c.raise_by_tree-pulled.result (sym c.eq.ensures ∙ c.if-eq.true) in
    record {
      raised = record {
        kept = done.kept;
        rest = done.rest;
        held = done.held;
        rises = done.rises;
        limit = done.limit;
      };
      met = (
        λ e. absurd (met_unfinished (sym e)),
        λ same. absurd (met_stopped c.raise_by_tree-pulled.result is (done.met.1 same)),
      );
      leaves = record {
        tree = λ _. done.tree;
        artificial = λ e. absurd (stopped_unfinished (sym e));
        cut = λ e. absurd (stopped_unfinished (sym e));
      };
      count = done.count;
      cost = done.cost;
      unfinished = λ _.
          let r = c.raise_by_tree-pulled in
          let ends = c.ends-ends in
          let kept = ends.ensures.kept in
          elim (cases_eq r.new.pushes c.args.pushes.now) [
            | inr pushed ↦ inl (omega (arith, pushed, r.ensures.count, r.ensures.cost))
            | inl none ↦ inl (
                let stay = λ (v : ℕ) (b : v ≤ c.args.circ.now.nodes) (m : IsLabeled c.args.tree.now v).
                same_labeled c.args.circ.now r.new.circ c.args.tree.now r.new.tree v kept
                (r.ensures.still none c.requires.held) c.requires.tree r.ensures.tree b m in
                let tail = r.ensures.unlabeled (is_unlabeled r.result (sym c.eq.ensures ∙ c.if-eq.true)) in
                let head = arid c.is_unlabeled-then-eq.result (label_of r.new.tree ends.result.to)
                c.is_unlabeled-then-eq.ensures
                c.if-is_unlabeled-3.true in
                elim c.else-is_unlabeled.branch [
                  | else-is_unlabeled-via-then-is_unlabeled+else-is_unlabeled-2 w ↦
                      let was = wet w.is_unlabeled-then-is_unlabeled.result (label_of c.args.tree.now ends.result.to)
                      w.is_unlabeled-then-is_unlabeled.ensures w.if-is_unlabeled-2.false in
                      let inside = kept.ends.to_in c.args.claim.arc c.requires.claim.arc in
                      omega (arith, stay ends.result.to (omega (arith, ends.ensures.to, inside)) was, head)
                  | else-is_unlabeled-via-else-is_unlabeled w ↦
                      let was = wet c.is_unlabeled.result (label_of c.args.tree.now ends.result.from)
                      c.is_unlabeled.ensures
                      w.if-is_unlabeled.false in
                      let inside = kept.ends.from_in c.args.claim.arc c.requires.claim.arc in
                      let now = stay ends.result.from (omega (arith, ends.ensures.from, inside)) was in
                      omega (arith, subst (λ (v : ℕ). IsLabeled r.new.tree v) ends.ensures.from now, tail)
                ])
          ];
    }

pub ends-ends-requires : goal.ends-ends-requires
ends-ends-requires g c = c.requires.claim.arc

pub raise_within_unlabeled-requires-clause-arc : goal.raise_within_unlabeled-requires-clause-arc
raise_within_unlabeled-requires-clause-arc g c = c.requires.claim.arc

pub raise_within_unlabeled-requires-clause-want : goal.raise_within_unlabeled-requires-clause-want
raise_within_unlabeled-requires-clause-want g c = c.requires.claim.want

pub raise_within_unlabeled-requires-clause-less : goal.raise_within_unlabeled-requires-clause-less
raise_within_unlabeled-requires-clause-less g c = c.requires.less

pub raise_within_unlabeled-requires-clause-held : goal.raise_within_unlabeled-requires-clause-held
raise_within_unlabeled-requires-clause-held g c = c.requires.held

pub raise_within_unlabeled-requires-clause-exit : goal.raise_within_unlabeled-requires-clause-exit
raise_within_unlabeled-requires-clause-exit g c = c.requires.claim.exit_arc

pub raise_within_unlabeled-requires-clause-tree : goal.raise_within_unlabeled-requires-clause-tree
raise_within_unlabeled-requires-clause-tree g c = c.requires.tree

pub raise_by_tree-pulled-requires-clause-arc : goal.raise_by_tree-pulled-requires-clause-arc
raise_by_tree-pulled-requires-clause-arc g c = c.requires.claim.arc

pub raise_by_tree-pulled-requires-clause-less : goal.raise_by_tree-pulled-requires-clause-less
raise_by_tree-pulled-requires-clause-less g c = c.requires.less

pub raise_by_tree-pulled-requires-clause-tree : goal.raise_by_tree-pulled-requires-clause-tree
raise_by_tree-pulled-requires-clause-tree g c = c.requires.tree
