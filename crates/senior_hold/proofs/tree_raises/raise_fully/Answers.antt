use Rattle.std.proofs.Common.{◌≡◌, ◌≢◌, ◌∙◌, ◌+◌, ◌*◌, true, false, not, length, slice_index, refl, arith, ap, subst}
use Rattle.std.proofs.Common.{inl, inr, sym}
use denote.Enum.Bare.{sameb}
use Rattle.residual_tree.specs.declared.raising.TreeRaised.{TreeRaised}
use Rattle.residual_tree.specs.contracts.TreeRaised.{the_type}
use Rattle.residual_tree.specs.Raised.{IsExit}
use Rattle.residual_tree.proofs.Grows.{artificial_some}
use Rattle.residual_tree.proofs.Rounds.{hold_is, raised_more}
use Rattle.circulation.specs.Contents.{Contents}
use Rattle.senior_hold.specs.Serving.{IsTreeRaise}
use Rattle.senior_hold.specs.declared.serving.Claim.{Claim}
use Rattle.senior_hold.proofs.tree_raises.raise_fully.Goals as goal

unfinished : (r : TreeRaised) → not (sameb the_type r TreeRaised.Unfinished) ≡ false → r ≡ TreeRaised.Unfinished
unfinished TreeRaised.Unfinished h = refl
unfinished TreeRaised.Met h = cc
unfinished TreeRaised.Stopped h = cc

not_unlabeled : (r : TreeRaised) → r ≡ TreeRaised.Unfinished → r ≢ TreeRaised.Stopped
not_unlabeled r e = λ f. let both : TreeRaised.Unfinished ≡ TreeRaised.Stopped = sym e ∙ f in cc (both)

-- one raise after another is one raise
raised_again : {old mid new : Contents} {x : Claim} → IsTreeRaise old mid x → IsTreeRaise mid new x →
    IsTreeRaise old new x
raised_again {old} {mid} {new} {x} first next = record {
  kept = next.kept;
  rest = raised_more old mid new x.arc first.rest next.rest;
  held = next.held;
  rises = omega (arith, first.rises, next.rises);
  limit = next.limit;
}

finished : (r : TreeRaised) → not (sameb the_type r TreeRaised.Unfinished) ≡ true → r ≢ TreeRaised.Unfinished
finished TreeRaised.Unfinished h = cc
finished TreeRaised.Met h = λ e. cc (e)
finished TreeRaised.Stopped h = λ e. cc (e)

pub raise_take-requires : goal.raise_take-requires
raise_take-requires g c =
    let hold = hold_is c.args.claim.arc c.flow-flow.ensures.kept c.requires.claim.arc c.flow-flow.ensures.amount
    c.hold.ensures.held in
    let rest = hold.rest.rest in
    record {
      arc = omega (arith, c.requires.claim.arc, ap (λ (x : Contents). length x.from) rest);
      want = omega (arith, c.requires.claim.want, ap (λ (x : Contents). slice_index x.upper c.args.claim.arc) rest);
      less = omega (arith, c.if-flow-claim.true, c.flow-flow.ensures.amount, hold.raised);
      held = hold.held;
      out = sym c.ends.ensures.to ∙ (c.if-ends-nodes.true ∙ c.nodes.ensures.number);
      tree = c.hold.ensures.tree;
    }

pub returns-then-ends-nodes : goal.returns-then-ends-nodes
returns-then-ends-nodes g c =
    let hold = hold_is c.args.claim.arc c.flow-flow.ensures.kept c.requires.claim.arc c.flow-flow.ensures.amount
    c.hold.ensures.held in
    let done = c.raise_take.ensures in
    record {
      raised = record {
        kept = done.kept;
        rest = raised_more c.args.circ.now c.hold.new.circ c.raise_take.new.circ c.args.claim.arc hold.rest done.rest;
        held = done.held;
        rises = omega (arith, hold.raised, done.rises);
        limit = done.limit;
      };
      met = λ _. done.met;
      leaves = record {
        tree = λ _. done.tree;
        artificial = λ is. artificial_some c.raise_take.new.circ c.raise_take.new.tree (2 * c.args.claim.exit + 1)
            done.tree;
        cut = done.cut;
      };
      cost = done.cost;
      used = inl done.used;
      gave_up = λ is. inl (done.unfinished is);
    }

pub loop-pushes-init : goal.loop-pushes-init
loop-pushes-init g c =
    let hold = hold_is c.args.claim.arc c.flow-flow.ensures.kept c.requires.claim.arc c.flow-flow.ensures.amount
    c.hold.ensures.held in
    record {
      raised = record {
        kept = c.hold.ensures.kept;
        rest = hold.rest;
        held = hold.held;
        rises = omega (arith, hold.raised);
        limit = omega (arith, hold.raised, c.requires.less);
      };
      tree = c.hold.ensures.tree;
      left = omega arith;
      cost = omega arith;
      used = inl (omega arith);
    }

pub raise_once-pulled-requires : goal.raise_once-pulled-requires
raise_once-pulled-requires g c =
    let inv = c.loop-pushes.invariant in
    let rest = inv.raised.rest.rest in
    let arcs = ap (λ (x : Contents). length x.from) rest in
    record {
      claim = record {
        arc = omega (arith, c.requires.claim.arc, arcs);
        want = omega (arith, c.requires.claim.want, ap (λ (x : Contents). slice_index x.upper c.args.claim.arc) rest);
        limit = c.requires.claim.limit;
        exit_arc = omega (arith, c.requires.claim.exit_arc, arcs);
        exit = subst (λ (x : Contents). IsExit x c.args.claim.arc c.args.claim.exit) (sym rest) c.requires.claim.exit;
      };
      less = inv.raised.limit;
      held = inv.raised.held;
      tree = inv.tree;
    }

pub returns-then-ne : goal.returns-then-ne
returns-then-ne g c =
    let inv = c.loop-pushes.invariant in
    let once = c.raise_once-pulled in
    let done = once.ensures in
    record {
      raised = raised_again inv.raised done.raised;
      met = λ _. done.met;
      leaves = done.leaves;
      cost = omega (arith, inv.cost, inv.left, done.cost, c.loop-pushes-test.true);
      used = elim inv.used [
        | inr before ↦ inr before
        | inl each ↦ inl (omega (arith, each, inv.left, done.count, c.loop-pushes-test.true))
      ];
      gave_up = λ is. absurd (finished once.result (sym c.ne.ensures ∙ c.if-ne.true) is);
    }

pub returns : goal.returns
returns g c =
    let inv = c.loop-pushes.invariant in
    record {
      raised = inv.raised;
      met = λ differs. absurd (differs refl);
      leaves = record {
        tree = λ _. inv.tree;
        artificial = λ is. absurd (not_unlabeled TreeRaised.Unfinished refl is);
        cut = λ is. absurd (not_unlabeled TreeRaised.Unfinished refl is);
      };
      cost = omega (arith, inv.cost, inv.left);
      used = elim inv.used [ inr before ↦ inr before | inl each ↦ inl (omega (arith, each, inv.left)) ];
      gave_up = λ _. elim inv.used [
        | inr before ↦ inr before
        | inl each ↦ inl (omega (arith, each, c.loop-pushes-test.false))
      ];
    }

pub loop-pushes-preserved : goal.loop-pushes-preserved
loop-pushes-preserved g c =
    let inv = c.loop-pushes.invariant in
    let once = c.raise_once-pulled in
    let is = unfinished once.result (sym c.ne.ensures ∙ c.if-ne.false) in
    let raised = raised_again inv.raised once.ensures.raised in
    record {
      raised = raised;
      tree = once.ensures.leaves.tree (not_unlabeled once.result is);
      left = omega (arith, inv.left, c.loop-pushes-test.true);
      cost = omega (arith, inv.cost, once.ensures.cost);
      used = elim inv.used [
        | inr before ↦ inr before
        | inl each ↦ elim (once.ensures.unfinished is) [
          | inl pushed ↦ inl (omega (arith, each, pushed))
          | inr full ↦ inr record { then = once.new.circ; kept = raised.kept; rest = raised.rest; full = full }
        ]
      ];
    }
