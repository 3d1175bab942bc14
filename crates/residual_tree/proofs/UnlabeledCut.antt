-- The unlabeled nodes are the greatest tight cut of an arc that leads out of them.
use Rattle.std.proofs.Common.{ℕ, Bool, ◌≡◌, ◌≢◌, ◌-◌, ◌<◌, List, slice_index, arith, ap, sym, inl, inr, ◌∙◌}
use Rattle.std.proofs.lemmas.Bool.{cases_eq}
use Rattle.circulation.specs.Network.{IsGreatestCut}
use Rattle.circulation.specs.Contents.{Contents, network, flow_of, arcs, IsCirculation}
use Rattle.circulation.specs.Residual.{by_direction, end_of}
use Rattle.circulation.proofs.Overs.{IsOver, over_forward, over_backward}
use Rattle.circulation.proofs.Unmarked.{IsLedTo, greatest_unmarked}
use Rattle.residual_tree.specs.Tree.{label_of, IsLabeled, unlabeled}
use Rattle.residual_tree.specs.Repair.{HasSomeArtificial, HasArtificialStep}
use Rattle.residual_tree.proofs.Grows.{artificial_closed, artificial_marked}

-- a step from a node that is labeled to an unlabeled one has no room
no_room : {c : Contents} {labels : List ℕ} {artificial s a : ℕ} {back : Bool} →
    IsOver (network c) (flow_of c) s a back → HasArtificialStep c labels artificial → a < arcs c →
    IsLabeled labels (by_direction back (slice_index c.from a) (slice_index c.to a)) →
    label_of labels (by_direction back (slice_index c.to a) (slice_index c.from a)) ≡ 0 →
    by_direction back (slice_index c.upper a - flow_of c a) (flow_of c a - slice_index c.lower a) ≡ 0
no_room {c} {s = s} {a} {back} o t b m none =
    let step = rw (o.way, o.arc) at (artificial_closed s t) in
    elim (cases_eq (by_direction back (slice_index c.upper a - flow_of c a) (flow_of c a - slice_index c.lower a)) 0) [
      | inl empty ↦ empty
      | inr some ↦ absurd (omega (arith, step b (omega (arith, some)) m, none))
    ]

-- the step by which a basin node other than the head of the arc r is labeled
pub led_to : {c : Contents} {labels : List ℕ} {r : ℕ} (v : ℕ) (t : HasSomeArtificial c labels r) → v < c.nodes →
    IsLabeled labels v → v ≢ slice_index c.to r →
    IsLedTo (network c) (flow_of c) (label_of labels) t.tree.rank v (label_of labels v - 1)
led_to {c} v t b m ne =
    let branch = t.tree.branch v b m in
    record {
      arc = branch.arc;
      enters = branch.enters;
      marked = artificial_marked v t.tree b m;
      before = branch.before;
      room = elim (t.tree.room v b m) [
        | inl room ↦ room
        | inr artificial ↦ absurd (ne (sym branch.enters ∙ ap (end_of (network c)) artificial ∙ t.enters))
      ];
    }

-- where the head of an arc is labeled and its tail is not, the unlabeled nodes are its greatest tight cut
pub unlabeled_cut : {c : Contents} {labels : List ℕ} {r : ℕ} → IsCirculation c → HasSomeArtificial c labels r →
    r < arcs c → label_of labels (slice_index c.from r) ≡ 0 → IsLabeled labels (slice_index c.to r) →
    IsGreatestCut (network c) (flow_of c) r (unlabeled c labels)
unlabeled_cut {c} {labels} k t b none head = greatest_unmarked b k.ends k.flow record {
  outside = omega (arith, t.tree.root);
  shut = record {
    head = head;
    tail = none;
    full = λ a d from to. omega (arith, no_room (over_forward (network c) (flow_of c) a) t.tree d from to);
    empty = λ a d _ to from. omega (arith, no_room (over_backward (network c) (flow_of c) a) t.tree d to from);
  };
  rank = t.tree.rank;
  way = λ v inner m ne. (label_of labels v - 1, led_to v t inner m ne);
}
