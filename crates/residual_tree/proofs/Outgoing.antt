-- The tree grows from the outside, where no other node is labeled.
use Rattle.std.proofs.Common.{ℕ, ◌≡◌, ◌+◌, ◌<◌, ◌⊎◌, List, [], length, replicate, slice_set, refl}
use Rattle.std.proofs.Common.{arith, sym, subst, inl, inr}
use Rattle.std.specs.List.{range_with_len}
use Rattle.std.proofs.lemmas.Bool.{cases_eq}
use Rattle.std.proofs.lemmas.List.FromFn.{length-range_with_len, get_or-range_with_len}
use Rattle.circulation.specs.Contents.{Contents, network, arcs, IsCirculation}
use Rattle.circulation.specs.Residual.{arc_of, start_of, end_of}
use Rattle.residual_tree.specs.declared.TheConstants.{ROOT}
use Rattle.residual_tree.specs.Tree.{relabel, IsLabeled}
use Rattle.residual_tree.specs.Repair.{OccursIn, no_step, IsGrowing}
use Rattle.residual_tree.proofs.Packed.{step_small, label_other, label_none}
use Rattle.residual_tree.proofs.Changes.{occurs_more, occurs_here, tree_map}
use Rattle.residual_tree.proofs.Frees.{felled}
use Rattle.residual_tree.proofs.Grows.{growing_start, growing_room, growing_attach, LabelsEnd, IsTriedStep, tried_next}
use Rattle.residual_tree.proofs.Grows.{IsTried}

-- the words where the outside alone is labeled
abbrev pub bare : Contents → List ℕ
bare c = relabel (replicate (c.nodes + 1) 0) c.nodes ROOT 0

-- each basin node counts as freed, and those that are labeled stand in the queue
pub record IsOutgoing (c : Contents) (labels queue : List ℕ) (size : ℕ) : Type 0 where
  pub grows : IsGrowing c (no_step c) labels (range_with_len 0 c.nodes) queue 0 c.nodes 0 size
  pub fresh : (u : ℕ) → IsLabeled labels u → (u ≡ c.nodes) ⊎ OccursIn queue 0 size u

-- no other node is labeled
bare_labeled : (c : Contents) (u : ℕ) → IsLabeled (bare c) u → u ≡ c.nodes
bare_labeled c u m = elim (cases_eq u c.nodes) [
  | inl is ↦ is
  | inr ne ↦
      let other = label_other (replicate (c.nodes + 1) 0) c.nodes ROOT 0 u ne in
      absurd (omega (arith, other, label_none (c.nodes + 1) u, m))
]

-- before the first step
pub outgoing_start : {c : Contents} {labels : List ℕ} (queue : List ℕ) → IsCirculation c → length queue ≡ c.nodes →
    labels ≡ bare c → IsOutgoing c labels queue 0
outgoing_start {c} queue k places is =
    subst (λ (x : List ℕ). IsOutgoing c x queue 0) (sym is) record {
      grows = growing_start queue places (felled (range_with_len 0 c.nodes) k (length-range_with_len 0 c.nodes)
          (λ v b. omega (arith, get_or-range_with_len 0 c.nodes v 0 b)));
      fresh = λ u m. inl (bare_labeled c u m);
    }

-- one more step was tried
pub outgoing_next : {c : Contents} {labels queue labels' queue' : List ℕ} {size size' s : ℕ} → IsCirculation c →
    IsOutgoing c labels queue size → arc_of s < arcs c → start_of (network c) s ≡ c.nodes →
    LabelsEnd c labels queue labels' queue' size size' s → IsTriedStep c (IsOutgoing c) labels labels' queue' size' s
outgoing_next {c} {labels} {queue} {size = size} {s = s} k p b starts h =
    let v = end_of (network c) s in
    tried_next (IsOutgoing c) k b p.grows.tree.words p.grows.tree.root p (λ inner unlabeled room. record {
      grows = growing_attach v s inner p.grows unlabeled (step_small s k b) record {
        arc = b;
        enters = refl;
        marked = subst (λ (u : ℕ). IsLabeled labels u) (sym starts) (omega (arith, p.grows.tree.root));
        room = inl room;
      };
      fresh = λ u m. elim (cases_eq u v) [
        | inl e ↦ inr (subst (OccursIn (slice_set queue size v) 0 (size + 1)) (sym e)
            (occurs_here queue 0 size v (omega arith) (growing_room v inner p.grows unlabeled)))
        | inr ne ↦ elim (p.fresh u (omega (arith, label_other labels v (s + 1) (start_of (network c) s) u ne, m))) [
          | inl outer ↦ inl outer
          | inr before ↦ inr (occurs_more v before)
        ]
      ];
    }) h

-- all steps from the outside were tried
pub outgoing_end : {c : Contents} {labels queue : List ℕ} {size : ℕ} → IsOutgoing c labels queue size →
    ((s : ℕ) → arc_of s < arcs c → start_of (network c) s ≡ c.nodes → IsTried c labels s) →
    IsGrowing c (no_step c) labels [] queue 0 0 0 size
outgoing_end {c} p tried = record {
  tree = tree_map p.grows.tree (λ u d m e o. inr o) (λ u s d e b f o. o)
      (λ s b r m o. elim (p.fresh (start_of (network c) s) m) [
        | inl outer ↦ inl (tried s b outer r)
        | inr unscanned ↦ inr (inr unscanned)
      ]);
  order = p.grows.order;
  places = p.grows.places;
  within = λ k b. absurd (omega arith);
  marked = p.grows.marked;
  bounded = p.grows.bounded;
}
