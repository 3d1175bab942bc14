-- Nodes are freed, one after another.
use Rattle.std.proofs.Common.{ℕ, nat_lt, ◌≡◌, ◌≢◌, ◌+◌, ◌-◌, ◌^◌, ◌<◌, ◌≤◌, ◌⊎◌, List, length, replicate}
use Rattle.std.proofs.Common.{slice_index, slice_set, refl, arith, ap, sym, subst, inl, inr, ◌∙◌}
use Rattle.std.proofs.lemmas.Bool.{cases_eq, cases_lt}
use Rattle.std.proofs.lemmas.List.{get_or-set_other, get_or-set_same, length-set, length-replicate}
use Rattle.finite_sums.specs.Sums.{when}
use Rattle.finite_sums.proofs.Totals.{total_zero}
use Rattle.circulation.specs.Contents.{Contents, network, flow_of, arcs, step_of, IsCirculation}
use Rattle.circulation.specs.Residual.{arc_of, start_of, end_of, room_of}
use Rattle.residual_tree.specs.declared.TheConstants.{ROOT}
use Rattle.residual_tree.specs.Tree.{label_of, relabel, IsLabeled}
use Rattle.residual_tree.specs.Repair.{IsFreeing, IsSaturatedTree, IsWayIn}
use Rattle.residual_tree.specs.Adopting.{IsClear, IsAdopted, IsFreedNode}
use Rattle.circulation.proofs.Overs.{end_within}
use Rattle.circulation.proofs.Unmarked.{in_basin}
use Rattle.residual_tree.proofs.Packed.{step_small, length_relabel, label_same, label_other, label_none}
use Rattle.residual_tree.proofs.Adopts.{tree_adopt}
use Rattle.residual_tree.proofs.Changes.{count_most, count_freed, count_kept, occurs_more, occurs_here, occurs_or}
use Rattle.residual_tree.proofs.Changes.{freed_word, tree_free, tree_map}

-- a node with a step is a basin node
pub basin_end : {c : Contents} (labels : List ℕ) (s v : ℕ) → IsCirculation c → arc_of s < arcs c → v ≤ c.nodes →
    label_of labels c.nodes ≡ ROOT → label_of labels v ≡ s + 1 → v < c.nodes
basin_end {c} labels s v k b within root is =
    in_basin c.nodes (label_of labels) v within (λ e. omega (arith, k.shape.bounded_arcs, b, e, root, is))

-- what may be done by a step into the node v: it is freed, if it is labeled by the step
pub record FreesEnd (labels freed labels' freed' : List ℕ) (size size' s v : ℕ) : Type 0 where
  pub child : label_of labels v ≡ s + 1 →
      (size' ≡ size + 1) × (labels' ≡ relabel labels v 0 0) × (freed' ≡ slice_set freed size v)
  pub other : label_of labels v ≢ s + 1 → (size' ≡ size) × (labels' ≡ labels) × (freed' ≡ freed)

-- a step was tried: its end is no longer labeled by it, and no other word changed
pub record IsFreedEnd (c : Contents) (labels freed labels' freed' : List ℕ) (at last done size size' s : ℕ) : Type 0
  where
    pub larger : size ≤ size'
    pub same : (k : ℕ) → k < size → slice_index freed' k ≡ slice_index freed k
    pub words : (u s : ℕ) → label_of labels u ≢ s + 1 → label_of labels' u ≢ s + 1
    pub next : IsFreeing c labels' freed' at last done size'
    pub gone : label_of labels' (end_of (network c) s) ≢ s + 1

-- there is room for a node that is labeled among those freed
pub freeing_room : {c : Contents} {labels freed : List ℕ} {at last done size : ℕ} (s : ℕ) → IsCirculation c →
    arc_of s < arcs c →
    IsFreeing c labels freed at last done size → label_of labels (end_of (network c) s) ≡ s + 1 → size < length freed
freeing_room {c} {labels} s k b f is =
    let v = basin_end labels s (end_of (network c) s) k b (end_within c s k b) f.tree.root is in
    let long : end_of (network c) s < length labels = omega (arith, f.tree.words, v) in
    let count = count_freed c.nodes (end_of (network c) s) labels v long (omega (arith, is)) in
    omega (arith, count, f.bounded, f.places)

-- the child is freed
freed_child : {c : Contents} {labels freed : List ℕ} {at last done size : ℕ} (s : ℕ) → IsCirculation c →
    arc_of s < arcs c → IsFreeing c labels freed at last done size → label_of labels (end_of (network c) s) ≡ s + 1 →
    IsFreedEnd c labels freed (relabel labels (end_of (network c) s) 0 0) (slice_set freed size (end_of (network c) s))
    at last done size (size + 1) s
freed_child {c} {labels} {freed} {done} {size} s k b f is =
    let v = end_of (network c) s in
    let inner : v < c.nodes = basin_end labels s v k b (end_within c s k b) f.tree.root is in
    let long : v < length labels = omega (arith, f.tree.words, inner) in
    let room : size < length freed = freeing_room s k b f is in
    let order = f.order in
    let count = count_freed c.nodes v labels inner long (omega (arith, is)) in
    record {
      larger = omega arith;
      same = λ j d. get_or-set_other freed size j v 0 (λ e. absurd (omega (arith, d, e)));
      words = λ u t ne. elim (freed_word labels v u long) [
        | inl e ↦ λ same. absurd (omega (arith, e, same))
        | inr o ↦ λ same. ne (sym o.1 ∙ same)
      ];
      next = record {
        tree = tree_free v f.tree inner (λ u o. occurs_more v o) (occurs_here freed done size v order room)
            (λ u o. occurs_more v o) (occurs_here freed 0 size v (omega arith) room);
        order = omega (arith, order);
        places = length-set freed size v ∙ f.places;
        within = λ j d. elim (cases_eq j size) [
          | inl e ↦ omega (
            arith,
            ap (slice_index (slice_set freed size v)) e,
            get_or-set_same freed size v 0 room,
            inner,
          )
          | inr ne ↦ omega (arith, get_or-set_other freed size j v 0 ne, f.within j (omega arith))
        ];
        bounded = omega (arith, count, f.bounded);
      };
      gone = λ e. absurd (omega (arith, e, label_same labels v 0 0 long (omega arith)));
    }

-- a step was tried, and its end freed if it was labeled by it
pub freeing_end : {c : Contents} {labels freed labels' freed' : List ℕ} {at last done size size' s : ℕ} →
    IsCirculation c → arc_of s < arcs c → IsFreeing c labels freed at last done size →
    FreesEnd labels freed labels' freed' size size' s (end_of (network c) s) →
    IsFreedEnd c labels freed labels' freed' at last done size size' s
freeing_end {c} {labels} {s = s} k b f h = elim (cases_eq (label_of labels (end_of (network c) s)) (s + 1)) [
  | inl is ↦
      let e = h.child is in
      rw (e.1, e.2, e.0) (freed_child s k b f is)
  | inr ne ↦
      let e = h.other ne in
      rw (e.1, e.2, e.0)
      record { larger = omega arith; same = λ k b. refl; words = λ u s ne. ne; next = f; gone = ne }
]

-- a scratch word that names no step without room needs nothing: the next one follows
past_firm : {c : Contents} {labels freed : List ℕ} {at last done size s : ℕ} → s ≡ step_of c at →
    IsFreeing c labels freed at last done size → ((u : ℕ) → u < c.nodes → IsLabeled labels u →
    end_of (network c) (label_of labels u - 1) ≡ u → label_of labels u - 1 ≡ s → 0 < room_of (network c) (flow_of c)
    (label_of labels u - 1)) → IsFreeing c labels freed (at + 1) last done size
past_firm is f firm = record {
  tree = tree_map f.tree (λ u d m e o. elim (occurs_or o) [
    | inl here ↦ inl (firm u d m e (sym here ∙ sym is))
    | inr later ↦ inr later
  ])
      (λ u t d e b g o. o) (λ t b r m o. inr o);
  order = f.order;
  places = f.places;
  within = f.within;
  bounded = f.bounded;
}

-- a node that is adopted over another step is not freed
adopted_state : {c : Contents} {labels freed : List ℕ} {at last size v t : ℕ} → IsFreeing c labels freed at last 0
    size → v < c.nodes → IsLabeled labels v → t + 1 < 2 ^ 34 → IsWayIn c labels v t →
    IsClear c labels v (start_of (network c) t) →
    IsFreeing c (relabel labels v (t + 1) (start_of (network c) t)) freed at last 0 size
adopted_state {c} {labels} {v} {t} f b m small in_t clear = record {
  tree = tree_adopt f.tree b m small in_t clear;
  order = f.order;
  places = f.places;
  within = f.within;
  bounded = omega (
    arith,
    count_kept c.nodes v (t + 1) (start_of (network c) t) labels b (omega (arith, f.tree.words, b)) m (omega arith)
        small,
    f.bounded,
  );
}

-- a step has no room, and the node that is labeled by it is adopted over another one
adopted_next : {c : Contents} {labels freed labels' freed' : List ℕ} {at last size size' s : ℕ} → IsCirculation c →
    arc_of s < arcs c → s ≡ step_of c at → IsFreeing c labels freed at last 0 size →
    label_of labels (end_of (network c) s) ≡ s + 1 → IsAdopted c labels labels' freed freed' size size'
    (end_of (network c) s) → IsFreeing c labels' freed' (at + 1) last 0 size'
adopted_next {c} {labels} {s} k b is f on h =
    let v = end_of (network c) s in
    let t = h.step in
    let inner : v < c.nodes = basin_end labels s v k b (end_within c s k b) f.tree.root on in
    let long : v < length labels = omega (arith, f.tree.words, inner) in
    let small : t + 1 < 2 ^ 34 = step_small t k h.in_step.arc in
    let new : List ℕ = relabel labels v (t + 1) (start_of (network c) t) in
    let here : label_of new v ≡ t + 1 = label_same labels v (t + 1) (start_of (network c) t) long small in
    let adopted = adopted_state f inner (omega (arith, on)) small h.in_step h.clear in
    let next = past_firm is adopted (λ u d m e same.
    let node : u ≡ v = sym e ∙ ap (end_of (network c)) same in
    let own : label_of new u - 1 ≡ t = omega (arith, ap (label_of new) node, here) in
    subst (λ (x : ℕ). 0 < room_of (network c) (flow_of c) x) (sym own) h.in_step.room) in
    rw (h.words, h.same, h.none) next

-- a step has no room, and the node that it enters was freed if it was labeled by it
freed_next : {c : Contents} {labels freed labels' freed' : List ℕ} {at last size size' s : ℕ} → IsCirculation c →
    arc_of s < arcs c → s ≡ step_of c at → IsFreeing c labels freed at last 0 size →
    FreesEnd labels freed labels' freed' size size' s (end_of (network c) s) →
    IsFreeing c labels' freed' (at + 1) last 0 size'
freed_next {c} {labels' = labels'} {s = s} k b is f h =
    let done = freeing_end k b f h in
    past_firm is done.next (λ u d m e same. absurd (done.gone
    (ap (label_of labels') (sym (ap (end_of (network c)) same) ∙ e) ∙ omega (arith, m, same))))

-- a scratch word was tried: where its step has no room, the node labeled by it is adopted over another one or was freed
pub loosen_next : {c : Contents} {labels freed labels' freed' : List ℕ} {at last size size' s : ℕ} → IsCirculation c →
    arc_of s < arcs c → s ≡ step_of c at → IsFreeing c labels freed at last 0 size →
    (label_of labels (end_of (network c) s) ≡ s + 1 → room_of (network c) (flow_of c) s ≡ 0 →
    IsAdopted c labels labels' freed freed' size size' (end_of (network c) s) ⊎
    IsFreedNode labels labels' freed freed' size size' (end_of (network c) s)) →
    (label_of labels (end_of (network c) s) ≢ s + 1 → (size' ≡ size) × (labels' ≡ labels) × (freed' ≡ freed)) →
    (0 < room_of (network c) (flow_of c) s → (size' ≡ size) × (labels' ≡ labels) × (freed' ≡ freed)) →
    IsFreeing c labels' freed' (at + 1) last 0 size'
loosen_next {c} {labels} {s} k b is f saturated other firm =
    elim (cases_eq (room_of (network c) (flow_of c) s) 0) [
      | inl empty ↦ elim (cases_eq (label_of labels (end_of (network c) s)) (s + 1)) [
        | inl on ↦ elim (saturated on empty) [
          | inl adopted ↦ adopted_next k b is f on adopted
          | inr gone ↦
              freed_next k b is f record { child = λ e. (gone.more, gone.words, gone.last); other = other }
        ]
        | inr ne ↦ freed_next k b is f record { child = λ e. absurd (ne e); other = other }
      ]
      | inr some ↦
          let e = firm (omega arith) in
          let next = past_firm is f
          (λ u d m g same. subst (λ (x : ℕ). 0 < room_of (network c) (flow_of c) x) (sym same) (omega arith)) in
          rw (e.1, e.2, e.0) next
    ]

-- the steps that leave a freed node are tried, and by those tried before no child is labeled
pub record IsOrphaning (c : Contents) (labels freed : List ℕ) (at done size node : ℕ) : Type 0 where
  pub state : IsFreeing c labels freed at at done size
  pub occurs : slice_index freed done ≡ node
  pub order : done < size

-- one more step was tried
pub orphaning_next : {c : Contents} {labels freed labels' freed' : List ℕ} {at done size size' node s u : ℕ} →
    IsCirculation c → arc_of s < arcs c → IsOrphaning c labels freed at done size node → end_of (network c) s ≡ u →
    FreesEnd labels freed labels' freed' size size' s u →
    IsOrphaning c labels' freed' at done size' node × IsFreedEnd c labels freed labels' freed' at at done size size' s
orphaning_next {labels} {freed} {labels'} {freed'} {done = done} {size = size} {size' = size'} {s = s} k b o end h =
    let e = freeing_end k b o.state (subst (FreesEnd labels freed labels' freed' size size' s) (sym end) h) in (
      record { state = e.next; occurs = e.same done o.order ∙ o.occurs; order = omega (arith, o.order, e.larger) },
      e,
    )

-- all steps were tried: no child of the node is labeled
pub orphaning_end : {c : Contents} {labels freed : List ℕ} {at done size node : ℕ} →
    IsOrphaning c labels freed at done size node →
    ((s : ℕ) → arc_of s < arcs c → start_of (network c) s ≡ node → label_of labels (end_of (network c) s) ≢ s + 1) →
    IsFreeing c labels freed at at (done + 1) size
orphaning_end {labels} o gone = record {
  tree = tree_map o.state.tree (λ u d m e w. inr w) (λ u s d e b g w. elim (occurs_or w) [
    | inl here ↦ absurd (gone s b (sym here ∙ o.occurs) (ap (label_of labels) g ∙ e))
    | inr later ↦ later
  ])
      (λ t b r m w. inr w);
  order = omega (arith, o.order);
  places = o.state.places;
  within = o.state.within;
  bounded = o.state.bounded;
}

-- where only the outside is labeled, and all others are listed as freed, they are freed
pub felled : {c : Contents} (freed : List ℕ) → IsCirculation c → length freed ≡ c.nodes →
    ((v : ℕ) → v < c.nodes → slice_index freed v ≡ v) →
    IsFreeing c (relabel (replicate (c.nodes + 1) 0) c.nodes ROOT 0) freed 0 0 c.nodes c.nodes
felled {c} freed k places listed =
    let labels : List ℕ = relabel (replicate (c.nodes + 1) 0) c.nodes ROOT 0 in
    let long : length {A = ℕ} (replicate (c.nodes + 1) 0) ≡ c.nodes + 1 = length-replicate (c.nodes + 1) 0 in
    let root : label_of labels c.nodes ≡ ROOT =
    label_same (replicate (c.nodes + 1) 0) c.nodes ROOT 0 (omega (arith, long)) (omega arith) in
    let none_labeled = λ (v : ℕ) (b : v < c.nodes).
    label_other (replicate (c.nodes + 1) 0) c.nodes ROOT 0 v (λ e. absurd (omega (arith, b, e))) ∙
    label_none (c.nodes + 1) v in
    record {
      tree = record {
        words = length_relabel (replicate (c.nodes + 1) 0) c.nodes ROOT 0 ∙ long;
        root = root;
        rank = λ v. 0;
        branch = λ v b m. absurd (omega (arith, none_labeled v b, m));
        room = λ v b m. absurd (omega (arith, none_labeled v b, m));
        closed = λ s b r m. elim (cases_lt (end_of (network c) s) c.nodes) [
          | inl inner ↦ inr (inl record {
            place = end_of (network c) s;
            from = omega arith;
            below = inner;
            is = listed (end_of (network c) s) inner;
          })
          | inr outer ↦
              let within = end_within c s k b in
              let e : end_of (network c) s ≡ c.nodes = omega arith in
              inl (omega (arith, ap (label_of labels) e, root))
        ];
      };
      order = omega arith;
      places = places;
      within = λ v b. omega (arith, listed v b, b);
      bounded = omega (
        arith,
        total_zero c.nodes (λ v. when (nat_lt 0 (label_of labels v)) 1)
            (λ v b. ap (λ (x : ℕ). when (nat_lt 0 x) 1) (none_labeled v b)),
      );
    }

-- a saturated tree is one of which nothing was freed
pub freeing_start : {c : Contents} {labels : List ℕ} (freed : List ℕ) {first last : ℕ} →
    IsSaturatedTree c labels first last → length freed ≡ c.nodes → IsFreeing c labels freed first last 0 0
freeing_start {c} {labels} freed t places = record {
  tree = tree_map t (λ u d m e o. inr o) (λ u s d e b g o. absurd o)
      (λ s b r m o. elim o [ inl free ↦ absurd free | inr unscanned ↦ absurd unscanned ]);
  order = omega arith;
  places = places;
  within = λ k b. absurd (omega arith);
  bounded = omega (arith, count_most c.nodes labels);
}
