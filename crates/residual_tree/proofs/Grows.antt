-- Freed nodes are labeled again.
use Rattle.std.proofs.Common.{ℕ, ◌≢◌, ◌≡◌, ◌+◌, ◌-◌, ◌*◌, ◌^◌, ◌<◌, ◌≤◌, List, [], length, slice_index, slice_set, refl}
use Rattle.std.proofs.Common.{arith, ap, sym, subst, inl, inr, ◌∙◌}
use Rattle.std.proofs.lemmas.Bool.{cases_eq}
use Rattle.std.proofs.lemmas.List.{get_or-set_other, get_or-set_same, length-set}
use Rattle.circulation.specs.Contents.{Contents, network, flow_of, arcs, step_of, IsCirculation}
use Rattle.circulation.specs.Residual.{arc_of, start_of, end_of, room_of}
use Rattle.residual_tree.specs.declared.TheConstants.{ROOT}
use Rattle.residual_tree.specs.Tree.{label_of, relabel, IsLabeled, IsResidualTree}
use Rattle.residual_tree.specs.Repair.{none, only, no_step, IsFreeing, IsGrowing, HasArtificialStep}
use Rattle.residual_tree.specs.Repair.{IsSaturatedTree}
use Rattle.residual_tree.proofs.Packed.{step_small, label_same}
use Rattle.residual_tree.proofs.Changes.{count_most, count_attached, occurs_more, occurs_here, occurs_or}
use Rattle.residual_tree.proofs.Changes.{occurs_nowhere, IsLooseWay, labeled_still, tree_attach, tree_map}
use Rattle.circulation.proofs.Overs.{over_backward, end_within}
use Rattle.circulation.proofs.Unmarked.{in_basin}

-- nothing is in none
pub no_none : (u : ℕ) → none u → ⊥
no_none u h = h

-- a tree whose freed nodes have no child left grows
pub growing_start : {c : Contents} {labels freed : List ℕ} (queue : List ℕ) {at count : ℕ} → length queue ≡ c.nodes →
    IsFreeing c labels freed at at count count → IsGrowing c (no_step c) labels freed queue 0 count 0 0
growing_start {c} {labels} {freed} queue {at} {count} long f = record {
  tree = tree_map f.tree (λ u d m e o. occurs_nowhere c.scratch at at (label_of labels u - 1) o (omega arith))
      (λ u s d e b g o. occurs_nowhere freed count count (start_of (network c) s) o (omega arith))
      (λ s b r m o. elim o [ inl free ↦ inr (inl free) | inr unscanned ↦ absurd unscanned ]);
  order = omega arith;
  places = long;
  within = f.within;
  marked = λ k b. absurd (omega arith);
  bounded = omega arith;
}

-- a step by which a node may be labeled, with room unless it is the artificial one
abbrev pub IsArtificialWay : Contents → ℕ → List ℕ → ℕ → ℕ → Type 0
IsArtificialWay c artificial labels v s = IsLooseWay c labels (only artificial) v s

-- there is room for an unlabeled node in the queue
pub growing_room : {c : Contents} {artificial : ℕ} {labels freed queue : List ℕ} {next count done size : ℕ} (v : ℕ) →
    v < c.nodes →
    IsGrowing c artificial labels freed queue next count done size → label_of labels v ≡ 0 → size < length queue
growing_room {c} {labels} v b g unlabeled =
    let long : v < length labels = omega (arith, g.tree.words, b) in
    let one = count_attached c.nodes v 1 0 labels b long unlabeled (omega arith) (omega arith) in
    omega (arith, one, count_most c.nodes (relabel labels v 1 0), g.bounded, g.places)

-- one more node is labeled
pub growing_attach : {c : Contents} {artificial : ℕ} {labels freed queue : List ℕ} {next count done size : ℕ} (v s : ℕ)
    → v < c.nodes → IsGrowing c artificial labels freed queue next count done size → label_of labels v ≡ 0 →
    s + 1 < 2 ^ 34 → IsArtificialWay c artificial labels v s →
    IsGrowing c artificial (relabel labels v (s + 1) (start_of (network c) s)) freed (slice_set queue size v) next count
    done (size + 1)
growing_attach {c} {labels} {queue} {done} {size} v s b g unlabeled small in_s =
    let long : v < length labels = omega (arith, g.tree.words, b) in
    let room : size < length queue = growing_room v b g unlabeled in
    let order = g.order in
    let start : ℕ = start_of (network c) s in
    let here = label_same labels v (s + 1) start long small in
    record {
      tree = tree_attach g.tree no_none b unlabeled small in_s
          (λ u o. occurs_more v o) (occurs_here queue done size v order room);
      order = omega (arith, order);
      places = length-set queue size v ∙ g.places;
      within = g.within;
      marked = λ k d. elim (cases_eq k size) [
        | inl e ↦
            let is : slice_index (slice_set queue size v) k ≡ v =
            ap (slice_index (slice_set queue size v)) e ∙ get_or-set_same queue size v 0 room in (
              omega (arith, is, b),
              subst (λ (u : ℕ). IsLabeled (relabel labels v (s + 1) start) u) (sym is) (omega (arith, here)),
            )
        | inr ne ↦
            let is : slice_index (slice_set queue size v) k ≡ slice_index queue k =
            get_or-set_other queue size k v 0 ne in
            let was = g.marked k (omega arith) in (
              omega (arith, is, was.0),
              subst (λ (u : ℕ). IsLabeled (relabel labels v (s + 1) start) u) (sym is)
                  (labeled_still labels v (s + 1) start (slice_index queue k) unlabeled was.1),
            )
      ];
      bounded = omega (
        arith,
        count_attached c.nodes v (s + 1) start labels b long unlabeled (omega arith) small,
        g.bounded,
      );
    }

-- what a step with room enters is labeled
abbrev pub IsTried : Contents → List ℕ → ℕ → Type 0
IsTried c labels s = 0 < room_of (network c) (flow_of c) s → IsLabeled labels (end_of (network c) s)

-- an unlabeled end of a step is a basin node
pub inner_end : {c : Contents} (labels : List ℕ) (s : ℕ) → IsCirculation c → arc_of s < arcs c →
    label_of labels c.nodes ≡ ROOT → label_of labels (end_of (network c) s) ≡ 0 → end_of (network c) s < c.nodes
inner_end {c} labels s k b root unlabeled =
    in_basin c.nodes (label_of labels) _ (end_within c s k b) (λ e. omega (arith, e, unlabeled, root))

-- what may be done by a step: its end is labeled and put into the queue, if it is unlabeled and the step has room
pub record LabelsEnd (c : Contents) (labels queue labels' queue' : List ℕ) (size size' s : ℕ) : Type 0 where
  pub fresh : label_of labels (end_of (network c) s) ≡ 0 → 0 < room_of (network c) (flow_of c) s →
      (size' ≡ size + 1) × (labels' ≡ relabel labels (end_of (network c) s) (s + 1) (start_of (network c) s)) ×
      (queue' ≡ slice_set queue size (end_of (network c) s))
  pub seen : IsLabeled labels (end_of (network c) s) → (size' ≡ size) × (labels' ≡ labels) × (queue' ≡ queue)
  pub full : room_of (network c) (flow_of c) s ≡ 0 → (size' ≡ size) × (labels' ≡ labels) × (queue' ≡ queue)

-- a step was tried
pub record IsTriedStep (c : Contents) (State : List ℕ → List ℕ → ℕ → Type 0) (labels labels' queue' : List ℕ)
    (size' s : ℕ) : Type 0
  where
    pub next : State labels' queue' size'
    pub more : (u : ℕ) → IsLabeled labels u → IsLabeled labels' u
    pub here : IsTried c labels' s

-- nothing is to be labeled by the step
tried_already : {c : Contents} (State : List ℕ → List ℕ → ℕ → Type 0) {labels queue labels' queue' : List ℕ}
    {size size' : ℕ} (s : ℕ) → State labels queue size → IsTried c labels s →
    (size' ≡ size) × (labels' ≡ labels) × (queue' ≡ queue) → IsTriedStep c State labels labels' queue' size' s
tried_already State s p tried e = rw (e.1, e.2, e.0) record { next = p; more = λ u m. m; here = tried }

-- what stands of the words, the queue and its size still stands after a step, if it does where the end is labeled
pub tried_next : {c : Contents} (State : List ℕ → List ℕ → ℕ → Type 0) {labels queue labels' queue' : List ℕ}
    {size size' s : ℕ} → IsCirculation c → arc_of s < arcs c → length labels ≡ c.nodes + 1 →
    label_of labels c.nodes ≡ ROOT → State labels queue size → (end_of (network c) s < c.nodes →
    label_of labels (end_of (network c) s) ≡ 0 → 0 < room_of (network c) (flow_of c) s →
    State (relabel labels (end_of (network c) s) (s + 1) (start_of (network c) s))
    (slice_set queue size (end_of (network c) s)) (size + 1)) →
    LabelsEnd c labels queue labels' queue' size size' s → IsTriedStep c State labels labels' queue' size' s
tried_next {c} State {labels} {s = s} k b words root p attached h =
    let v = end_of (network c) s in
    elim (cases_eq (label_of labels v) 0) [
      | inl unlabeled ↦ elim (cases_eq (room_of (network c) (flow_of c) s) 0) [
        | inl none ↦ tried_already State s p (λ r. absurd (omega (arith, none, r))) (h.full none)
        | inr some ↦
            let e = h.fresh unlabeled (omega arith) in
            let inner : v < c.nodes = inner_end labels s k b root unlabeled in
            rw (e.1, e.2, e.0) record {
              next = attached inner unlabeled (omega arith);
              more = λ u m. labeled_still labels v (s + 1) (start_of (network c) s) u unlabeled m;
              here = λ r. omega (
                arith,
                label_same labels v (s + 1) (start_of (network c) s) (omega (arith, words, inner)) (step_small s k b),
              );
            }
      ]
      | inr ne ↦
          let labeled : IsLabeled labels v = omega arith in
          tried_already State s p (λ r. labeled) (h.seen labeled)
    ]

-- the steps that leave a node that is labeled are tried
pub record IsSpreading (c : Contents) (artificial : ℕ) (labels queue : List ℕ) (done size node : ℕ) : Type 0 where
  pub state : IsGrowing c artificial labels [] queue 0 0 done size
  pub occurs : slice_index queue done ≡ node
  pub order : done < size
  pub labeled : IsLabeled labels node

-- one more step was tried
pub spreading_next : {c : Contents} {artificial : ℕ} {labels queue labels' queue' : List ℕ}
    {done size size' node s : ℕ} →
    IsCirculation c → IsSpreading c artificial labels queue done size node → arc_of s < arcs c →
    start_of (network c) s ≡ node → LabelsEnd c labels queue labels' queue' size size' s →
    IsTriedStep c (λ ls q n. IsSpreading c artificial ls q done n node) labels labels' queue' size' s
spreading_next {c} {artificial} {labels} {queue} {done = done} {size = size} {node = node} {s = s} k p b starts h =
    let v = end_of (network c) s in
    tried_next (λ ls q n. IsSpreading c artificial ls q done n node) k b p.state.tree.words p.state.tree.root p
    (λ inner unlabeled room. record {
      state = growing_attach v s inner p.state unlabeled (step_small s k b) record {
        arc = b;
        enters = refl;
        marked = subst (λ (u : ℕ). IsLabeled labels u) (sym starts) p.labeled;
        room = inl room;
      };
      occurs = get_or-set_other queue size done v 0 (let o = p.order in λ e. absurd (omega (arith, e))) ∙ p.occurs;
      order = omega (arith, p.order);
      labeled = labeled_still labels v (s + 1) (start_of (network c) s) node unlabeled p.labeled;
    }) h

-- all steps of the node were tried
pub spreading_end : {c : Contents} {artificial : ℕ} {labels queue : List ℕ} {done size node : ℕ} →
    IsSpreading c artificial labels queue done size node →
    ((s : ℕ) → arc_of s < arcs c → start_of (network c) s ≡ node → IsTried c labels s) →
    IsGrowing c artificial labels [] queue 0 0 (done + 1) size
spreading_end p tried = record {
  tree = tree_map p.state.tree (λ u d m e o. inr o) (λ u s d e b f o. o) (λ s b r m o. elim o [
    | inl free ↦ inr (inl free)
    | inr unscanned ↦ elim (occurs_or unscanned) [
      | inl here ↦ inl (tried s b (sym here ∙ p.occurs) r)
      | inr later ↦ inr (inr later)
    ]
  ]);
  order = omega (arith, p.order);
  places = p.state.places;
  within = p.state.within;
  marked = p.state.marked;
  bounded = p.state.bounded;
}

-- the node before a node in a tree with an artificial step
pub artificial_marked : {c : Contents} {labels : List ℕ} {artificial : ℕ} (v : ℕ) →
    HasArtificialStep c labels artificial → v < c.nodes → IsLabeled labels v →
    IsLabeled labels (start_of (network c) (label_of labels v - 1))
artificial_marked v t b m = elim (t.branch v b m).marked
    [ inl labeled ↦ labeled | inr o ↦ absurd o ]

-- a tree with an artificial step is closed
pub artificial_closed : {c : Contents} {labels : List ℕ} {artificial : ℕ} (s : ℕ) →
    HasArtificialStep c labels artificial → arc_of s < arcs c →
    0 < room_of (network c) (flow_of c) s → IsLabeled labels (start_of (network c) s) →
    IsLabeled labels (end_of (network c) s)
artificial_closed s t b room m = elim (t.closed s b room m) [
  | inl labeled ↦ labeled
  | inr o ↦ elim o [ inl free ↦ absurd free | inr unscanned ↦ absurd unscanned ]
]

-- a tree in which no step is artificial
pub artificial_none : {c : Contents} {labels : List ℕ} → HasArtificialStep c labels (no_step c) →
    IsResidualTree c labels
artificial_none t = record {
  words = t.words;
  root = t.root;
  rank = t.rank;
  branch = λ v b m.
      let was = t.branch v b m in
      record {
        arc = was.arc;
        enters = was.enters;
        marked = artificial_marked v t b m;
        before = was.before;
        room = elim (t.room v b m) [ inl room ↦ room | inr o ↦ absurd (omega (arith, was.arc, o)) ];
        predecessor = was.predecessor;
      };
  closed = λ s b r m. artificial_closed s t b r m;
}

-- a tree in which all steps have room
pub artificial_some : (c : Contents) (labels : List ℕ) (artificial : ℕ) → IsResidualTree c labels →
    HasArtificialStep c labels artificial
artificial_some c labels artificial t = record {
  words = t.words;
  root = t.root;
  rank = t.rank;
  branch = λ v b m.
      let was = t.branch v b m in
      record {
        arc = was.arc;
        enters = was.enters;
        before = was.before;
        marked = inl was.marked;
        predecessor = was.predecessor;
      };
  room = λ v b m. inl (t.branch v b m).room;
  closed = λ s b r m. inl (t.closed s b r m);
}

-- the head of an arc is labeled by an artificial step
pub lend_start : {c : Contents} {labels : List ℕ} (queue : List ℕ) (v s : ℕ) → IsResidualTree c labels →
    length queue ≡ c.nodes → v < c.nodes → label_of labels v ≡ 0 → s + 1 < 2 ^ 34 → arc_of s < arcs c →
    end_of (network c) s ≡ v → start_of (network c) s ≡ c.nodes →
    IsGrowing c s (relabel labels v (s + 1) (start_of (network c) s)) [] (slice_set queue 0 v) 0 0 0 1
lend_start {c} {labels} queue v s t places b unlabeled small arc enters starts =
    growing_attach v s b record {
      tree = tree_map (artificial_some c labels s t) (λ u d m e o. inr o) (λ u x d e f g o. o)
          (λ x d r m o. elim o [ inl free ↦ absurd free | inr unscanned ↦ absurd unscanned ]);
      order = omega arith;
      places = places;
      within = λ k d. absurd (omega arith);
      marked = λ k d. absurd (omega arith);
      bounded = omega arith;
    } unlabeled small record {
      arc = arc;
      enters = enters;
      marked = subst (λ (u : ℕ). IsLabeled labels u) (sym starts) (omega (arith, t.root));
      room = inr refl;
    }

-- no more nodes are labeled than there are
pub queue_short : {c : Contents} {artificial : ℕ} {labels freed queue : List ℕ} {next count done size : ℕ} →
    IsGrowing c artificial labels freed queue next count done size → size ≤ c.nodes
queue_short {c} {labels} g = omega (arith, g.bounded, count_most c.nodes labels)

-- the tail of an exit was labeled back over it
pub record IsLending (c : Contents) (labels queue : List ℕ) (x size : ℕ) : Type 0 where
  pub artificial : label_of labels (slice_index queue 0) - 1 ≡ 2 * x + 1
  pub labeled : IsLabeled labels (slice_index c.from x)
  pub grows : IsGrowing c (label_of labels (slice_index queue 0) - 1) labels [] queue 0 0 0 size

-- the artificial step is that of the first node in the queue
pub lending : {c : Contents} {labels : List ℕ} (queue : List ℕ) {labels' queue' : List ℕ} (x : ℕ) {v s start size : ℕ} →
    IsCirculation c → IsResidualTree c labels → length queue ≡ c.nodes → x < arcs c → slice_index c.to x ≡ c.nodes →
    label_of labels (slice_index c.from x) ≡ 0 → v ≡ slice_index c.from x → s ≡ 2 * x + 1 →
    start ≡ c.nodes → labels' ≡ relabel labels v (s + 1) start → queue' ≡ slice_set queue 0 v → size ≡ 1 →
    IsLending c labels' queue' x size
lending {c} {labels} queue {labels'} {queue'} x {s} {start} k t places b out unlabeled node step outside made made'
    one =
    let o = over_backward (network c) (flow_of c) x in
    let within = k.ends.from_in x b in
    let ne : slice_index c.from x ≢ c.nodes = λ e. k.ends.apart x b (e ∙ sym out) in
    let inner : slice_index c.from x < c.nodes = omega (arith, within, ne) in
    let leaves = o.starts ∙ out in
    let way_is = made ∙ ap (λ (u : ℕ). relabel labels u (s + 1) start) node
    ∙ ap (λ (n : ℕ). relabel labels (slice_index c.from x) (n + 1) start) step
    ∙ ap (relabel labels (slice_index c.from x) (2 * x + 1 + 1)) (outside ∙ sym leaves) in
    let arc : arc_of (2 * x + 1) < arcs c = omega (arith, o.arc, b) in
    let small : 2 * x + 1 + 1 < 2 ^ 34 = step_small (2 * x + 1) k arc in
    let queue_is = made' ∙ ap (λ (u : ℕ). slice_set queue 0 u) node in
    let first : slice_index queue' 0 ≡ slice_index c.from x =
    ap (λ (xs : List ℕ). slice_index xs 0) queue_is
    ∙ get_or-set_same queue 0 (slice_index c.from x) 0 (omega (arith, places, inner)) in
    let own : label_of labels' (slice_index c.from x) ≡ 2 * x + 1 + 1 =
    ap (λ (xs : List ℕ). label_of xs (slice_index c.from x)) way_is
    ∙ label_same labels (slice_index c.from x) (2 * x + 1 + 1) (start_of (network c) (2 * x + 1))
    (omega (arith, t.words, inner)) small in
    let is : label_of labels' (slice_index queue' 0) - 1 ≡ 2 * x + 1 = omega (arith, ap (label_of labels') first, own)
    in
    let grows = lend_start queue (slice_index c.from x) (2 * x + 1) t places inner unlabeled small arc o.enters leaves
    in
    record { artificial = is; labeled = omega (arith, own); grows = rw (is, one, way_is, queue_is) grows }

-- where no node was freed, the tree is whole
pub freed_none : {c : Contents} {labels freed : List ℕ} {at : ℕ} → IsFreeing c labels freed at at 0 0 →
    IsResidualTree c labels
freed_none {c} {labels} {freed} {at} f = artificial_none
    (tree_map f.tree (λ u d m e o. occurs_nowhere c.scratch at at (label_of labels u - 1) o (omega arith))
    (λ u s d e b g o. occurs_nowhere freed 0 0 (start_of (network c) s) o (omega arith))
    (λ s b r m o. elim o [
      | inl free ↦ absurd (occurs_nowhere freed 0 0 (end_of (network c) s) free (omega arith))
      | inr unscanned ↦ absurd unscanned
    ]))

-- where the first of the steps that may have lost their room labels no node, the others are all that may
pub saturated_next : {c : Contents} {labels : List ℕ} {at last s : ℕ} → step_of c at ≡ s →
    (label_of labels (end_of (network c) s) ≡ s + 1 → ⊥) → IsSaturatedTree c labels at last →
    IsSaturatedTree c labels (at + 1) last
saturated_next {c} {labels} {s = s} is other t = tree_map t (λ u d m e o. elim (occurs_or o) [
  | inl first ↦
      let own : label_of labels u - 1 ≡ s = sym first ∙ is in
      let here : u ≡ end_of (network c) s = sym e ∙ ap (end_of (network c)) own in
      absurd (other (omega (arith, ap (label_of labels) here, own, m)))
  | inr later ↦ inr later
]) (λ u x d e b f o. o) (λ x b r m o. inr o)

-- where no step may have lost its room, the tree is whole
pub saturated_none : {c : Contents} {labels : List ℕ} {at : ℕ} → IsSaturatedTree c labels at at →
    IsResidualTree c labels
saturated_none {c} {labels} {at} t =
    artificial_none (tree_map t (λ u d m e o. occurs_nowhere c.scratch at at (label_of labels u - 1) o (omega arith))
    (λ u s d e b f o. o) (λ s b r m o. inr o))
