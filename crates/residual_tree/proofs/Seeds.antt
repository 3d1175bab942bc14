-- Ways into freed nodes are found, and then taken.
use Rattle.std.proofs.Common.{ℕ, ◌≡◌, ◌+◌, ◌-◌, ◌<◌, ◌⊎◌, List, [], length, slice_index, slice_set}
use Rattle.std.proofs.Common.{refl, arith, ap, sym, subst, inl, inr, ◌∙◌}
use Rattle.std.proofs.lemmas.Bool.{cases_eq}
use Rattle.circulation.specs.Contents.{Contents, network, flow_of, arcs, IsCirculation}
use Rattle.circulation.specs.Residual.{arc_of, start_of, end_of, room_of, opposite}
use Rattle.residual_tree.specs.Tree.{label_of, relabel, IsLabeled, IsResidualTree}
use Rattle.residual_tree.specs.Repair.{OccursIn, no_step, IsFoundLabel, IsShut, IsGrowing, IsWayIn}
use Rattle.residual_tree.proofs.Packed.{step_small, label_same, label_other}
use Rattle.residual_tree.proofs.Changes.{occurs_more, occurs_here, occurs_or, occurs_nowhere, tree_map}
use Rattle.residual_tree.proofs.Opposites.{opposite_is}
use Rattle.residual_tree.proofs.Grows.{growing_attach, growing_room, artificial_none, inner_end}

-- where none of the steps that leave a node is a way in when turned, there is none
pub shut_end : {c : Contents} {labels : List ℕ} {v : ℕ} →
    ((s : ℕ) → arc_of s < arcs c → start_of (network c) s ≡ v → IsShut c labels s) → (s : ℕ) → IsWayIn c labels v s → ⊥
shut_end {c} {labels} shut s in_s =
    let o = opposite_is (network c) s in
    let none = shut (opposite s) (omega (arith, o.arc, in_s.arc)) (o.starts ∙ in_s.enters)
    (subst (λ (u : ℕ). IsLabeled labels u) (sym o.enters) in_s.marked) in
    omega (arith, ap (room_of (network c) (flow_of c)) o.back, none, in_s.room)

-- a step that was turned is a way in
pub way_in : (c : Contents) (labels : List ℕ) (v s : ℕ) → arc_of s < arcs c → start_of (network c) s ≡ v →
    IsLabeled labels (end_of (network c) s) → 0 < room_of (network c) (flow_of c) (opposite s) →
    IsWayIn c labels v (opposite s)
way_in c labels v s b starts m room =
    let o = opposite_is (network c) s in
    record {
      arc = omega (arith, o.arc, b);
      enters = o.enters ∙ starts;
      marked = subst (λ (u : ℕ). IsLabeled labels u) (sym o.starts) m;
      room = room;
    }

-- what was found by a step that was turned
pub found_way : (c : Contents) (labels : List ℕ) (v s : ℕ) {word : ℕ} → arc_of s < arcs c → start_of (network c) s ≡ v →
    IsLabeled labels (end_of (network c) s) → 0 < room_of (network c) (flow_of c) (opposite s) → word ≡ opposite s + 1 →
    IsFoundLabel c labels v word
found_way c labels v s b starts m room is = record {
  none = λ e. absurd (omega (arith, is, e));
  some = λ t e.
      let same : opposite s ≡ t = omega (arith, is, e) in
      subst (λ (x : ℕ). IsWayIn c labels v x) same (way_in c labels v s b starts m room);
}

-- what was found where there is no way
pub found_none : (c : Contents) (labels : List ℕ) (v : ℕ) → ((s : ℕ) → IsWayIn c labels v s → ⊥) →
    IsFoundLabel c labels v 0
found_none c labels v shut = record { none = λ e. shut; some = λ s e. absurd (omega (arith, e)) }

-- freed nodes are labeled by the ways that were found when the words were those of `old`
pub record IsSeeding (c : Contents) (old labels freed queue found : List ℕ) (next count size : ℕ) : Type 0 where
  pub grows : IsGrowing c (no_step c) labels freed queue next count 0 size
  pub ways : (k : ℕ) → k < count → IsFoundLabel c old (slice_index freed k) (slice_index found k)
  pub kept : (u : ℕ) → IsLabeled old u → IsLabeled labels u
  pub fresh : (u : ℕ) → IsLabeled labels u → IsLabeled old u ⊎ OccursIn queue 0 size u

-- before the first way is taken
pub seeding_start : {c : Contents} {labels freed queue : List ℕ} (found : List ℕ) {count : ℕ} →
    IsGrowing c (no_step c) labels freed queue 0 count 0 0 →
    ((k : ℕ) → k < count → IsFoundLabel c labels (slice_index freed k) (slice_index found k)) →
    IsSeeding c labels labels freed queue found 0 count 0
seeding_start found g ways =
    record { grows = g; ways = ways; kept = λ u m. m; fresh = λ u m. inl m }

-- a freed node was tried: it is labeled, or had no way in
seed_past : {c : Contents} {old labels freed queue found : List ℕ} {next count size : ℕ} (v : ℕ) →
    slice_index freed next ≡ v → IsSeeding c old labels freed queue found next count size →
    (IsLabeled labels v ⊎ ((s : ℕ) → IsWayIn c old v s → ⊥)) →
    IsSeeding c old labels freed queue found (next + 1) count size
seed_past {c} {labels} v is s tried = record {
  grows = record {
    tree = tree_map s.grows.tree (λ u d m e o. inr o) (λ u x d e b f o. o) (λ x b r m o. elim o [
      | inl free ↦ elim (occurs_or free) [
        | inl here ↦
            let same : v ≡ end_of (network c) x = sym is ∙ here in
            elim tried [
              | inl labeled ↦ inl (subst (λ (u : ℕ). IsLabeled labels u) same labeled)
              | inr shut ↦ elim (s.fresh (start_of (network c) x) m) [
                | inl before ↦ absurd (shut x record { arc = b; enters = sym same; marked = before; room = r })
                | inr unscanned ↦ inr (inr unscanned)
              ]
            ]
        | inr later ↦ inr (inl later)
      ]
      | inr unscanned ↦ inr (inr unscanned)
    ]);
    order = s.grows.order;
    places = s.grows.places;
    within = s.grows.within;
    marked = s.grows.marked;
    bounded = s.grows.bounded;
  };
  ways = s.ways;
  kept = s.kept;
  fresh = s.fresh;
}

-- a freed node is labeled by the way that was found
seed_fresh : {c : Contents} {old labels freed queue found : List ℕ} {next count size : ℕ} (v word : ℕ) →
    IsCirculation c → next < count → slice_index freed next ≡ v → slice_index found next ≡ word →
    IsSeeding c old labels freed queue found next count size → label_of labels v ≡ 0 → 0 < word →
    IsSeeding c old (relabel labels v word (start_of (network c) (word - 1))) freed (slice_set queue size v) found
    (next + 1) count (size + 1)
seed_fresh {c} {old} {labels} {freed} {queue} {next} {count} {size} v word k b is is_word s unlabeled some =
    let inner : v < c.nodes = omega (arith, s.grows.within next b, is) in
    let long : v < length labels = omega (arith, s.grows.tree.words, inner) in
    let room = growing_room v inner s.grows unlabeled in
    let step : word ≡ word - 1 + 1 = omega arith in
    let before = subst (λ (u : ℕ). IsWayIn c old u (word - 1)) is ((s.ways next b).some (word - 1) (is_word ∙ step)) in
    let small = step_small (word - 1) k before.arc in
    let start : ℕ = start_of (network c) (word - 1) in
    let grows = growing_attach v (word - 1) inner s.grows unlabeled small
    record {
      arc = before.arc;
      enters = before.enters;
      marked = s.kept (start_of (network c) (word - 1)) before.marked;
      room = inl before.room;
    } in
    let here = label_same labels v word start long (omega (arith, small)) in
    seed_past v is
    record {
      grows = subst (λ (n : ℕ). IsGrowing c (no_step c) (relabel labels v n start) freed (slice_set queue size v) next
          count 0 (size + 1)) (sym step) grows;
      ways = s.ways;
      kept = λ u m. elim (cases_eq u v) [
        | inl e ↦ omega (arith, ap (label_of (relabel labels v word start)) e, here, some)
        | inr ne ↦ omega (arith, label_other labels v word start u ne, s.kept u m)
      ];
      fresh = λ u m. elim (cases_eq u v) [
        | inl e ↦ inr (rw e (occurs_here queue 0 size v (omega arith) room))
        | inr ne ↦ elim (s.fresh u (omega (arith, label_other labels v word start u ne, m))) [
          | inl labeled ↦ inl labeled
          | inr occurs ↦ inr (occurs_more v occurs)
        ]
      ];
    } (inl (omega (arith, here, some)))

-- one more freed node was tried
pub seeding_next : {c : Contents} {old labels labels' freed queue queue' found : List ℕ} {next count size size' : ℕ}
    (v : ℕ) {word : ℕ} → IsCirculation c → next < count → slice_index freed next ≡ v → slice_index found next ≡ word →
    IsSeeding c old labels freed queue found next count size →
    (word ≡ 0 → (size' ≡ size) × (labels' ≡ labels) × (queue' ≡ queue)) →
    (IsLabeled labels v → (size' ≡ size) × (labels' ≡ labels) × (queue' ≡ queue)) →
    (0 < word → label_of labels v ≡ 0 → (size' ≡ size + 1)
    × (labels' ≡ relabel labels v word (start_of (network c) (word - 1))) × (queue' ≡ slice_set queue size v)) →
    IsSeeding c old labels' freed queue' found (next + 1) count size'
seeding_next {c} {old} {labels} {labels'} {freed} {queue} {queue'} {found} {next} {count} {size} {size'} v {word} k b is
    is_word s skipped seen fresh =
    elim (cases_eq (label_of labels v) 0) [
      | inl unlabeled ↦ elim (cases_eq word 0) [
        | inl empty ↦
            let e = skipped empty in
            seed_same c old labels labels' freed queue queue' found (next + 1) count size size' e (seed_past v is s
            (inr (subst (λ (u : ℕ). (x : ℕ) → IsWayIn c old u x → ⊥) is ((s.ways next b).none (is_word ∙ empty)))))
        | inr some ↦
            let e = fresh (omega arith) unlabeled in
            rw (e.1, e.2, e.0) (seed_fresh v word k b is is_word s unlabeled (omega arith))
      ]
      | inr ne ↦
          seed_same c old labels labels' freed queue queue' found (next + 1) count size size' (seen (omega arith))
          (seed_past v is s (inl (omega arith)))
    ]
  where
    seed_same : (c : Contents) (old labels labels' freed queue queue' found : List ℕ) (next count size size' : ℕ) →
        (size' ≡ size) × (labels' ≡ labels) × (queue' ≡ queue) → IsSeeding c old labels freed queue found next count
        size → IsSeeding c old labels' freed queue' found next count size'
    seed_same c old labels labels' freed queue queue' found next count size size' e s =
        rw (e.1, e.2, e.0) s

-- all freed nodes were tried, so that they count no more
pub seeded : {c : Contents} {artificial : ℕ} {labels freed queue : List ℕ} {count done size : ℕ} →
    IsGrowing c artificial labels freed queue count count done size → IsGrowing c artificial labels [] queue 0 0 done
    size
seeded {c} {freed} {count} g = record {
  tree = tree_map g.tree (λ u d m e o. inr o) (λ u s d e b f o. o) (λ s b r m o. elim o [
    | inl free ↦ occurs_nowhere freed count count (end_of (network c) s) free (omega arith)
    | inr unscanned ↦ inr (inr unscanned)
  ]);
  order = g.order;
  places = g.places;
  within = λ k b. absurd (omega arith);
  marked = g.marked;
  bounded = g.bounded;
}

-- an unlabeled node gets its word, if a way into it was found
pub word_given : {c : Contents} {labels queue labels' queue' : List ℕ} {word size size' : ℕ} (v : ℕ) →
    IsCirculation c → v < c.nodes → label_of labels v ≡ 0 → ((s : ℕ) → word ≡ s + 1 → IsWayIn c labels v s) →
    IsGrowing c (no_step c) labels [] queue 0 0 0 size →
    (word ≡ 0 → (size' ≡ size) × (labels' ≡ labels) × (queue' ≡ queue)) →
    (0 < word → label_of labels v ≡ 0 →
    (size' ≡ size + 1) × (labels' ≡ relabel labels v word (start_of (network c) (word - 1)))
    × (queue' ≡ slice_set queue size v)) →
    IsGrowing c (no_step c) labels' [] queue' 0 0 0 size'
word_given {c} {labels} {word = word} v k b unlabeled ways g none fresh = elim (cases_eq word 0) [
  | inl e ↦ let n = none e in rw (n.1, n.2, n.0) g
  | inr some ↦
      let f = fresh (omega arith) unlabeled in
      let is : word ≡ word - 1 + 1 = omega arith in
      let made = f.1 ∙ ap (λ (n : ℕ). relabel labels v n (start_of (network c) (word - 1))) is in
      let way = ways (word - 1) is in
      rw (made, f.2, f.0) (growing_attach v (word - 1) b g unlabeled (step_small (word - 1) k way.arc) record {
        arc = way.arc;
        enters = way.enters;
        marked = way.marked;
        room = inl way.room;
      })
]

-- where no way leads into an unlabeled node, the tree is whole
pub closed_tree : {c : Contents} {labels queue : List ℕ} {size : ℕ} → IsCirculation c →
    IsGrowing c (no_step c) labels [] queue 0 0 0 size →
    ((v : ℕ) → v < c.nodes → label_of labels v ≡ 0 → (s : ℕ) → IsWayIn c labels v s → ⊥) → IsResidualTree c labels
closed_tree {c} {labels} k g shut =
    artificial_none (tree_map g.tree (λ u d m e o. inr o) (λ u s d e b f o. o) (λ s b r m o.
    let v = end_of (network c) s in
    elim (cases_eq (label_of labels v) 0) [
      | inl unlabeled ↦ absurd (shut v (inner_end labels s k b g.tree.root unlabeled) unlabeled s
          record { arc = b; enters = refl; marked = m; room = r })
      | inr ne ↦ inl (omega arith)
    ]))
