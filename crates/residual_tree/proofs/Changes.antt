-- What freeing and labeling a node do to a tree that is repaired.
use Rattle.std.proofs.Common.{ℕ, Bool, nat_lt, ◌==◌, ◌≡◌, ◌≢◌, ◌+◌, ◌-◌, ◌^◌, ◌<◌, ◌≤◌, ◌⊎◌, List, length}
use Rattle.std.proofs.Common.{if◌then◌else◌, slice_index, slice_set, refl, arith, ap, sym, subst, inl, inr, ◌∙◌}
use Rattle.std.proofs.lemmas.Bool.{cases_eq, lt-ltb, le-ltb, eq-eqb, ne_eqb}
use Rattle.std.proofs.lemmas.List.{get_or-set_other, get_or-set_same}
use Rattle.finite_sums.specs.Sums.{when}
use Rattle.finite_sums.proofs.Totals.{total_change, count_at_most}
use Rattle.circulation.specs.Contents.{Contents, network, flow_of, arcs}
use Rattle.circulation.specs.Residual.{arc_of, start_of, end_of, room_of}
use Rattle.residual_tree.specs.Tree.{label_of, predecessor_of, relabel, IsLabeled}
use Rattle.residual_tree.specs.Repair.{OccursIn, labeled_count, IsTreeBut}
use Rattle.residual_tree.proofs.Packed.{length_relabel, label_same, label_other, predecessor_same, predecessor_other}

-- no more basin nodes are labeled than there are
pub count_most : (nodes : ℕ) (labels : List ℕ) → labeled_count nodes labels ≤ nodes
count_most nodes labels = count_at_most nodes (λ v. nat_lt 0 (label_of labels v))

-- one write to a list of words
count_written : (nodes v x start : ℕ) (labels : List ℕ) → v < nodes →
    labeled_count nodes (relabel labels v x start) + when (nat_lt 0 (label_of labels v)) 1 ≡
    labeled_count nodes labels + when (nat_lt 0 (label_of (relabel labels v x start) v)) 1
count_written nodes v x start labels b =
    total_change nodes v (λ u. when (nat_lt 0 (label_of (relabel labels v x start) u)) 1)
    (λ u. when (nat_lt 0 (label_of labels u)) 1) b
    (λ u c ne. ap (λ (y : ℕ). when (nat_lt 0 y) 1) (label_other labels v x start u ne))

counts : (x : ℕ) → 0 < x → when (nat_lt 0 x) 1 ≡ 1
counts x b = ap (λ (t : Bool). when t 1) (lt-ltb 0 x b)

counts_not : {x : ℕ} → x ≡ 0 → when (nat_lt 0 x) 1 ≡ 0
counts_not {x} e = ap (λ (t : Bool). when t 1) (le-ltb 0 x (omega arith))

-- one node fewer is labeled
pub count_freed : (nodes v : ℕ) (labels : List ℕ) → v < nodes → v < length labels → IsLabeled labels v →
    labeled_count nodes (relabel labels v 0 0) + 1 ≡ labeled_count nodes labels
count_freed nodes v labels b long m = omega (
  arith,
  count_written nodes v 0 0 labels b,
  counts (label_of labels v) m,
  counts_not (label_same labels v 0 0 long (omega arith)),
)

-- a node that is labeled by another step is still one
pub count_kept : (nodes v x start : ℕ) (labels : List ℕ) → v < nodes → v < length labels → IsLabeled labels v → 0 < x →
    x < 2 ^ 34 → labeled_count nodes (relabel labels v x start) ≡ labeled_count nodes labels
count_kept nodes v x start labels b long m some small =
    let here = label_same labels v x start long small in
    omega (
      arith,
      count_written nodes v x start labels b,
      counts (label_of labels v) m,
      counts (label_of (relabel labels v x start) v) (omega (arith, here)),
    )

-- one more node is labeled
pub count_attached : (nodes v x start : ℕ) (labels : List ℕ) → v < nodes → v < length labels → label_of labels v ≡ 0 →
    0 < x → x < 2 ^ 34 → labeled_count nodes (relabel labels v x start) ≡ labeled_count nodes labels + 1
count_attached nodes v x start labels b long m some small =
    let here = label_same labels v x start long small in
    omega (
      arith,
      count_written nodes v x start labels b,
      counts_not m,
      counts (label_of (relabel labels v x start) v) (omega (arith, here)),
    )

-- what stood in a list still stands there after one more step was written at its end
pub occurs_more : {xs : List ℕ} {first size : ℕ} (v : ℕ) {x : ℕ} → OccursIn xs first size x →
    OccursIn (slice_set xs size v) first (size + 1) x
occurs_more {xs} {size} v h = record {
  place = h.place;
  from = h.from;
  below = omega (arith, h.below);
  is = get_or-set_other xs size h.place v 0 (λ e. absurd (omega (arith, h.below, e))) ∙ h.is;
}

-- what was written stands there
pub occurs_here : (xs : List ℕ) (first size v : ℕ) → first ≤ size → size < length xs →
    OccursIn (slice_set xs size v) first (size + 1) v
occurs_here xs first size v order long = record {
  place = size;
  from = order;
  below = omega arith;
  is = get_or-set_same xs size v 0 long;
}

-- what stands from an index on stands there or after it
pub occurs_or : {xs : List ℕ} {first last x : ℕ} → OccursIn xs first last x →
    (slice_index xs first ≡ x) ⊎ OccursIn xs (first + 1) last x
occurs_or {xs} {first} h = elim (cases_eq h.place first) [
  | inl e ↦ inl (ap (slice_index xs) (sym e) ∙ h.is)
  | inr ne ↦ inr record { place = h.place; from = omega (arith, h.from, ne); below = h.below; is = h.is }
]

-- nothing stands where there is no index
pub occurs_nowhere : {A : Type 0} (xs : List ℕ) (first last x : ℕ) → OccursIn xs first last x → last ≤ first → A
occurs_nowhere xs first last x h order = absurd (omega (arith, h.from, h.below))

-- a label of the new words is 0 or that of the old
pub freed_word : (labels : List ℕ) (v u : ℕ) → v < length labels →
    (label_of (relabel labels v 0 0) u ≡ 0) ⊎ ((u ≢ v) × (label_of (relabel labels v 0 0) u ≡ label_of labels u))
freed_word labels v u long = elim (cases_eq u v) [
  | inl e ↦ inl (ap (label_of (relabel labels v 0 0)) e ∙ label_same labels v 0 0 long (omega arith))
  | inr ne ↦ inr (ne, label_other labels v 0 0 u ne)
]

-- a labeled node is the freed one, or is still labeled
still : (labels : List ℕ) (v u : ℕ) → v < length labels → IsLabeled labels u → (u ≡ v) ⊎
    IsLabeled (relabel labels v 0 0) u
still labels v u long m = elim (cases_eq u v) [
  | inl e ↦ inl e
  | inr ne ↦ inr (omega (arith, label_other labels v 0 0 u ne, m))
]

-- a labeled node stays labeled where another one gets its word
pub labeled_still : (labels : List ℕ) (v x start u : ℕ) → label_of labels v ≡ 0 → IsLabeled labels u →
    IsLabeled (relabel labels v x start) u
labeled_still labels v x start u unlabeled m = elim (cases_eq u v) [
  | inl e ↦ absurd (omega (arith, ap (label_of labels) e, unlabeled, m))
  | inr ne ↦ omega (arith, label_other labels v x start u ne, m)
]

-- a node is freed
pub tree_free : {c : Contents} {labels : List ℕ} {saturated orphan free unscanned orphan' free' : ℕ → Type 0} (v : ℕ) →
    IsTreeBut c labels saturated orphan free unscanned → v < c.nodes → ((u : ℕ) → orphan u → orphan' u) → orphan' v →
    ((u : ℕ) → free u → free' u) → free' v → IsTreeBut c (relabel labels v 0 0) saturated orphan' free' unscanned
tree_free {c} {labels} {orphan'} {free'} v t b more_orphans here_orphan more_free here_free =
    let long : v < length labels = omega (arith, t.words) in
    record {
      words = length_relabel labels v 0 0 ∙ t.words;
      root = label_other labels v 0 0 c.nodes (λ e. absurd (omega (arith, e))) ∙ t.root;
      rank = t.rank;
      branch = λ u d m. elim (freed_word labels v u long) [
        | inl e ↦ absurd (omega (arith, e, m))
        | inr f ↦
            let was = t.branch u d (omega (arith, f.1, m)) in
            let s : label_of (relabel labels v 0 0) u - 1 ≡ label_of labels u - 1 = ap (λ (x : ℕ). x - 1) f.1 in
            rw s record {
              arc = was.arc;
              enters = was.enters;
              before = was.before;
              marked = elim was.marked [
                | inl labeled ↦ elim (still labels v (start_of (network c) (label_of labels u - 1)) long labeled) [
                  | inl e ↦ inr (subst orphan' (sym e) here_orphan)
                  | inr kept ↦ inl kept
                ]
                | inr o ↦ inr (more_orphans (start_of (network c) (label_of labels u - 1)) o)
              ];
              predecessor = predecessor_other labels v 0 0 u f.0 ∙ was.predecessor;
            }
      ];
      room = λ u d m. elim (freed_word labels v u long) [
        | inl e ↦ absurd (omega (arith, e, m))
        | inr f ↦
            let s : label_of (relabel labels v 0 0) u - 1 ≡ label_of labels u - 1 = ap (λ (x : ℕ). x - 1) f.1 in
            rw s (t.room u d (omega (arith, f.1, m)))
      ];
      closed = λ s a r m. elim (freed_word labels v (start_of (network c) s) long) [
        | inl e ↦ absurd (omega (arith, e, m))
        | inr f ↦ elim (t.closed s a r (omega (arith, f.1, m))) [
          | inl labeled ↦ elim (still labels v (end_of (network c) s) long labeled) [
            | inl e ↦ inr (inl (subst free' (sym e) here_free))
            | inr kept ↦ inl kept
          ]
          | inr other ↦ elim other [
            | inl o ↦ inr (inl (more_free (end_of (network c) s) o))
            | inr o ↦ inr (inr o)
          ]
        ]
      ];
    }

-- a tree but for some steps and nodes is one but for others that cover them
pub tree_map : {c : Contents} {labels : List ℕ}
    {saturated orphan free unscanned saturated' orphan' free' unscanned' : ℕ → Type 0} →
    IsTreeBut c labels saturated orphan free unscanned →
    ((u : ℕ) → u < c.nodes → IsLabeled labels u → end_of (network c) (label_of labels u - 1) ≡ u →
    saturated (label_of labels u - 1) →
    (0 < room_of (network c) (flow_of c) (label_of labels u - 1)) ⊎ saturated' (label_of labels u - 1)) →
    ((u s : ℕ) → u < c.nodes → label_of labels u ≡ s + 1 → arc_of s < arcs c → end_of (network c) s ≡ u →
    orphan (start_of (network c) s) → orphan' (start_of (network c) s)) →
    ((s : ℕ) → arc_of s < arcs c → 0 < room_of (network c) (flow_of c) s → IsLabeled labels (start_of (network c) s) →
    free (end_of (network c) s) ⊎ unscanned (start_of (network c) s) →
    IsLabeled labels (end_of (network c) s) ⊎ (free' (end_of (network c) s) ⊎ unscanned' (start_of (network c) s))) →
    IsTreeBut c labels saturated' orphan' free' unscanned'
tree_map {labels} t saturated_steps orphans others = record {
  words = t.words;
  root = t.root;
  rank = t.rank;
  branch = λ u d m.
      let was = t.branch u d m in
      record {
        arc = was.arc;
        enters = was.enters;
        before = was.before;
        marked = elim was.marked [
          | inl labeled ↦ inl labeled
          | inr o ↦ inr (orphans u (label_of labels u - 1) d (omega (arith, m)) was.arc was.enters o)
        ];
        predecessor = was.predecessor;
      };
  room = λ u d m. elim (t.room u d m) [
    | inl room ↦ inl room
    | inr o ↦ saturated_steps u d m (t.branch u d m).enters o
  ];
  closed = λ s a r m. elim (t.closed s a r m) [
    | inl labeled ↦ inl labeled
    | inr o ↦ others s a r m o
  ];
}

-- a rank in which the node v has x
ranked : (ℕ → ℕ) → ℕ → ℕ → ℕ → ℕ
ranked rank v x u = if u == v then x else rank u

ranked_same : (rank : ℕ → ℕ) (v x : ℕ) → ranked rank v x v ≡ x
unfolding ranked
ranked_same rank v x = ap (λ (t : Bool). if t then x else rank v) (eq-eqb v v refl)

ranked_other : (rank : ℕ → ℕ) (v x u : ℕ) → u ≢ v → ranked rank v x u ≡ rank u
unfolding ranked
ranked_other rank v x u ne = ap (λ (t : Bool). if t then x else rank u) (ne_eqb u v ne)

-- a step by which a node may be labeled, with room unless it is saturated
pub record IsLooseWay (c : Contents) (labels : List ℕ) (saturated : ℕ → Type 0) (v s : ℕ) : Type 0 where
  pub arc : arc_of s < arcs c
  pub enters : end_of (network c) s ≡ v
  pub marked : IsLabeled labels (start_of (network c) s)
  pub room : (0 < room_of (network c) (flow_of c) s) ⊎ saturated s

-- an unlabeled node is labeled by a step
pub tree_attach : {c : Contents} {labels : List ℕ} {saturated orphan free unscanned unscanned' : ℕ → Type 0} {v s : ℕ} →
    IsTreeBut c labels saturated orphan free unscanned → ((u : ℕ) → orphan u → ⊥) → v < c.nodes →
    label_of labels v ≡ 0 → s + 1 < 2 ^ 34 → IsLooseWay c labels saturated v s →
    ((u : ℕ) → unscanned u → unscanned' u) → unscanned' v →
    IsTreeBut c (relabel labels v (s + 1) (start_of (network c) s)) saturated orphan free unscanned'
tree_attach {c} {labels} {unscanned'} {v} {s} t no_orphan b unlabeled small in_s more_unscanned
    here_unscanned =
    let long : v < length labels = omega (arith, t.words) in
    let start : ℕ = start_of (network c) s in
    let here = label_same labels v (s + 1) start long small in
    let other = λ (u : ℕ) (ne : u ≢ v). label_other labels v (s + 1) start u ne in
    let apart = λ (u : ℕ) (m : IsLabeled labels u) (e : u ≡ v). let was : label_of labels u ≡ label_of labels v =
    ap (label_of labels) e in
    let none : ⊥ = omega (arith, was, unlabeled, m) in none in
    let kept = λ (u : ℕ) (m : IsLabeled labels u). labeled_still labels v (s + 1) start u unlabeled m in
    let own = ranked_same t.rank v (t.rank (start_of (network c) s) + 1) in
    let rest = λ (u : ℕ) (ne : u ≢ v). ranked_other t.rank v (t.rank (start_of (network c) s) + 1) u ne in
    record {
      words = length_relabel labels v (s + 1) start ∙ t.words;
      root = other c.nodes (λ e. absurd (omega (arith, e))) ∙ t.root;
      rank = ranked t.rank v (t.rank (start_of (network c) s) + 1);
      branch = λ u d m. elim (cases_eq u v) [
        | inl e ↦
            let is : label_of (relabel labels v (s + 1) start) u - 1 ≡ s =
            omega (arith, ap (label_of (relabel labels v (s + 1) start)) e, here) in
            rw is record {
              arc = in_s.arc;
              enters = in_s.enters ∙ sym e;
              before = omega (
                arith,
                rest (start_of (network c) s) (apart (start_of (network c) s) in_s.marked),
                ap (ranked t.rank v (t.rank (start_of (network c) s) + 1)) e,
                own,
              );
              marked = inl (kept (start_of (network c) s) in_s.marked);
              predecessor = ap (predecessor_of (relabel labels v (s + 1) start)) e
                  ∙ predecessor_same labels v (s + 1) start long small;
            }
        | inr ne ↦
            let same = other u ne in
            let was = t.branch u d (omega (arith, same, m)) in
            let is : label_of (relabel labels v (s + 1) start) u - 1 ≡ label_of labels u - 1 =
            ap (λ (x : ℕ). x - 1) same in
            rw is (elim was.marked [
              | inl labeled ↦ record {
                arc = was.arc;
                enters = was.enters;
                before = omega (
                  arith,
                  was.before,
                  rest (start_of (network c) (label_of labels u - 1))
                      (apart (start_of (network c) (label_of labels u - 1)) labeled),
                  rest u ne,
                );
                marked = inl (kept (start_of (network c) (label_of labels u - 1)) labeled);
                predecessor = predecessor_other labels v (s + 1) start u ne ∙ was.predecessor;
              }
              | inr o ↦ absurd (no_orphan (start_of (network c) (label_of labels u - 1)) o)
            ])
      ];
      room = λ u d m. elim (cases_eq u v) [
        | inl e ↦
            let is : label_of (relabel labels v (s + 1) start) u - 1 ≡ s =
            omega (arith, ap (label_of (relabel labels v (s + 1) start)) e, here) in
            rw is in_s.room
        | inr ne ↦
            let same = other u ne in
            let is : label_of (relabel labels v (s + 1) start) u - 1 ≡ label_of labels u - 1 =
            ap (λ (x : ℕ). x - 1) same in
            rw is (t.room u d (omega (arith, same, m)))
      ];
      closed = λ x a r m. elim (cases_eq (start_of (network c) x) v) [
        | inl e ↦ inr (inr (subst unscanned' (sym e) here_unscanned))
        | inr ne ↦ elim (t.closed x a r (omega (arith, other (start_of (network c) x) ne, m))) [
          | inl labeled ↦ inl (kept (end_of (network c) x) labeled)
          | inr o ↦ elim o [
            | inl f ↦ inr (inl f)
            | inr f ↦ inr (inr (more_unscanned (start_of (network c) x) f))
          ]
        ]
      ];
    }
