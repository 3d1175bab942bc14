-- A node is adopted over another step: the tree stays a tree, and what is below the node stays in it.
use Rattle.std.proofs.Common.{ℕ, Bool, true, false, ◌≡◌, ◌≢◌, ◌==◌, ◌||◌, ◌+◌, ◌-◌, ◌^◌, ◌<◌, ◌⊎◌, List}
use Rattle.std.proofs.Common.{length, arith, ap, if◌then◌else◌, subst, sym, inl, inr, refl, ◌∙◌}
use Rattle.std.proofs.lemmas.Bool.{cases_Bool, cases_eq, eq-eqb, ne_eqb, eqb-true}
use Rattle.circulation.specs.Contents.{Contents, network, flow_of}
use Rattle.circulation.specs.Residual.{start_of, end_of, room_of}
use Rattle.residual_tree.specs.Tree.{label_of, predecessor_of, relabel, IsLabeled}
use Rattle.residual_tree.specs.Repair.{IsLooseBranch, IsTreeBut, IsWayIn}
use Rattle.residual_tree.specs.Adopting.{IsClear}
use Rattle.residual_tree.proofs.Packed.{length_relabel, label_same, label_other, predecessor_same, predecessor_other}

-- the tree leads to the outside past any other node
clear_outside : (c : Contents) (labels : List ℕ) (v : ℕ) → v < c.nodes → IsClear c labels v c.nodes
clear_outside c labels v b = record {
  on = λ x. x == c.nodes;
  here = eq-eqb c.nodes c.nodes refl;
  past = ne_eqb v c.nodes (λ e. absurd (omega arith));
  before = λ x d h. absurd (omega (arith, d, eqb-true x c.nodes h));
}

pub clear_arrived : (c : Contents) (labels : List ℕ) (v : ℕ) {u : ℕ} → v < c.nodes → u ≡ c.nodes → IsClear c labels v u
clear_arrived c labels v b is = subst (λ (x : ℕ). IsClear c labels v x) (sym is) (clear_outside c labels v b)

-- and to a node, where it leads past the other to the node before it
pub clear_step : {c : Contents} {labels : List ℕ} {v : ℕ} (u : ℕ) → u ≢ v →
    IsClear c labels v (start_of (network c) (label_of labels u - 1)) → IsClear c labels v u
clear_step {c} {labels} {v} u ne h = record {
  on = λ x. x == u || h.on x;
  here = ap (λ t. t || h.on u) (eq-eqb u u refl);
  past = ap (λ t. t || h.on v) (ne_eqb v u (λ e. ne (sym e))) ∙ h.past;
  before = λ x d on. elim (cases_eq x u) [
    | inl e ↦ either _ _ (ap (λ y. h.on (start_of (network c) (label_of labels y - 1))) e ∙ h.here)
    | inr other ↦ either _ _ (h.before x d (ap (λ t. t || h.on x) (sym (ne_eqb x u other)) ∙ on))
  ];
}
  where
    either : (t s : Bool) → s ≡ true → t || s ≡ true
    either true s e = refl
    either false s e = e

-- ranks by which the nodes that are `on` come before all others
adopted_rank : (ℕ → ℕ) → (ℕ → Bool) → ℕ → ℕ → ℕ
adopted_rank rank on k u = if on u then rank u else rank u + k

rank_on : (rank : ℕ → ℕ) (on : ℕ → Bool) (k u : ℕ) → on u ≡ true → adopted_rank rank on k u ≡ rank u
unfolding adopted_rank
rank_on rank on k u e = ap (λ t. if t then rank u else rank u + k) e

rank_off : (rank : ℕ → ℕ) (on : ℕ → Bool) (k u : ℕ) → on u ≡ false → adopted_rank rank on k u ≡ rank u + k
unfolding adopted_rank
rank_off rank on k u e = ap (λ t. if t then rank u else rank u + k) e

-- where a node is on, those before it are on, so that each step still leads upwards
rank_before : (rank : ℕ → ℕ) (on : ℕ → Bool) (k x y : ℕ) → rank y < rank x → (on x ≡ true → on y ≡ true) →
    adopted_rank rank on k y < adopted_rank rank on k x
rank_before rank on k x y less closed = elim (cases_Bool (on x)) [
  | inl e ↦ omega (arith, less, rank_on rank on k x e, rank_on rank on k y (closed e))
  | inr e ↦ elim (cases_Bool (on y)) [
    | inl d ↦ omega (arith, less, rank_off rank on k x e, rank_on rank on k y d)
    | inr d ↦ omega (arith, less, rank_off rank on k x e, rank_off rank on k y d)
  ]
]

-- a node that is labeled is adopted over another step
pub tree_adopt : {c : Contents} {labels : List ℕ} {saturated orphan free unscanned : ℕ → Type 0} {v s : ℕ} →
    IsTreeBut c labels saturated orphan free unscanned → v < c.nodes → IsLabeled labels v → s + 1 < 2 ^ 34 →
    IsWayIn c labels v s → IsClear c labels v (start_of (network c) s) →
    IsTreeBut c (relabel labels v (s + 1) (start_of (network c) s)) saturated orphan free unscanned
tree_adopt {c} {labels} {saturated} {orphan} {v} {s} t b labeled small in_s clear = record {
  words = length_relabel labels v (s + 1) (start_of (network c) s) ∙ t.words;
  root = other c.nodes (λ e. absurd (omega (arith, e))) ∙ t.root;
  rank = rank;
  branch = λ u d m. elim (cases_eq u v) [
    | inl e ↦ subst (λ (x : ℕ). IsLooseBranch c new orphan rank u x) (sym (own u e)) record {
      arc = in_s.arc;
      enters = in_s.enters ∙ sym e;
      before = omega (
        arith,
        rank_on t.rank clear.on k (start_of (network c) s) clear.here,
        ap rank e,
        rank_off t.rank clear.on k v clear.past,
      );
      marked = inl (kept (start_of (network c) s) in_s.marked);
      predecessor = ap (predecessor_of new) e
          ∙ predecessor_same labels v (s + 1) (start_of (network c) s) long small;
    }
    | inr ne ↦
        let same = other u ne in
        let was = t.branch u d (omega (arith, same, m)) in
        subst (λ (x : ℕ). IsLooseBranch c new orphan rank u x) (sym (ap (λ (x : ℕ). x - 1) same)) record {
          arc = was.arc;
          enters = was.enters;
          before = rank_before t.rank clear.on k u (start_of (network c) (label_of labels u - 1)) was.before
              (clear.before u d);
          marked = elim was.marked [
            | inl r ↦ inl (kept (start_of (network c) (label_of labels u - 1)) r)
            | inr o ↦ inr o
          ];
          predecessor = predecessor_other labels v (s + 1) (start_of (network c) s) u ne ∙ was.predecessor;
        }
  ];
  room = λ u d m. elim (cases_eq u v) [
    | inl e ↦ subst (λ (x : ℕ). (0 < room_of (network c) (flow_of c) x) ⊎ saturated x) (sym (own u e)) (inl in_s.room)
    | inr ne ↦
        let same = other u ne in
        subst (λ (x : ℕ). (0 < room_of (network c) (flow_of c) x) ⊎ saturated x) (sym (ap (λ (x : ℕ). x - 1) same))
        (t.room u d (omega (arith, same, m)))
  ];
  closed = λ x a r m. elim (t.closed x a r (was_labeled (start_of (network c) x) m)) [
    | inl e ↦ inl (kept (end_of (network c) x) e)
    | inr o ↦ inr o
  ];
}
  where
    new : List ℕ
    new = relabel labels v (s + 1) (start_of (network c) s)

    long : v < length labels
    long = omega (arith, t.words)

    here : label_of (relabel labels v (s + 1) (start_of (network c) s)) v ≡ s + 1
    here = label_same labels v (s + 1) (start_of (network c) s) long small

    other : (u : ℕ) → u ≢ v → label_of (relabel labels v (s + 1) (start_of (network c) s)) u ≡ label_of labels u
    other u ne = label_other labels v (s + 1) (start_of (network c) s) u ne

    own : (u : ℕ) → u ≡ v → label_of (relabel labels v (s + 1) (start_of (network c) s)) u - 1 ≡ s
    own u e = omega (arith, ap (label_of (relabel labels v (s + 1) (start_of (network c) s))) e, here)

    kept : (u : ℕ) → IsLabeled labels u → IsLabeled (relabel labels v (s + 1) (start_of (network c) s)) u
    kept u m = elim (cases_eq u v) [
      | inl e ↦ omega (arith, ap (label_of (relabel labels v (s + 1) (start_of (network c) s))) e, here)
      | inr ne ↦ omega (arith, other u ne, m)
    ]

    was_labeled : (u : ℕ) → IsLabeled (relabel labels v (s + 1) (start_of (network c) s)) u → IsLabeled labels u
    was_labeled u m = elim (cases_eq u v) [
      | inl e ↦ omega (arith, ap (label_of labels) e, labeled)
      | inr ne ↦ omega (arith, other u ne, m)
    ]

    k : ℕ
    k = t.rank (start_of (network c) s) + 1

    rank : ℕ → ℕ
    rank = adopted_rank t.rank clear.on k
