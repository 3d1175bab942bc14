-- The tree of the nodes that a search reached, and the cut that it leaves.
use Rattle.std.proofs.Common.{ℕ, zero, suc, Bool, true, false, nat_lt, ◌≡◌, ◌≢◌, ◌+◌, ◌-◌, ◌<◌, ◌≤◌, List, [], ◌∷◌}
use Rattle.std.proofs.Common.{refl, arith, ap, sym, subst, inl, inr, ◌∙◌}
use Rattle.std.proofs.lemmas.Bool.{lt-ltb, cases_eq, cases_lt}
use Rattle.finite_sums.specs.Sums.{total, when}
use Rattle.finite_sums.proofs.Totals.{total_change, total_most, total_pick}
use Rattle.circulation.specs.Network.{Network, IsFlow, HasEnds, IsGreatestCut, LeadsOut}
use Rattle.circulation.specs.Residual.{start_of}
use Rattle.circulation.proofs.Overs.{start_within}
use Rattle.circulation.proofs.Trails.{IsWayBack}
use Rattle.circulation.proofs.Unmarked.{AreShut, unmarked, greatest_unmarked}
use Rattle.augment.specs.Search.{IsBranch, IsTree, IsClosed, Grows}
use Rattle.augment.specs.Raised.{HasPathOut}

-- a test counts at most 1
when_one : (b : Bool) → when b 1 ≤ 1
when_one true = omega arith
when_one false = omega arith

-- of terms up to 1, one that is 0
total_less : (n v : ℕ) (f : ℕ → ℕ) → v < n → ((k : ℕ) → f k ≤ 1) → f v ≡ 0 → total n f + 1 ≤ n
unfolding total
total_less zero v f b h z = absurd (omega arith)
total_less (suc n) v f b h z = elim (cases_eq v n) [
  | inl e ↦
      let last = subst (λ (j : ℕ). f j ≡ 0) e z in
      omega (arith, last, total_most n 1 f (λ k l. h k))
  | inr ne ↦ omega (arith, total_less n v f (omega arith) h z, h n)
]

-- while a node was not reached, there is room for it
pub tree_room : {w : Network} {g : ℕ → ℕ} {r least : ℕ} {position node step : ℕ → ℕ} {size : ℕ} (v : ℕ) →
    IsTree w g r least position node step size → v ≤ w.nodes → position v ≡ 0 → size ≤ w.nodes
tree_room {w = w} {position = position} v t b z =
    let less = total_less (w.nodes + 1) v (λ u. when (nat_lt 0 (position u)) 1) (omega arith)
    (λ u. when_one (nat_lt 0 (position u))) (ap (λ (x : ℕ). when (nat_lt 0 x) 1) z) in
    omega (arith, less, t.counted)

-- no more nodes are reached than there are
pub tree_size : {w : Network} {g : ℕ → ℕ} {r least : ℕ} {position node step : ℕ → ℕ} {size : ℕ} →
    IsTree w g r least position node step size → size ≤ w.nodes + 1
tree_size {w = w} {position = position} t = omega (
  arith,
  t.counted,
  total_most (w.nodes + 1) 1
      (λ u. when (nat_lt 0 (position u)) 1) (λ u l. when_one (nat_lt 0 (position u))),
)

-- the node v was added after `size` nodes, by the step s
pub record IsAdded (nodes : ℕ) (old position node node' step step' : ℕ → ℕ) (size s v : ℕ) : Type 0 where
  pub inside : v ≤ nodes
  pub none : old v ≡ 0
  pub here : position v ≡ size + 1
  pub others : (u : ℕ) → u ≤ nodes → u ≢ v → position u ≡ old u
  pub at_node : node' size ≡ v
  pub nodes_before : (k : ℕ) → k < size → node' k ≡ node k
  pub at_step : step' size ≡ s
  pub steps_before : (k : ℕ) → k < size → step' k ≡ step k

-- the tree of the root alone
pub tree_start : {w : Network} {g : ℕ → ℕ} {r least : ℕ} {old position node node' step step' : ℕ → ℕ} {s v : ℕ} →
    IsAdded w.nodes old position node node' step step' 0 s v → ((u : ℕ) → u ≤ w.nodes → old u ≡ 0) → v ≡ w.to r →
    IsTree w g r least position node' step' 1
tree_start {w = w} {position = position} {node' = node'} {v = v} a none is = record {
  some = omega arith;
  root = a.at_node ∙ is;
  counted = sym (total_pick (w.nodes + 1) v (λ u. when (nat_lt 0 (position u)) 1) (omega (arith, a.inside))
      (λ u c ne. ap (λ (x : ℕ). when (nat_lt 0 x) 1) (a.others u (omega arith) ne ∙ none u (omega arith))) ∙ ap
      (λ (x : ℕ). when (nat_lt 0 x) 1) a.here);
  placed = λ k c.
      let first : k ≡ 0 = omega arith in
      rw first (omega (arith, a.at_node, a.inside), ap position a.at_node ∙ a.here);
  marked = λ u c m. elim (cases_eq u v) [
    | inl e ↦
        let one : position u ≡ 1 = ap position e ∙ a.here in
        (omega arith, ap (λ (x : ℕ). node' (x - 1)) one ∙ a.at_node ∙ sym e)
    | inr ne ↦ absurd (omega (arith, a.others u c ne, none u c))
  ];
  grown = λ k c d. absurd (omega arith);
}

-- a branch stays when more nodes are reached
branch-kept : {w : Network} {g : ℕ → ℕ} {r least : ℕ} {old new : ℕ → ℕ} {k s v : ℕ} → HasEnds w →
    ((u : ℕ) → u ≤ w.nodes → 0 < old u → new u ≡ old u) → IsBranch w g r least old k s v →
    IsBranch w g r least new k s v
branch-kept {w = w} {s = s} ends same b =
    let e = same (start_of w s) (start_within w s ends b.arc) b.marked in
    record {
      arc = b.arc;
      other = b.other;
      enters = b.enters;
      marked = omega (arith, e, b.marked);
      before = omega (arith, e, b.before);
      room = b.room;
    }

-- one more node
pub tree_next : {w : Network} {g : ℕ → ℕ} {r least : ℕ} {old position node node' step step' : ℕ → ℕ} {size s v : ℕ} →
    HasEnds w → IsTree w g r least old node step size → IsAdded w.nodes old position node node' step step' size s v →
    IsBranch w g r least old size s v → IsTree w g r least position node' step' (size + 1)
tree_next {w = w} {old = old} {position = position} {node = node} {node' = node'} {size = size} {v = v} ends t a
    branch =
    let kept = λ (u : ℕ) (c : u ≤ w.nodes) (m : 0 < old u). a.others u c
    (λ e. absurd (omega (arith, ap old e, a.none))) in
    let count = total_change (w.nodes + 1) v (λ u. when (nat_lt 0 (position u)) 1) (λ u. when (nat_lt 0 (old u)) 1)
    (omega (arith, a.inside)) (λ u c ne. ap (λ (x : ℕ). when (nat_lt 0 x) 1) (a.others u (omega arith) ne)) in
    let was = ap (λ (x : ℕ). when (nat_lt 0 x) 1) a.none in
    let is = ap (λ (x : ℕ). when (nat_lt 0 x) 1) a.here in
    let one : when (nat_lt 0 (size + 1)) 1 ≡ 1 = ap (λ (x : Bool). when x 1) (lt-ltb 0 (size + 1) (omega arith)) in
    record {
      some = omega arith;
      root = a.nodes_before 0 t.some ∙ t.root;
      counted = omega (arith, count, was, is, one, t.counted);
      placed = λ k c. elim (cases_eq k size) [
        | inl e ↦ rw e (omega (arith, a.at_node, a.inside), ap position a.at_node ∙ a.here)
        | inr ne ↦
            let old_place = t.placed k (omega arith) in
            rw (a.nodes_before k (omega arith))
            (old_place.0, kept (node k) old_place.0 (omega (arith, old_place.1)) ∙ old_place.1)
      ];
      marked = λ u c m. elim (cases_eq u v) [
        | inl e ↦
            let back : position u - 1 ≡ size = omega (arith, ap position e, a.here) in
            (omega arith, ap node' back ∙ a.at_node ∙ sym e)
        | inr ne ↦
            let same = a.others u c ne in
            let there = t.marked u c (omega arith) in (
              omega (arith, there.0),
              a.nodes_before (position u - 1) (omega (arith, there.0)) ∙ ap (λ (x : ℕ). node (x - 1)) same ∙ there.1,
            )
      ];
      grown = λ k c d. elim (cases_eq k size) [
        | inl e ↦ rw (e, a.at_step, a.at_node) (branch-kept ends kept branch)
        | inr ne ↦ rw (a.steps_before k (omega arith), a.nodes_before k (omega arith))
            (branch-kept ends kept (t.grown k c (omega arith)))
      ];
    }

-- one more node is after those before
pub grows_next : {nodes : ℕ} {old new node node' step step' : ℕ → ℕ} {size s v : ℕ} →
    IsAdded nodes old new node node' step step' size s v → Grows nodes old new size (size + 1)
grows_next {old = old} {new = new} {v = v} a = record {
  same = λ u c m. a.others u c (λ e. absurd (omega (arith, ap old e, a.none)));
  fresh = λ u c z m. elim (cases_eq u v) [
    | inl e ↦ omega (arith, ap new e, a.here)
    | inr ne ↦ absurd (omega (arith, a.others u c ne))
  ];
  larger = omega arith;
}

-- growing twice
pub grows_more : {nodes : ℕ} {a b c : ℕ → ℕ} {n m k : ℕ} → Grows nodes a b n m → Grows nodes b c m k →
    Grows nodes a c n k
grows_more {b = b} first second = record {
  same = λ u d z. second.same u d (omega (arith, first.same u d z)) ∙ first.same u d z;
  fresh = λ u d z p. elim (cases_eq (b u) 0) [
    | inl e ↦ omega (arith, second.fresh u d e p, first.larger)
    | inr ne ↦ omega (arith, first.fresh u d z (omega arith), second.same u d (omega arith))
  ];
  larger = omega (arith, first.larger, second.larger);
}

-- growing by nothing
pub grows_none : (nodes : ℕ) (a : ℕ → ℕ) (n : ℕ) → Grows nodes a a n n
grows_none nodes a n = record { same = λ u d z. refl; fresh = λ u d z p. absurd (omega arith); larger = omega arith }

-- a node that is not reached was not reached before
pub unreached_before : {nodes : ℕ} {old new : ℕ → ℕ} {size more : ℕ} (v : ℕ) → Grows nodes old new size more →
    v ≤ nodes → new v ≡ 0 → old v ≡ 0
unreached_before {old = old} v grows b none = elim (cases_eq (old v) 0) [
  | inl e ↦ e
  | inr ne ↦ absurd (omega (arith, grows.same v b (omega arith)))
]

-- the head of the arc is reached
pub head_reached : {w : Network} {g : ℕ → ℕ} {r least : ℕ} {position node step : ℕ → ℕ} {size : ℕ} →
    IsTree w g r least position node step size → 0 < position (w.to r)
head_reached {position = position} t = omega (arith, ap position t.root, (t.placed 0 t.some).1)

-- the path to the outside is reached
reached_along : (w : Network) (g : ℕ → ℕ) (r : ℕ) (position : ℕ → ℕ) (v : ℕ) (path : List ℕ) → HasEnds w → IsFlow w g →
    IsClosed w g r 1 position → v ≤ w.nodes → 0 < position v → LeadsOut w r v path → 0 < position w.nodes
reached_along w g r position v [] ends flow closed b m leads = subst (λ (u : ℕ). 0 < position u) leads m
reached_along w g r position v (a ∷ path) ends flow closed b m leads =
    reached_along w g r position (w.to a) path ends flow closed (ends.to_in a leads.0)
    ((closed v b m).out a leads.0 leads.1 leads.2 (omega (arith, leads.3 g flow))) leads.4

-- a node but the head was reached by a step from one that was reached before it
pub way_back : {w : Network} {g : ℕ → ℕ} {r least : ℕ} {position node_of step_of : ℕ → ℕ} {size node : ℕ} → HasEnds w →
    IsTree w g r least position node_of step_of size → node ≤ w.nodes → 0 < position node → node ≢ w.to r →
    IsWayBack w g r least position node (step_of (position node - 1))
way_back {w = w} {position = position} {node_of = node_of} {step_of = step_of} {node = node} ends t inside marked ne =
    let there = t.marked node inside marked in
    let not_first : position node - 1 ≢ 0 = λ e. ne (sym there.1 ∙ ap node_of e ∙ t.root) in
    let branch = t.grown (position node - 1) (omega (arith, not_first)) (omega (arith, there.0)) in
    record {
      arc = branch.arc;
      other = branch.other;
      enters = branch.enters ∙ there.1;
      inside = start_within w (step_of (position node - 1)) ends branch.arc;
      marked = branch.marked;
      before = omega (arith, branch.before);
      room = branch.room;
    }

-- where it did not come to the tail, little is left on the arcs that lead out of what it reached
pub shut_from : {w : Network} {g : ℕ → ℕ} {r least : ℕ} {position node step : ℕ → ℕ} {size : ℕ} → HasEnds w →
    IsTree w g r least position node step size → IsClosed w g r least position → position (w.from r) ≡ 0 →
    AreShut w g r (least - 1) position
shut_from {w} {g} {r} {least} {position} ends t closed none = record {
  head = head_reached t;
  tail = none;
  full = λ a b from to. elim (cases_lt (g a + (least - 1)) (w.upper a)) [
    | inl room ↦
        let ne : a ≢ r = λ is. omega (arith, none, from, ap (λ (x : ℕ). position (w.from x)) is) in
        absurd (omega (arith, (closed (w.from a) (ends.from_in a b) from).out a b refl ne (omega arith), to))
    | inr full ↦ full
  ];
  empty = λ a b ne to from. elim (cases_lt (w.lower a + (least - 1)) (g a)) [
    | inl room ↦ absurd (omega (arith, (closed (w.to a) (ends.to_in a b) to).into a b refl ne (omega arith), from))
    | inr empty ↦ empty
  ];
}

-- and over rooms of 1, the nodes that it did not reach are the greatest tight cut
pub greatest_cut : {w : Network} {g : ℕ → ℕ} {r : ℕ} {position node step : ℕ → ℕ} {size : ℕ} → r < w.arcs →
    HasEnds w → IsFlow w g → HasPathOut w r → IsTree w g r 1 position node step size → IsClosed w g r 1 position →
    position (w.from r) ≡ 0 → IsGreatestCut w g r (unmarked w.nodes position)
greatest_cut {w} {g} {r} {position} {step = step} b ends flow way t closed none = greatest_unmarked b ends flow record {
  outside = reached_along w g r position (w.to r) way.path ends flow closed (ends.to_in r b) (head_reached t) way.leads;
  shut = shut_from ends t closed none;
  rank = position;
  way = λ v inner some ne.
      let back = way_back ends t (omega (arith, inner)) some ne in
      (step (position v - 1), assumption (back));
}
