-- A search goes on, over one more link.
use Rattle.std.proofs.Common.{◌≡◌, ◌≢◌, ℕ, suc, ◌+◌, ◌<◌, ◌≤◌, Bool, true, false, refl, sym, ◌∙◌, ap, subst, arith}
use Rattle.std.proofs.Common.{List, [], ◌∷◌, ◌++◌, length, replicate, inl, inr}
use Rattle.std.proofs.lemmas.Bool.{cases_eq, cases_lt, cases_Bool, false_from_ne_true}
use Rattle.std.proofs.lemmas.Bool.Decides.{nat_tests}
use Rattle.std.proofs.lemmas.List.{get_or-set_same, get_or-set_other, get_or-replicate, length-set, length-replicate}
use Rattle.std.proofs.lemmas.Grind.{common_steps}
use Rattle.std.specs.Prelude.{◌==◌, ◌||◌, nat_lt, slice_index, slice_set, if◌then◌else◌, Option, Some}
use Rattle.finite_sums.proofs.Totals.{total_same, total_add, total_at, count_at_most}
use Rattle.water_model.specs.Lookups.{has}
use Rattle.water_model.specs.Network.{walks, tail_in, head_in}
use Rattle.chains.proofs.Walking.{next_has, splits}
use Rattle.river_net.specs.Firsts.{IsNextFrom, IsWithin}
use Rattle.river_net.specs.GraphView.{GraphView}
use Rattle.river_net.specs.Search.{IsSearch, IsExpanded, IsExpanding, reaches_itself}
use Rattle.finite_sums.proofs.Counts.{at_inside}
use Rattle.river_net.proofs.Walks.{walk_on, walk_one, walk_within, walk_stays}

-- what a set has with one more node
has_more : (seen : List Bool) (v u : ℕ) → v < length seen → has (slice_set seen v true) u ≡ (u == v || has seen u)
has_more seen v u l = elim (cases_eq u v) [
  | inl same ↦
      ap (has (slice_set seen v true)) same ∙ (get_or-set_same seen v true false l ∙ here u v (has seen u) same)
  | inr other ↦ get_or-set_other seen v u true false other ∙ there u v (has seen u) other
]
  where
    here : (u v : ℕ) (t : Bool) → u ≡ v → true ≡ (u == v || t)
    here u v t e = grind (arith, nat_tests)

    there : (u v : ℕ) (t : Bool) → u ≢ v → t ≡ (u == v || t)
    there u v t e = grind (arith, nat_tests)

-- at the start one node is seen
pub search_start : {g : GraphView} {start : ℕ} {seen : List Bool} {queue : List ℕ} → start < g.nodes →
    seen ≡ slice_set (replicate g.nodes false) start true → queue ≡ start ∷ [] → IsExpanded g start seen queue 0
search_start {g} {start} {seen} {queue} inside seen_is queue_is = record {
  search = record {
    count = ap length seen_is ∙ (length-set (replicate g.nodes false) start true ∙ length-replicate g.nodes false);
    start_seen = only start inside ∙ own start;
    number = total_same g.nodes (λ v. if has seen v then 1 else 0) (λ v. if start == v then 1 else 0)
        (λ v l. ap (λ t. if t then 1 else 0) (only v l ∙ turned v start))
        ∙ (total_at g.nodes start 1 ∙ (at_inside start g.nodes 1 inside ∙ sym (ap length queue_is)));
    queued = λ j l. (let at = first j l in omega arith);
    each = λ v l h. (
      0,
      (let n = ap length queue_is in omega arith),
      ap (λ (xs : List ℕ). slice_index xs 0) queue_is ∙ sym (is_start v (sym (only v l) ∙ h)),
    );
    reached = λ j e l m at. subst (λ v. walks g.links (j + 1) v (head_in g.links e) ≡ true) (at ∙ first j l)
        (walk_within g.links 1 (j + 1) (tail_in g.links e) (head_in g.links e) (omega arith) (walk_one g.links 0 e m));
  };
  closed = λ j e below. absurd (omega arith);
}
  where
    room : start < length (replicate g.nodes false)
    room = let n = length-replicate g.nodes false in omega arith

    only : (v : ℕ) → v < g.nodes → has seen v ≡ (v == start)
    only v l = ap (λ (xs : List Bool). has xs v) seen_is ∙ (has_more (replicate g.nodes false) start v room
        ∙ (ap (λ t. v == start || t) (get_or-replicate g.nodes v false false l) ∙ or_none (v == start)))
      where
        or_none : (t : Bool) → (t || false) ≡ t
        or_none true = refl
        or_none false = refl

    own : (v : ℕ) → v == v ≡ true
    own v = grind (arith, nat_tests)

    turned : (v w : ℕ) → v == w ≡ (w == v)
    turned v w = grind (arith, nat_tests)

    is_start : (v : ℕ) → v == start ≡ true → v ≡ start
    is_start v h = grind (arith, nat_tests)

    first : (j : ℕ) → j < length queue → slice_index queue j ≡ start
    first j l = let n = ap length queue_is in let none : j ≡ 0 = omega arith in
        ap (slice_index queue) none ∙ ap (λ (xs : List ℕ). slice_index xs 0) queue_is

-- a link to the start closes a walk
pub expand_found : {g : GraphView} {start : ℕ} {seen : List Bool} {queue : List ℕ} {done node e : ℕ} →
    IsExpanding g start seen queue done node (Some e) → head_in g.links e ≡ start → reaches_itself g start ≡ true
expand_found {g} {start} {seen} {queue} {done} {node} {e} now found =
    let number = now.expanded.search.number in
    let bounded = count_at_most g.nodes (λ v. has seen v) in
    let within = now.within in
    walk_within g.links (done + 1) g.nodes start start (omega arith)
    (subst (λ v. walks g.links (done + 1) start v ≡ true) found
    (now.expanded.search.reached done e within now.leaves.0 (now.leaves.1 ∙ sym now.at)))

-- a link is followed that does not lead to the start
pub expand_next : {g : GraphView} {start : ℕ} {seen : List Bool} {queue : List ℕ} {done node e : ℕ} {seen' : List Bool}
    {queue' : List ℕ} {next : Option ℕ} →
    IsWithin g.nodes g.links → IsExpanding g start seen queue done node (Some e) → (head_in g.links e ≡ start → ⊥) →
    seen' ≡ slice_set seen (head_in g.links e) true →
    queue' ≡ (if has seen (head_in g.links e) then queue else queue ++ head_in g.links e ∷ []) →
    IsNextFrom g.links (tail_in g.links e) (e + 1) next →
    IsExpanding g start seen' queue' done node next
expand_next {g} {start} {seen} {queue} {done} {node} {e} {seen'} {queue'} {next} within now other seen_is
    queue_is first =
    elim (cases_Bool (has seen h)) [
      | inl old ↦ (let same : queue' ≡ queue = queue_is ∙ ap (λ t. if t then queue else queue ++ h ∷ []) old in
          subst (λ xs. IsExpanding g start seen' xs done node next) (sym same)
          (all queue (kept old) (omega arith) (λ j l. refl)))
      | inr fresh ↦
          (let same : queue' ≡ queue ++ h ∷ [] = queue_is ∙ ap (λ t. if t then queue else queue ++ h ∷ []) fresh in
          subst (λ xs. IsExpanding g start seen' xs done node next) (sym same)
          (all (queue ++ h ∷ []) (added fresh) (omega (arith, more)) earlier))
    ]
  where
    h : ℕ
    h = head_in g.links e

    inside : h < g.nodes
    inside = (within.ends e now.leaves.0).1

    s : IsSearch g start seen queue
    s = now.expanded.search

    on : IsNextFrom g.links node (e + 1) next
    on = subst (λ v. IsNextFrom g.links v (e + 1) next) now.leaves.1 first

    has_is : (u : ℕ) → has seen' u ≡ (u == h || has seen u)
    has_is u = ap (λ (xs : List Bool). has xs u) seen_is ∙ has_more seen h u (let c = s.count in omega (arith, inside))

    keeps : (u : ℕ) → has seen u ≡ true → has seen' u ≡ true
    keeps u t = has_is u ∙ either u h (has seen u) t
      where
        either : (u h : ℕ) (t : Bool) → t ≡ true → (u == h || t) ≡ true
        either u h t e = grind (arith, nat_tests)

    count : length seen' ≡ g.nodes
    count = ap length seen_is ∙ (length-set seen h true ∙ s.count)

    more : length (queue ++ h ∷ []) ≡ length queue + 1
    more = grind (arith, common_steps)

    earlier : (j : ℕ) → j < length queue → slice_index (queue ++ h ∷ []) j ≡ slice_index queue j
    earlier j l = grind (arith, common_steps)

    last : slice_index (queue ++ h ∷ []) (length queue) ≡ h
    last = grind (arith, common_steps)

    kept : has seen h ≡ true → IsSearch g start seen' queue
    kept old = record {
      count = count;
      start_seen = keeps start s.start_seen;
      number = total_same g.nodes (λ v. if has seen' v then 1 else 0) (λ v. if has seen v then 1 else 0)
          (λ v l. ap (λ t. if t then 1 else 0) (back v)) ∙ s.number;
      queued = s.queued;
      each = λ v l t. s.each v l (sym (back v) ∙ t);
      reached = s.reached;
    }
      where
        back : (v : ℕ) → has seen' v ≡ has seen v
        back v = has_is v ∙ same v h (has seen v) (λ e. ap (has seen) e ∙ old)
          where
            same : (v h : ℕ) (t : Bool) → (v ≡ h → t ≡ true) → (v == h || t) ≡ t
            same v h t e = grind (arith, nat_tests)

    added : has seen h ≡ false → IsSearch g start seen' (queue ++ h ∷ [])
    added fresh = record {
      count = count;
      start_seen = keeps start s.start_seen;
      number = total_same g.nodes (λ v. if has seen' v then 1 else 0)
          (λ v. (if has seen v then 1 else 0) + (if h == v then 1 else 0)) (λ v l. counted v)
          ∙ (total_add g.nodes (λ v. if has seen v then 1 else 0) (λ v. if h == v then 1 else 0)
          ∙ (let n = s.number in let t = total_at g.nodes h 1 in let i = at_inside h g.nodes 1 inside in
          omega (arith, more)));
      queued = λ j l. elim (cases_lt j (length queue)) [
        | inl before ↦ (let q = s.queued j before in let r = earlier j before in omega arith)
        | inr here ↦ (let r = at_end j l here in omega (arith, inside))
      ];
      each = λ v l t. elim (cases_eq v h) [
        | inl same ↦ (length queue, omega (arith, more), last ∙ sym same)
        | inr apart ↦
            (let q = s.each v l (sym (back v apart) ∙ t) in let b = q.1 in
            (q.0, omega (arith, more), earlier q.0 b ∙ q.2))
      ];
      reached = λ j f l m at. elim (cases_lt j (length queue)) [
        | inl before ↦ s.reached j f before m (at ∙ earlier j before)
        | inr here ↦ (let r = at_end j l here in let b = now.within in
            walk_within g.links (done + 1 + 1) (j + 1) start (head_in g.links f) (omega arith) (further f m (at ∙ r)))
      ];
    }
      where
        at_end : (j : ℕ) → j < length (queue ++ h ∷ []) → length queue ≤ j → slice_index (queue ++ h ∷ []) j ≡ h
        at_end j l m = let same : j ≡ length queue = omega (arith, more) in
            ap (slice_index (queue ++ h ∷ [])) same ∙ last

        back : (v : ℕ) → (v ≡ h → ⊥) → has seen' v ≡ has seen v
        back v apart = has_is v ∙ same v h (has seen v) apart
          where
            same : (v h : ℕ) (t : Bool) → (v ≡ h → ⊥) → (v == h || t) ≡ t
            same v h t e = grind (arith, nat_tests)

        counted : (v : ℕ) → (if has seen' v then 1 else 0) ≡ (if has seen v then 1 else 0) + (if h == v then 1 else 0)
        counted v = ap (λ t. if t then 1 else 0) (has_is v) ∙ one v h (has seen v) (λ e. ap (has seen) e ∙ fresh)
          where
            one : (v h : ℕ) (t : Bool) → (v ≡ h → t ≡ false) →
                (if v == h || t then 1 else 0) ≡ (if t then 1 else 0) + (if h == v then 1 else 0)
            one v h t e = grind (arith, nat_tests)

        one_more : (k : ℕ) → k + 1 ≡ suc k
        one_more k = omega arith

        -- a walk goes on after the new node
        further : (f : ℕ) → f < length g.links → tail_in g.links f ≡ h →
            walks g.links (done + 1 + 1) start (head_in g.links f) ≡ true
        further f m at =
            ap (λ k. walks g.links k start (head_in g.links f)) (one_more (done + 1))
            ∙ walk_on g.links (done + 1) start f m (subst (λ v. walks g.links (done + 1) start v ≡ true) (sym at)
            (s.reached done e now.within now.leaves.0 (now.leaves.1 ∙ sym now.at)))

    all : (queue' : List ℕ) → IsSearch g start seen' queue' → length queue ≤ length queue' →
        ((j : ℕ) → j < length queue → slice_index queue' j ≡ slice_index queue j) →
        IsExpanding g start seen' queue' done node next
    all queue' search longer same = record {
      expanded = record {
        search = search;
        closed = λ j f below l at. (let b = now.within in let c =
            now.expanded.closed j f below l (at ∙ same j (omega arith)) in (keeps (head_in g.links f) c.0, c.1));
      };
      within = (let b = now.within in omega arith);
      at = same done now.within ∙ now.at;
      leaves = next_has (tail_in g.links) node (e + 1) (length g.links) next on;
      followed = λ f l at before. elim (cases_eq f e) [
        | inl here ↦ (
          has_is (head_in g.links f)
              ∙ own (head_in g.links f) h (has seen (head_in g.links f)) (ap (head_in g.links) here),
          λ q. other (ap (head_in g.links) (sym here) ∙ q),
        )
        | inr apart ↦
            (let c = now.followed f l at (less f e apart (sym (splits (tail_in g.links) node (e + 1) (length g.links) next on f l at) ∙ before)) in
            (keeps (head_in g.links f) c.0, c.1))
      ];
    }
      where
        own : (u h : ℕ) (t : Bool) → u ≡ h → (u == h || t) ≡ true
        own u h t e = grind (arith, nat_tests)

        less : (f e : ℕ) → (f ≡ e → ⊥) → nat_lt f (e + 1) ≡ true → nat_lt f e ≡ true
        less f e apart h = grind (arith, nat_tests)

-- where the links of all nodes in the queue were followed, no walk leads back
pub search_ends : {g : GraphView} {start : ℕ} {seen : List Bool} {queue : List ℕ} {done : ℕ} →
    IsWithin g.nodes g.links → start < g.nodes → length queue ≤ done →
    IsExpanded g start seen queue done → reaches_itself g start ≡ false
search_ends {g} {start} {seen} within inside all now = false_from_ne_true (reaches_itself g start) (λ h.
    walk_stays g.links (has seen) start g.nodes start (λ e l t. let at =
    now.search.each (tail_in g.links e) (within.ends e l).0 t in
    let b = at.1 in now.closed at.0 e (omega arith) l (sym at.2)) now.search.start_seen h)

-- the queue is no longer than there are nodes
pub queue_fits : {g : GraphView} {start : ℕ} {seen : List Bool} {queue : List ℕ} → IsSearch g start seen queue →
    length queue ≤ g.nodes
queue_fits {g} {start} {seen} now = omega (arith, now.number, count_at_most g.nodes (λ v. has seen v))
