-- Nodes are put into the queue, and taken out.
use Rattle.std.proofs.Common.{◌≡◌, ℕ, zero, suc, ◌+◌, ◌<◌, ◌≤◌, Bool, true, false, refl, sym, ◌∙◌, ap, subst, arith}
use Rattle.std.proofs.Common.{List, length, replicate, inl, inr}
use Rattle.std.proofs.lemmas.Bool.{both_ways, cases_Bool, cases_eq, cases_lt}
use Rattle.std.proofs.lemmas.Bool.Decides.{nat_tests}
use Rattle.std.proofs.lemmas.List.{get_or-set_same, get_or-set_other, length-replicate, length-set}
use Rattle.std.specs.Prelude.{◌==◌, slice_index, slice_set, if◌then◌else◌}
use Rattle.finite_sums.specs.Sums.{count_where}
use Rattle.finite_sums.proofs.Totals.{total_same, total_add, total_at, total_change, total_zero, count_at_most}
use Rattle.finite_sums.proofs.Counts.{at_inside, fewer}
use Rattle.water_model.specs.Lookups.{has}
use Rattle.water_model.proofs.Sets.{has_below}
use Rattle.plan_residual.specs.Queue.{QueueView, IsQueue, IsEmpty, Extends, IsVisit}

abbrev one_if : Bool → ℕ
one_if t = if t then 1 else 0

-- no node was seen
pub nowhere : (n v : ℕ) → has (replicate n false) v ≡ false
nowhere zero v = refl
nowhere (suc n) zero = refl
nowhere (suc n) (suc v) = nowhere n v

pub queue_none : (n : ℕ) (q : QueueView) → q.seen ≡ replicate n false → length q.nodes ≡ n → q.size ≡ 0 → n ≤ 2000 →
    IsEmpty n q
queue_none n q is room none bounded = record {
  in_queue = record {
    sized = room ∙ sym sized;
    bounded = omega (arith, sized, bounded);
    number = total_zero (length q.seen) (λ v. if has q.seen v then 1 else 0)
        (λ v l. ap (λ t. if t then 1 else 0) (nothing v)) ∙ sym none;
    queued = λ j l. absurd (omega arith);
    each = λ v h. absurd (both_ways (has q.seen v) (nothing v) h);
    once = λ i j a l. absurd (omega arith);
  };
  count = sized;
  none = none;
}
  where
    sized : length q.seen ≡ n
    sized = ap (λ (xs : List Bool). length xs) is ∙ length-replicate n false

    nothing : (v : ℕ) → has q.seen v ≡ false
    nothing v = ap (λ (xs : List Bool). has xs v) is ∙ nowhere n v

-- in an empty queue there is no node
pub seen_none : {n : ℕ} {q : QueueView} → IsEmpty n q → (v : ℕ) → has q.seen v ≡ false
seen_none {q = q} empty v = elim (cases_Bool (has q.seen v)) [
  | inl on ↦ absurd (let at = empty.in_queue.each v on in let l = at.1 in let none = empty.none in omega arith)
  | inr off ↦ off
]

-- nothing is added
pub extends_same : (q : QueueView) → Extends q q
extends_same q = record { kept = λ v h. h; prefix = λ j l. refl; larger = omega arith }

-- one addition after another
pub extends_then : {q one two : QueueView} → Extends q one → Extends one two → Extends q two
extends_then x y = record {
  kept = λ v h. y.kept v (x.kept v h);
  prefix = λ j l. y.prefix j (let m = x.larger in omega arith) ∙ x.prefix j l;
  larger = let m = x.larger in let n = y.larger in omega arith;
}

-- the node was there
pub visit_old : (q : QueueView) (node : ℕ) → IsQueue q → has q.seen node ≡ true → IsVisit q q node
visit_old q node now old = record {
  in_queue = now;
  count = refl;
  extends = extends_same q;
  on = old;
  only = λ v h. inr h;
}

-- there is room for a node that was not there
pub room_for : (q : QueueView) (node : ℕ) → IsQueue q → node < length q.seen → has q.seen node ≡ false →
    q.size < length q.seen
room_for q node now l fresh =
    omega (arith, fewer (length q.seen) (λ v. has q.seen v) node l fresh, now.number)

-- no more were seen than there are
pub queue_fits : (q : QueueView) → IsQueue q → q.size ≤ length q.seen
queue_fits q now = omega (arith, now.number, count_at_most (length q.seen) (λ v. has q.seen v))

-- the node is added
pub visit_new : (q : QueueView) (node : ℕ) → IsQueue q → node < length q.seen → has q.seen node ≡ false →
    IsVisit q record {
      seen = slice_set q.seen node true;
      nodes = slice_set q.nodes q.size node;
      size = q.size + 1;
    } node
visit_new q node now l fresh = record {
  in_queue = record {
    sized = length-set q.nodes q.size node ∙ (now.sized ∙ sym (length-set q.seen node true));
    bounded = (let n = length-set q.seen node true in let f = now.bounded in omega arith);
    number = ap (λ n. count_where n (λ v. has (slice_set q.seen node true) v))
        (length-set q.seen node true)
        ∙ total_same (length q.seen) (λ v. if has (slice_set q.seen node true) v then 1 else 0)
        (λ v. (if has q.seen v then 1 else 0) + (if node == v then 1 else 0)) (λ v k. counted v)
        ∙ (total_add (length q.seen) (λ v. if has q.seen v then 1 else 0) (λ v. if node == v then 1 else 0)
        ∙ omega (arith, now.number, total_at (length q.seen) node 1, at_inside node (length q.seen) 1 l));
    queued = λ j m. elim (cases_lt j q.size) [
      | inl before ↦ subst (λ v. has (slice_set q.seen node true) v ≡ true) (sym (prefix j before))
          (kept (slice_index q.nodes j) (now.queued j before))
      | inr here ↦ (let same : j ≡ q.size = omega arith in
          subst (λ k. has (slice_set q.seen node true) (slice_index (slice_set q.nodes q.size node) k) ≡ true)
          (sym same) (subst (λ v. has (slice_set q.seen node true) v ≡ true) (sym last) on))
    ];
    each = λ v h. elim (cases_eq v node) [
      | inl same ↦ (q.size, omega arith, last ∙ sym same)
      | inr other ↦ (let at = now.each v (sym (apart v other) ∙ h) in let b = at.1 in
          (at.0, omega arith, prefix at.0 b ∙ at.2))
    ];
    once = λ i j a m same. elim (cases_lt j q.size) [
      | inl before ↦ now.once i j a before (sym (prefix i (omega arith)) ∙ (same ∙ prefix j before))
      | inr here ↦ (let at : j ≡ q.size = omega arith in
          both_ways (has q.seen node) fresh
          (sym (ap (has q.seen) (sym (prefix i (omega arith)) ∙ (same
          ∙ (ap (slice_index (slice_set q.nodes q.size node)) at ∙ last)))) ∙ now.queued i (omega arith)))
    ];
  };
  count = length-set q.seen node true;
  extends = record { kept = kept; prefix = prefix; larger = omega arith };
  on = on;
  only = λ v h. elim (cases_eq v node) [ inl same ↦ inl same | inr other ↦ inr (sym (apart v other) ∙ h) ];
}
  where
    room : q.size < length q.nodes
    room = let r = room_for q node now l fresh in let s = now.sized in omega arith

    on : has (slice_set q.seen node true) node ≡ true
    on = get_or-set_same q.seen node true false l

    apart : (v : ℕ) → (v ≡ node → ⊥) → has (slice_set q.seen node true) v ≡ has q.seen v
    apart v other = get_or-set_other q.seen node v true false other

    kept : (v : ℕ) → has q.seen v ≡ true → has (slice_set q.seen node true) v ≡ true
    kept v h = elim (cases_eq v node) [
      | inl same ↦ ap (has (slice_set q.seen node true)) same ∙ on
      | inr other ↦ apart v other ∙ h
    ]

    prefix : (j : ℕ) → j < q.size → slice_index (slice_set q.nodes q.size node) j ≡ slice_index q.nodes j
    prefix j m = get_or-set_other q.nodes q.size j node 0 (λ e. absurd (omega arith))

    last : slice_index (slice_set q.nodes q.size node) q.size ≡ node
    last = get_or-set_same q.nodes q.size node 0 room

    counted : (v : ℕ) → (if has (slice_set q.seen node true) v then 1 else 0)
        ≡ (if has q.seen v then 1 else 0) + (if node == v then 1 else 0)
    counted v = elim (cases_eq v node) [
      | inl same ↦ subst (λ u. (if has (slice_set q.seen node true) u then 1 else 0)
          ≡ (if has q.seen u then 1 else 0) + (if node == u then 1 else 0)) (sym same)
          (here (has (slice_set q.seen node true) node) (has q.seen node) node on fresh)
      | inr other ↦ ap (λ t. if t then 1 else 0) (apart v other) ∙ there (has q.seen v) v node other
    ]
      where
        here : (t u : Bool) (n : ℕ) → t ≡ true → u ≡ false → (if t then 1 else 0) ≡ (if u then 1 else 0) +
            (if n == n then 1 else 0)
        here t u n h i = grind (arith, nat_tests)

        there : (t : Bool) (v n : ℕ) → (v ≡ n → ⊥) → (if t then 1 else 0) ≡ (if t then 1 else 0) +
            (if n == v then 1 else 0)
        there t v n h = grind (arith, nat_tests)

-- the last node is taken out
pub forget_last : (q : QueueView) (size : ℕ) → IsQueue q → q.size ≡ size + 1 →
    IsQueue (record { seen = slice_set q.seen (slice_index q.nodes size) false; nodes = q.nodes; size = size })
forget_last q size now last = record {
  sized = now.sized ∙ sym (length-set q.seen node false);
  bounded = (let n = length-set q.seen node false in let f = now.bounded in omega arith);
  number = ap (λ n. count_where n (λ v. has (slice_set q.seen node false) v)) (length-set q.seen node false)
      ∙ (let n = now.number in
      let other = total_change (length q.seen) node (λ v. one_if (has (slice_set q.seen node false) v))
      (λ v. one_if (has q.seen v)) (has_below q.seen node on) (λ v l ne. ap one_if (apart v ne)) in
      omega (arith, other, ap one_if off, ap one_if on, n));
  queued = λ j l. apart (slice_index q.nodes j) (now.once j size l (omega arith)) ∙ now.queued j (omega arith);
  each = λ v h. (let at = now.each v (kept v h) in
      elim (cases_eq at.0 size) [
        | inl same ↦ absurd (both_ways (has (slice_set q.seen node false) v)
            (ap (has (slice_set q.seen node false)) (sym at.2 ∙ ap (slice_index q.nodes) same) ∙ off) h)
        | inr other ↦ (at.0, (let b = at.1 in omega arith), at.2)
      ]);
  once = λ i j a l. now.once i j a (omega arith);
}
  where
    node : ℕ
    node = slice_index q.nodes size

    on : has q.seen node ≡ true
    on = now.queued size (omega arith)

    off : has (slice_set q.seen node false) node ≡ false
    off = get_or-set_same q.seen node false false (has_below q.seen node on)

    apart : (v : ℕ) → (v ≡ node → ⊥) → has (slice_set q.seen node false) v ≡ has q.seen v
    apart v other = get_or-set_other q.seen node v false false other

    kept : (v : ℕ) → has (slice_set q.seen node false) v ≡ true → has q.seen v ≡ true
    kept v h = elim (cases_eq v node) [
      | inl same ↦ ap (has q.seen) same ∙ on
      | inr other ↦ sym (apart v other) ∙ h
    ]

-- two queues with the same first entries have the same nodes
pub same_queue : {p q : QueueView} → IsQueue p → IsQueue q → p.size ≡ q.size →
    ((j : ℕ) → j < p.size → slice_index q.nodes j ≡ slice_index p.nodes j) →
    (v : ℕ) → has p.seen v ≡ true → has q.seen v ≡ true
same_queue {q = q} now other size prefix v h =
    let at = now.each v h in
    let below = at.1 in
    ap (has q.seen) (sym at.2 ∙ sym (prefix at.0 at.1)) ∙ other.queued at.0 (omega arith)
