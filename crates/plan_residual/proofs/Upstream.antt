-- The nodes from which a node is reached, with ranks that fall along a way to it.
use Rattle.std.proofs.Common.{◌≡◌, ◌≢◌, ℕ, zero, suc, ◌+◌, ◌<◌, ◌≤◌, Bool, true, false, refl, sym, ◌∙◌, ap, arith}
use Rattle.std.proofs.Common.{subst, List, length, replicate, inl, inr}
use Rattle.std.proofs.lemmas.Bool.{and_from, and_parts, both_ways, cases_eq, cases_Bool, eq-eqb, ne_eqb, not-true}
use Rattle.std.proofs.lemmas.Bool.{true_from_ne_false}
use Rattle.std.proofs.lemmas.List.{get_or-set_same, get_or-set_other, length-set, length-replicate}
use Rattle.std.specs.Prelude.{◌&&◌, ◌==◌, not, if◌then◌else◌, slice_set, ◌⊎◌}
use Rattle.finite_sums.specs.Sums.{count_where}
use Rattle.finite_sums.proofs.Totals.{total_change}
use Rattle.water_model.specs.Lookups.{has}
use Rattle.water_model.specs.Basin.{head_of, tail_of}
use Rattle.water_model.specs.Valid.{IsValidBasin}
use Rattle.water_model.specs.declared.types.Basin.{Basin}
use Rattle.water_model.specs.declared.types.MonthRecord.{MonthRecord}
use Rattle.water_model.proofs.Valid.{ends}
use Rattle.water_model.proofs.Sets.{has_below}
use Rattle.plan_residual.specs.Residual.{can_rise, can_fall}
use Rattle.plan_residual.specs.Core.{IsClosedBackward}
use Rattle.plan_residual.proofs.Queues.{nowhere}

-- a step over a link, by whether it goes backward
abbrev pub room_by : Basin → MonthRecord → ℕ → Bool → ℕ → Bool
room_by b m r back e = if back then can_fall b m r e else can_rise b m e

abbrev pub start_by : Basin → Bool → ℕ → ℕ
start_by b back e = if back then head_of b e else tail_of b e

abbrev pub end_by : Basin → Bool → ℕ → ℕ
end_by b back e = if back then tail_of b e else head_of b e

-- a step with room leads from a node to one that passes a test and has a lesser rank
pub record HasStep (b : Basin) (m : MonthRecord) (r : ℕ) (inside : ℕ → Bool) (rank : ℕ → ℕ) (n : ℕ) : Type 0 where
  pub link : ℕ
  pub back : Bool
  pub below : link < length b.links
  pub room : room_by b m r back link ≡ true
  pub start : start_by b back link ≡ n
  pub ends : inside (end_by b back link) ≡ true
  pub lower : rank (end_by b back link) < rank n

-- a set that has a node, and of each other node a step to one of lesser rank
pub record AreRanked (b : Basin) (m : MonthRecord) (r target : ℕ) (set : List Bool) : Type 0 where
  pub one_each : length set ≡ length b.nodes
  pub node : has set target ≡ true
  pub rank : ℕ → ℕ
  pub top : ℕ
  pub below : (n : ℕ) → has set n ≡ true → rank n < top
  pub step : (n : ℕ) → has set n ≡ true → n ≢ target → HasStep b m r (has set) rank n

-- such a set that is closed backward
pub record HasRanks (b : Basin) (m : MonthRecord) (r target : ℕ) : Type 0 where
  pub set : List Bool
  pub ranked : AreRanked b m r target set
  pub closed : IsClosedBackward b m r set

-- an index that passes a test, or none
pub find_below : (n : ℕ) (p : ℕ → Bool) → ((k : ℕ) → k < n → p k ≡ false) ⊎ ((k : ℕ) × (k < n) × (p k ≡ true))
find_below zero p = inl (λ k l. absurd (omega arith))
find_below (suc n) p = elim (find_below n p) [
  | inl none ↦ elim (cases_Bool (p n)) [
    | inl here ↦ inr (n, omega arith, here)
    | inr not_here ↦ inl (λ k l. elim (cases_eq k n) [
      | inl same ↦ ap p same ∙ not_here
      | inr other ↦ none k (omega arith)
    ])
  ]
  | inr some ↦ inr (some.0, (let l = some.1 in omega arith), some.2)
]

-- whether a step with room leads into a set
leads_in : Basin → MonthRecord → ℕ → List Bool → Bool → ℕ → Bool
leads_in b m r set back e = room_by b m r back e && (has set (end_by b back e) && not (has set (start_by b back e)))

-- the nodes that are not in a set
count_out : Basin → List Bool → ℕ
count_out b set = count_where (length b.nodes) (λ n. not (has set n))

one_out : Bool → ℕ
one_out t = if not t then 1 else 0

one_fewer : (n : ℕ) (set : List Bool) (v : ℕ) → length set ≡ n → v < n → has set v ≡ false →
    count_where n (λ k. not (has (slice_set set v true) k)) + 1 ≡ count_where n (λ k. not (has set k))
unfolding one_out
one_fewer n set v len l out =
    let other = total_change n v (λ k. one_out (has (slice_set set v true) k)) (λ k. one_out (has set k)) l
    (λ k c ne. ap one_out (get_or-set_other set v k true false ne)) in
    let now : one_out (has (slice_set set v true) v) ≡ 0 =
    ap one_out (get_or-set_same set v true false (omega (arith, len, l))) in
    let before : one_out (has set v) ≡ 1 = ap one_out out in
    omega (arith, other, now, before)

-- the ranks with that of one node
rank_with : ℕ → ℕ → (ℕ → ℕ) → ℕ → ℕ
rank_with v top rank n = if n == v then top else rank n

rank_here : (v top : ℕ) (rank : ℕ → ℕ) (n : ℕ) → n ≡ v → rank_with v top rank n ≡ top
unfolding rank_with
rank_here v top rank n same = ap (λ t. if t then top else rank n) (eq-eqb n v same)

rank_other : (v top : ℕ) (rank : ℕ → ℕ) (n : ℕ) → n ≢ v → rank_with v top rank n ≡ rank n
unfolding rank_with
rank_other v top rank n ne = ap (λ t. if t then top else rank n) (ne_eqb n v ne)

-- a node that a set had stays in it
has_more : (set : List Bool) (v n : ℕ) → has set n ≡ true → has (slice_set set v true) n ≡ true
has_more set v n h = elim (cases_eq n v) [
  | inl same ↦ ap (has (slice_set set v true)) same
      ∙ get_or-set_same set v true false (subst (λ k. k < length set) same (has_below set n h))
  | inr other ↦ get_or-set_other set v n true false other ∙ h
]

has_had : (set : List Bool) (v n : ℕ) → n ≢ v → has (slice_set set v true) n ≡ true → has set n ≡ true
has_had set v n ne h = sym (get_or-set_other set v n true false ne) ∙ h

-- one more node
with_node : (b : Basin) (m : MonthRecord) (r target : ℕ) (set : List Bool) (back : Bool) (e : ℕ) → e < length b.links →
    AreRanked b m r target set → start_by b back e < length b.nodes → room_by b m r back e ≡ true →
    has set (end_by b back e) ≡ true → has set (start_by b back e) ≡ false →
    AreRanked b m r target (slice_set set (start_by b back e) true)
with_node b m r target set back e l now inside room to out =
    let v : ℕ = start_by b back e in
    let rank : ℕ → ℕ = rank_with v now.top now.rank in
    let in_set : (n : ℕ) → has set n ≡ true → rank n ≡ now.rank n = (λ n h. rank_other v now.top now.rank n
    (λ same. both_ways (has set n) (ap (has set) same ∙ out) h)) in
    record {
      one_each = length-set set v true ∙ now.one_each;
      node = has_more set v target now.node;
      rank = rank;
      top = now.top + 1;
      below = λ n h. elim (cases_eq n v) [
        | inl same ↦ omega (arith, rank_here v now.top now.rank n same)
        | inr other ↦ omega (arith, rank_other v now.top now.rank n other, now.below n (has_had set v n other h))
      ];
      step = λ n h ne. elim (cases_eq n v) [
        | inl same ↦ record {
          link = e;
          back = back;
          below = l;
          room = room;
          start = sym same;
          ends = has_more set v (end_by b back e) to;
          lower = omega (
            arith,
            rank_here v now.top now.rank n same,
            in_set (end_by b back e) to,
            now.below (end_by b back e) to,
          );
        }
        | inr other ↦ (let s = now.step n (has_had set v n other h) ne in record {
          link = s.link;
          back = s.back;
          below = s.below;
          room = s.room;
          start = s.start;
          ends = has_more set v (end_by b s.back s.link) s.ends;
          lower = omega (arith, rank_other v now.top now.rank n other, in_set (end_by b s.back s.link) s.ends, s.lower);
        })
      ];
    }

-- a set that is closed, or that a step with room leads into
grown : (b : Basin) (m : MonthRecord) (r target : ℕ) (set : List Bool) → IsValidBasin b → AreRanked b m r target set →
    ((more : List Bool) → AreRanked b m r target more → count_out b more + 1 ≡ count_out b set → HasRanks b m r
    target) →
    HasRanks b m r target
unfolding leads_in count_out
grown b m r target set valid now further =
    elim (find_below (length b.links) (leads_in b m r set false)) [
      | inl rises ↦ elim (find_below (length b.links) (leads_in b m r set true)) [
        | inl falls ↦ record {
          set = set;
          ranked = now;
          closed = record {
            forward = λ e l room to. closed false e room to (rises e l);
            backward = λ e l room to. closed true e room to (falls e l);
          };
        }
        | inr some ↦ one_more true some.0 some.1 some.2
      ]
      | inr some ↦ one_more false some.0 some.1 some.2
    ]
  where
    closed : (back : Bool) (e : ℕ) → room_by b m r back e ≡ true → has set (end_by b back e) ≡ true →
        room_by b m r back e && (has set (end_by b back e) && not (has set (start_by b back e))) ≡ false →
        has set (start_by b back e) ≡ true
    closed back e room to none = true_from_ne_false (has set (start_by b back e)) (λ out.
        both_ways (room_by b m r back e && (has set (end_by b back e) && not (has set (start_by b back e))))
        none (and_from (room_by b m r back e) (has set (end_by b back e) && not (has set (start_by b back e))) room
        (and_from (has set (end_by b back e)) (not (has set (start_by b back e))) to (ap not out))))

    starts : (back : Bool) (e : ℕ) → e < length b.links → start_by b back e < length b.nodes
    starts true e l = (ends b valid e l).1
    starts false e l = (ends b valid e l).0

    one_more : (back : Bool) (e : ℕ) → e < length b.links →
        room_by b m r back e && (has set (end_by b back e) && not (has set (start_by b back e))) ≡ true →
        HasRanks b m r target
    one_more back e l h =
        let outer = and_parts (room_by b m r back e) (has set (end_by b back e) && not (has set (start_by b back e)))
        h in
        let inner = and_parts (has set (end_by b back e)) (not (has set (start_by b back e))) outer.1 in
        let out = not-true (has set (start_by b back e)) inner.1 in
        further (slice_set set (start_by b back e) true)
        (with_node b m r target set back e l now (starts back e l) outer.0 inner.0 out)
        (one_fewer (length b.nodes) set (start_by b back e) now.one_each (starts back e l) out)

grow : (fuel : ℕ) (b : Basin) (m : MonthRecord) (r target : ℕ) (set : List Bool) → IsValidBasin b →
    AreRanked b m r target set → count_out b set ≤ fuel → HasRanks b m r target
grow zero b m r target set valid now bounded = grown b m r target set valid now
    (λ more ranked one. absurd (omega (arith, one, bounded)))
grow (suc fuel) b m r target set valid now bounded =
    grown b m r target set valid now (λ more ranked one.
    grow fuel b m r target more valid ranked (omega (arith, one, bounded)))

-- one node alone
ranked_alone : (b : Basin) (m : MonthRecord) (r target : ℕ) (none : List Bool) → none ≡ replicate (length b.nodes)
    false →
    target < length b.nodes → AreRanked b m r target (slice_set none target true)
ranked_alone b m r target none is l = record {
  one_each = length-set none target true ∙ len;
  node = get_or-set_same none target true false (omega (arith, l, len));
  rank = λ n. 0;
  top = 1;
  below = λ n h. omega arith;
  step = λ n h ne. absurd (both_ways (has (slice_set none target true) n)
      (get_or-set_other none target n true false ne ∙ (ap (λ (s : List Bool). has s n) is ∙ nowhere (length b.nodes) n))
      h);
}
  where
    len : length none ≡ length b.nodes
    len = ap (λ (s : List Bool). length s) is ∙ length-replicate (length b.nodes) false

-- there are ranks for each node
pub ranks_to : (b : Basin) (m : MonthRecord) (r target : ℕ) → IsValidBasin b → target < length b.nodes →
    HasRanks b m r target
ranks_to b m r target valid l =
    let none : List Bool = replicate (length b.nodes) false in
    grow (count_out b (slice_set none target true)) b m r target (slice_set none target true) valid
    (ranked_alone b m r target none refl l) (omega arith)

-- a set that is closed backward has the start of a step with room to one of its nodes
closed_by : (b : Basin) (m : MonthRecord) (r : ℕ) (set : List Bool) → IsClosedBackward b m r set → (back : Bool)
    (e : ℕ) →
    e < length b.links → room_by b m r back e ≡ true → has set (end_by b back e) ≡ true →
    has set (start_by b back e) ≡ true
closed_by b m r set closed true e l room to = closed.backward e l room to
closed_by b m r set closed false e l room to = closed.forward e l room to

within_by : (fuel : ℕ) (b : Basin) (m : MonthRecord) (r target : ℕ) (set other : List Bool)
    (ranked : AreRanked b m r target set) → IsClosedBackward b m r other → has other target ≡ true →
    (n : ℕ) → ranked.rank n < fuel → has set n ≡ true → has other n ≡ true
within_by zero b m r target set other ranked closed there n bounded h = absurd (omega arith)
within_by (suc fuel) b m r target set other ranked closed there n bounded h = elim (cases_eq n target) [
  | inl same ↦ ap (has other) same ∙ there
  | inr ne ↦ (let s = ranked.step n h ne in
      subst (λ k. has other k ≡ true) s.start
      (closed_by b m r other closed s.back s.link s.below s.room
      (within_by fuel b m r target set other ranked closed there (end_by b s.back s.link)
      (omega (arith, s.lower, bounded)) s.ends)))
]

-- a set with ranks is within every set that is closed backward and has its node
pub ranked_within : (b : Basin) (m : MonthRecord) (r target : ℕ) (set other : List Bool) →
    AreRanked b m r target set → IsClosedBackward b m r other → has other target ≡ true →
    (n : ℕ) → has set n ≡ true → has other n ≡ true
ranked_within b m r target set other ranked closed there n h =
    within_by (suc (ranked.rank n)) b m r target set other ranked closed there n (omega arith) h
