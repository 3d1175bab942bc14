-- Nodes get their positions while links are handled.
use Rattle.std.proofs.Common.{◌≡◌, ◌≢◌, ℕ, ◌+◌, ◌-◌, ◌<◌, ◌≤◌, Bool, true, false, refl, sym, ◌∙◌, ap, subst, arith}
use Rattle.std.proofs.Common.{List, [], ◌∷◌, ◌++◌, length, inl, inr}
use Rattle.std.proofs.lemmas.Bool.{cases_eq, eqb-true, eq-eqb, ne_eqb, false≢true, or_cases}
use Rattle.std.proofs.lemmas.Bool.Decides.{nat_tests}
use Rattle.std.proofs.lemmas.List.{get_or-set_same, get_or-set_other, length-set}
use Rattle.std.proofs.lemmas.Grind.{common_steps}
use Rattle.std.specs.Prelude.{◌==◌, ◌&&◌, ◌||◌, not, slice_index, slice_set, if◌then◌else◌, ◌⊎◌}
use Rattle.finite_sums.specs.Sums.{count_where}
use Rattle.finite_sums.proofs.Totals.{total_same, total_change}
use Rattle.water_model.specs.Network.{tail_in, head_in}
use Rattle.river_net.specs.Firsts.{IsWithin}
use Rattle.river_net.specs.GraphView.{GraphView}
use Rattle.river_net.specs.Sorting.{AreEntering, IsPlacing, IsSorting, HasSources}
use Rattle.finite_sums.proofs.Counts.{none_passes}
use Rattle.river_net.proofs.Indices.{with_index, at_index, off_index, placing_start, placing_next, room}

-- the count of the links to a node that are not handled
abbrev pub waiting_at : GraphView → (ℕ → Bool) → ℕ → ℕ
waiting_at g handled v = count_where (length g.links) (λ e. head_in g.links e == v && not (handled e))

-- a node that waits for none gets its position
sorting_index : {g : GraphView} {order waits : List ℕ} (position : ℕ → ℕ) {handled : ℕ → Bool} (bound v : ℕ) →
    IsWithin g.nodes g.links → IsPlacing g order position → length waits ≡ g.nodes →
    ((u : ℕ) → u < g.nodes → slice_index waits u ≡ waiting_at g handled u) →
    ((u : ℕ) → u < g.nodes → u < bound → u ≢ v → slice_index waits u ≡ 0 → position u < length order) →
    ((u : ℕ) → u < g.nodes → position u < length order → (u < bound) × (slice_index waits u ≡ 0)) →
    ((e : ℕ) → e < length g.links → handled e ≡ true → position (tail_in g.links e) < length order) →
    v < g.nodes → v < bound → position v ≡ g.nodes → slice_index waits v ≡ 0 →
    IsSorting g (order ++ v ∷ []) waits (with_index position v (length order)) handled bound
sorting_index {g} {order} {waits} position {handled} bound v within placing count waiting free idle tails inside below
    unplaced none = record {
      placing = placing_next v within placing inside unplaced (λ e l at. tails e l (all_handled e l at));
      count = count;
      waiting = waiting;
      free = λ u l b zero. elim (cases_eq u v) [
        | inl same ↦ (let at = ap position' same in omega (arith, more, here))
        | inr other ↦ (let f = free u l b other zero in let q = there u other in omega (arith, more))
      ];
      idle = λ u l placed. elim (cases_eq u v) [
        | inl same ↦ (omega arith, ap (slice_index waits) same ∙ none)
        | inr other ↦ idle u l (old u l (there u other) placed)
      ];
      tails = λ e l h. let t = tails e l h in
          let q = there (tail_in g.links e) (λ same. let p = ap position same in absurd (omega (arith, full))) in
          omega (arith, more);
    }
  where
    position' : ℕ → ℕ
    position' = with_index position v (length order)

    full : length order < g.nodes
    full = room v placing inside unplaced

    more : length (order ++ v ∷ []) ≡ length order + 1
    more = grind (arith, common_steps)

    here : position' v ≡ length order
    here = at_index position v (length order)

    there : (u : ℕ) → u ≢ v → position' u ≡ position u
    there u ne = off_index position v (length order) u ne

    old : (u : ℕ) → u < g.nodes → position' u ≡ position u → position' u < length (order ++ v ∷ []) →
        position u < length order
    old u l q placed = elim (placing.each u l) [
      | inl other ↦ absurd (omega (arith, more, full))
      | inr p ↦ p.0
    ]

    all_handled : (e : ℕ) → e < length g.links → head_in g.links e ≡ v → handled e ≡ true
    all_handled e l at = says (head_in g.links e) v (handled e) at
        (none_passes (length g.links) (λ e. head_in g.links e == v && not (handled e)) (sym (waiting v inside) ∙ none) e
        l)
      where
        says : (x v : ℕ) (h : Bool) → x ≡ v → (x == v && not h) ≡ false → h ≡ true
        says x v h same fails = grind (arith, nat_tests)

-- at the start no link is handled
pub sources_start : {g : GraphView} {order waits : List ℕ} → order ≡ [] → AreEntering g (length g.links) waits →
    HasSources g order waits 0
sources_start {g} {order} {waits} none entering = subst (λ xs. HasSources g xs waits 0) (sym none) record {
  position = λ v. g.nodes;
  sorting = record {
    placing = placing_start g;
    count = entering.count;
    waiting = λ v l. entering.each v l ∙ total_same (length g.links) (λ e. if head_in g.links e == v then 1 else 0)
        (λ e. if head_in g.links e == v && not false then 1 else 0)
        (λ e k. ap (λ t. if t then 1 else 0) (unhandled (head_in g.links e == v)));
    free = λ v l below zero. absurd (omega arith);
    idle = λ v l placed. absurd (omega arith);
    tails = λ e l h. absurd (false≢true h);
  };
}
  where
    unhandled : (t : Bool) → t ≡ (t && not false)
    unhandled true = refl
    unhandled false = refl

-- a node that no link leads to gets its position
pub source_next : {g : GraphView} {order order' waits : List ℕ} {v : ℕ} → IsWithin g.nodes g.links → v < g.nodes →
    slice_index waits v ≡ 0 → order' ≡ order ++ v ∷ [] → HasSources g order waits v → HasSources g order' waits (v + 1)
source_next {g} {order} {order'} {waits} {v} within inside none more now =
    subst (λ xs. HasSources g xs waits (v + 1)) (sym more) record {
      position = with_index now.position v (length order);
      sorting =
          sorting_index now.position (v + 1) v within now.sorting.placing now.sorting.count now.sorting.waiting
          (λ u l b other zero. now.sorting.free u l (omega arith) zero)
          (λ u l placed. let i = now.sorting.idle u l placed in let b = i.0 in (omega arith, i.1))
          (λ e l h. absurd (false≢true h)) inside (omega arith) (elim (now.sorting.placing.each v inside) [
            | inl unplaced ↦ unplaced
            | inr placed ↦ (let b = (now.sorting.idle v inside placed.0).0 in absurd (omega arith))
          ]) none;
    }

-- any other node waits
pub source_skip : {g : GraphView} {order waits : List ℕ} {v : ℕ} → slice_index waits v ≢ 0 →
    HasSources g order waits v → HasSources g order waits (v + 1)
source_skip {g} {order} {waits} {v} some now = record {
  position = now.position;
  sorting = record {
    placing = now.sorting.placing;
    count = now.sorting.count;
    waiting = now.sorting.waiting;
    free = λ u l b zero. elim (cases_eq u v) [
      | inl same ↦ absurd (some (ap (slice_index waits) (sym same) ∙ zero))
      | inr other ↦ now.sorting.free u l (omega arith) zero
    ];
    idle = λ u l placed. let i = now.sorting.idle u l placed in let b = i.0 in (omega arith, i.1);
    tails = now.sorting.tails;
  };
}

-- one more link is handled
abbrev pub and_link : (ℕ → Bool) → ℕ → ℕ → Bool
and_link handled e f = handled f || f == e

-- its head waits for one link fewer
less_waiting : (g : GraphView) (handled : ℕ → Bool) (e v : ℕ) → e < length g.links → handled e ≡ false →
    waiting_at g (and_link handled e) v + (if head_in g.links e == v then 1 else 0) ≡ waiting_at g handled v
less_waiting g handled e v below unhandled_yet =
    let change =
    total_change (length g.links) e (λ f. if head_in g.links f == v && not (and_link handled e f) then 1 else 0)
    (λ f. if head_in g.links f == v && not (handled f) then 1 else 0) below
    (λ f l other. same (head_in g.links f == v) (handled f) f e 1 other) in
    let gone = none (head_in g.links e == v) (handled e) e 1 in
    let was = one (head_in g.links e == v) (handled e) 1 unhandled_yet in
    omega arith
  where
    same : (t h : Bool) (f e x : ℕ) → f ≢ e → (if t && not (h || f == e) then x else 0) ≡ (if t && not h then x else 0)
    same t h f e x other = grind (arith, nat_tests)

    none : (t h : Bool) (e x : ℕ) → (if t && not (h || e == e) then x else 0) ≡ 0
    none t h e x = grind (arith, nat_tests)

    one : (t h : Bool) (x : ℕ) → h ≡ false → (if t && not h then x else 0) ≡ (if t then x else 0)
    one t h x unhandled_yet = grind (arith, nat_tests)

-- the head of a link that is not handled waits
pub waits_for : {g : GraphView} {order waits : List ℕ} {position : ℕ → ℕ} {handled : ℕ → Bool} (e : ℕ) →
    IsWithin g.nodes g.links →
    IsSorting g order waits position handled g.nodes → e < length g.links → handled e ≡ false →
    0 < slice_index waits (head_in g.links e)
waits_for {g} {order} {waits} {position} {handled} e within now below unhandled_yet =
    let inside = (within.ends e below).1 in
    let less = less_waiting g handled e (head_in g.links e) below unhandled_yet in
    let one = own (head_in g.links e) 1 in
    omega (arith, now.waiting (head_in g.links e) inside)
  where
    own : (u x : ℕ) → (if u == u then x else 0) ≡ x
    own u x = grind (arith, nat_tests)

-- what handling a link leaves: old positions stay, and at most its head gets a new one
pub record IsSettled (g : GraphView) (order waits : List ℕ) (position : ℕ → ℕ) (handled : ℕ →
    Bool) (e : ℕ) (order' waits' : List ℕ) : Type 0 where
  pub position' : ℕ → ℕ
  pub sorting : IsSorting g order' waits' position' (and_link handled e) g.nodes
  pub keeps : (u : ℕ) → position u < length order → position' u ≡ position u
  pub grows : (u : ℕ) → u < g.nodes → (position' u ≡ position u) ⊎
      ((position u ≡ g.nodes) × (position' u ≡ length order))
  pub same : (k : ℕ) → k < length order → slice_index order' k ≡ slice_index order k
  pub more : length order ≤ length order'

-- handling a link
pub settled : {g : GraphView} {order waits : List ℕ} {position : ℕ → ℕ} {handled : ℕ →
    Bool} (e : ℕ) {order' waits' : List ℕ} →
    IsWithin g.nodes g.links → IsSorting g order waits position handled g.nodes → e < length g.links →
    handled e ≡ false → position (tail_in g.links e) < length order →
    waits' ≡ slice_set waits (head_in g.links e) (slice_index waits (head_in g.links e) - 1) →
    order' ≡ (if slice_index waits (head_in g.links e) == 1 then order ++ head_in g.links e ∷ [] else order) →
    IsSettled g order waits position handled e order' waits'
settled {g} {order} {waits} {position} {handled} e {order'} {waits'} within now below unhandled_yet after waits_are
    order_is =
    elim (cases_eq (slice_index waits h) 1) [
      | inl last ↦
          subst (λ xs. IsSettled g order waits position handled e xs waits')
          (sym (order_is ∙ ap (λ t. if t then order ++ h ∷ [] else order) (eq-eqb (slice_index waits h) 1 last)))
          (placed last)
      | inr further ↦
          subst (λ xs. IsSettled g order waits position handled e xs waits')
          (sym (order_is ∙ ap (λ t. if t then order ++ h ∷ [] else order) (ne_eqb (slice_index waits h) 1 further)))
          (kept further)
    ]
  where
    h : ℕ
    h = head_in g.links e

    inside : h < g.nodes
    inside = (within.ends e below).1

    some : 0 < slice_index waits h
    some = waits_for e within now below unhandled_yet

    at : slice_index waits' h ≡ slice_index waits h - 1
    at = ap (λ (xs : List ℕ). slice_index xs h) waits_are ∙ get_or-set_same waits h (slice_index waits h - 1) 0 (let c =
        now.count in omega (arith, inside))

    off : (u : ℕ) → u ≢ h → slice_index waits' u ≡ slice_index waits u
    off u ne =
        ap (λ (xs : List ℕ). slice_index xs u) waits_are ∙ get_or-set_other waits h u (slice_index waits h - 1) 0 ne

    count : length waits' ≡ g.nodes
    count = ap length waits_are ∙ (length-set waits h (slice_index waits h - 1) ∙ now.count)

    own : (u x : ℕ) → (if u == u then x else 0) ≡ x
    own u x = grind (arith, nat_tests)

    apart : (u v x : ℕ) → u ≢ v → (if v == u then x else 0) ≡ 0
    apart u v x ne = grind (arith, nat_tests)

    waiting : (u : ℕ) → u < g.nodes → slice_index waits' u ≡ waiting_at g (and_link handled e) u
    waiting u l = elim (cases_eq u h) [
      | inl same ↦
          ap (slice_index waits') same ∙ (let less = less_waiting g handled e h below unhandled_yet in let one =
          own h 1 in
          let w = now.waiting h inside in let t : slice_index waits' h ≡ waiting_at g (and_link handled e) h =
          omega (arith, at) in
          t ∙ ap (waiting_at g (and_link handled e)) (sym same))
      | inr other ↦
          off u other ∙ (let less = less_waiting g handled e u below unhandled_yet in let none = apart u h 1 other in
          let w = now.waiting u l in omega arith)
    ]

    unplaced : position h ≡ g.nodes
    unplaced = elim (now.placing.each h inside) [
      | inl none ↦ none
      | inr p ↦ (let i = (now.idle h inside p.0).1 in absurd (omega (arith, some)))
    ]

    tails : (f : ℕ) → f < length g.links → and_link handled e f ≡ true → position (tail_in g.links f) < length order
    tails f l t = elim (or_cases (handled f) (f == e) t) [
      | inl before ↦ now.tails f l before
      | inr here ↦ (let p = ap (λ x. position (tail_in g.links x)) (eqb-true f e here) in omega (arith, after))
    ]

    idle : (u : ℕ) → u < g.nodes → position u < length order → (u < g.nodes) × (slice_index waits' u ≡ 0)
    idle u l p = (
      l,
      off u (λ same. let i = (now.idle u l p).1 in let q = ap (slice_index waits) same in
          absurd (omega (arith, some))) ∙ (now.idle u l p).1,
    )

    kept : (slice_index waits h ≡ 1 → ⊥) → IsSettled g order waits position handled e order waits'
    kept further = record {
      position' = position;
      sorting = record {
        placing = now.placing;
        count = count;
        waiting = waiting;
        free = λ u l b zero. elim (cases_eq u h) [
          | inl same ↦ (let q = ap (slice_index waits') same in absurd (further (omega (arith, at, some))))
          | inr other ↦ now.free u l b (sym (off u other) ∙ zero)
        ];
        idle = idle;
        tails = tails;
      };
      keeps = λ u l. refl;
      grows = λ u l. inl refl;
      same = λ k l. refl;
      more = omega arith;
    }

    placed : slice_index waits h ≡ 1 → IsSettled g order waits position handled e (order ++ h ∷ []) waits'
    placed last = record {
      position' = with_index position h (length order);
      sorting = sorting_index position g.nodes h within now.placing count waiting
          (λ u l b other zero. now.free u l b (sym (off u other) ∙ zero)) idle tails inside inside unplaced
          (omega (arith, at));
      keeps = λ u l. off_index position h (length order) u (λ same. let p = ap position same in let r =
          room h now.placing inside unplaced in absurd (omega (arith, unplaced)));
      grows = λ u l. elim (cases_eq u h) [
        | inl same ↦
            inr (
              ap position same ∙ unplaced,
              ap (with_index position h (length order)) same ∙ at_index position h (length order),
            )
        | inr other ↦ inl (off_index position h (length order) u other)
      ];
      same = λ k l. grind (arith, common_steps);
      more = (let m : length (order ++ h ∷ []) ≡ length order + 1 = grind (arith, common_steps) in omega arith);
    }
