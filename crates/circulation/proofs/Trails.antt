-- The way back from the tail of an arc to its head, written step by step, each before those that follow it.
use Rattle.std.proofs.Common.{ℕ, min, ◌≡◌, ◌≢◌, ◌+◌, ◌-◌, ◌*◌, ◌<◌, ◌≤◌, List, length, slice_index, slice_set, refl}
use Rattle.std.proofs.Common.{arith, ap, sym, inl, inr, ◌∙◌}
use Rattle.std.proofs.lemmas.Bool.{cases_eq, cases_lt}
use Rattle.std.proofs.lemmas.List.{get_or-set_other, get_or-set_same}
use Rattle.circulation.specs.Network.{Network, HasEnds}
use Rattle.circulation.specs.Residual.{arc_of, start_of, end_of, room_of, IsClosedWalk}
use Rattle.circulation.proofs.Overs.{over_forward, start_is_either}

-- the step s stands before those from `first` on
pub record IsBefore (step step' : ℕ → ℕ) (first first' s : ℕ) : Type 0 where
  pub index : first' + 1 ≡ first
  pub at : step' first' ≡ s
  pub others : (i : ℕ) → first ≤ i → step' i ≡ step i

-- it was written there
pub wrote : (xs : List ℕ) (first first' s : ℕ) → first' + 1 ≡ first → first ≤ length xs →
    IsBefore (slice_index xs) (slice_index (slice_set xs first' s)) first first' s
wrote xs first first' s index long = record {
  index = index;
  at = get_or-set_same xs first' s 0 (omega arith);
  others = λ i a. get_or-set_other xs first' i s 0 (λ e. absurd (omega arith));
}

-- what holds of it and of those from `first` on
pub each_from : {step step' : ℕ → ℕ} {first first' last s : ℕ} (P : ℕ → Type 0) → IsBefore step step' first first' s →
    P s → ((i : ℕ) → first ≤ i → i < last → P (step i)) → (i : ℕ) → first' ≤ i → i < last → P (step' i)
each_from {first' = first'} P b here rest i a l = elim (cases_eq i first') [
  | inl e ↦ rw (e, b.at) here
  | inr ne ↦ rw (b.others i (omega arith)) (rest i (omega arith) l)
]

-- the steps from `first` on lead from the node to the tail of the arc r, over no arc twice and not over r
pub record IsWay (w : Network) (g : ℕ → ℕ) (r most : ℕ) (step : ℕ → ℕ) (first last node amount : ℕ) : Type 0 where
  pub within : first ≤ last
  pub positive : 0 < amount
  pub limit : amount ≤ most
  pub arc : (i : ℕ) → first ≤ i → i < last → arc_of (step i) < w.arcs
  pub other : (i : ℕ) → first ≤ i → i < last → arc_of (step i) ≢ r
  pub room : (i : ℕ) → first ≤ i → i < last → amount ≤ room_of w g (step i)
  pub joined : (i : ℕ) → first ≤ i → i + 1 < last → end_of w (step i) ≡ start_of w (step (i + 1))
  pub begins : first < last → start_of w (step first) ≡ node
  pub empty : first ≡ last → node ≡ w.from r
  pub ends : (i : ℕ) → first ≤ i → i + 1 ≡ last → end_of w (step i) ≡ w.from r
  pub once : (i j : ℕ) → first ≤ i → i < j → j < last → arc_of (step i) ≢ arc_of (step j)

-- a step that enters the node is joined to them
joined_next : {w : Network} {g : ℕ → ℕ} {r most : ℕ} {step step' : ℕ → ℕ} {first first' last node amount s : ℕ} →
    IsBefore step step' first first' s → IsWay w g r most step first last node amount → end_of w s ≡ node →
    (i : ℕ) → first' ≤ i → i + 1 < last → end_of w (step' i) ≡ start_of w (step' (i + 1))
joined_next {first} {first'} b t enters i a l = elim (cases_eq i first') [
  | inl e ↦ rw (e, b.at, b.index, b.others first (omega arith)) (enters ∙ sym (t.begins (omega arith)))
  | inr ne ↦ rw (b.others i (omega arith), b.others (i + 1) (omega arith)) (t.joined i (omega arith) l)
]

-- no arc comes twice, if its arc is none of theirs
once_next : {w : Network} {g : ℕ → ℕ} {r most : ℕ} {step step' : ℕ → ℕ} {first first' last node amount s : ℕ} →
    IsBefore step step' first first' s → IsWay w g r most step first last node amount →
    ((i : ℕ) → first ≤ i → i < last → arc_of s ≢ arc_of (step i)) →
    (i j : ℕ) → first' ≤ i → i < j → j < last → arc_of (step' i) ≢ arc_of (step' j)
once_next {first' = first'} b t apart i j a c l = elim (cases_eq i first') [
  | inl e ↦ rw (e, b.at, b.others j (omega arith)) (apart j (omega arith) l)
  | inr ne ↦ rw (b.others i (omega arith), b.others j (omega arith)) (t.once i j (omega arith) c l)
]

-- one more step back
pub way_next : {w : Network} {g : ℕ → ℕ} {r most : ℕ} {step step' : ℕ → ℕ} {first first' last node amount s : ℕ} →
    IsBefore step step' first first' s → IsWay w g r most step first last node amount → arc_of s < w.arcs →
    arc_of s ≢ r → end_of w s ≡ node → 0 < min amount (room_of w g s) →
    ((i : ℕ) → first ≤ i → i < last → arc_of s ≢ arc_of (step i)) →
    IsWay w g r most step' first' last (start_of w s) (min amount (room_of w g s))
way_next {w} {g} {r} {first' = first'} {amount = amount} {s = s} b t arc other enters positive apart = record {
  within = omega (arith, t.within);
  positive = positive;
  limit = omega (arith, t.limit);
  arc = each_from (λ x. arc_of x < w.arcs) b arc t.arc;
  other = each_from (λ x. arc_of x ≢ r) b other t.other;
  room = each_from (λ x. min amount (room_of w g s) ≤ room_of w g x) b (omega arith)
      (λ i a l. omega (arith, t.room i a l));
  joined = joined_next b t enters;
  begins = λ _. ap (start_of w) b.at;
  empty = λ e. absurd (omega (arith, t.within));
  ends = λ i a e. elim (cases_eq i first') [
    | inl f ↦ rw (f, b.at) (enters ∙ t.empty (omega arith))
    | inr ne ↦ rw (b.others i (omega arith)) (t.ends i (omega arith) e)
  ];
  once = once_next b t apart;
}

-- the arc itself closes the way to a walk
pub trail_closed : {w : Network} {g : ℕ → ℕ} {r most : ℕ} {step step' : ℕ → ℕ} {first first' last amount : ℕ} →
    HasEnds w → r < w.arcs → IsBefore step step' first first' (2 * r) →
    IsWay w g r most step first last (w.to r) amount → most ≤ w.upper r - g r →
    IsClosedWalk w g step' first' last amount
trail_closed {w} {g} {r} {first = first} {amount = amount} ends own b t fits =
    let over = over_forward w g r in
    record {
      some = omega (arith, t.within);
      positive = t.positive;
      arc = each_from (λ x. arc_of x < w.arcs) b (omega (arith, over.arc)) t.arc;
      room = each_from (λ x. amount ≤ room_of w g x) b (omega (arith, over.room, t.limit)) t.room;
      joined = joined_next b t over.enters;
      closed = λ i e. elim (cases_lt i first) [
        | inl c ↦ absurd (ends.apart r own (sym (t.empty (omega (arith, t.within)))))
        | inr c ↦ rw (b.at, b.others i c) (t.ends i c e ∙ sym over.starts)
      ];
      once = once_next b t (λ i a l same. t.other i a l (sym same ∙ over.arc));
    }

-- such a way, along which positions are no less than that of the node
pub record IsTrail (w : Network) (g : ℕ → ℕ) (r most : ℕ) (position step : ℕ → ℕ) (first last node amount : ℕ) : Type 0
  where
    pub way : IsWay w g r most step first last node amount
    pub inside : node ≤ w.nodes
    pub marked : 0 < position node
    pub space : 3 * w.nodes + 3 + position node ≤ first
    pub later : (i : ℕ) → first ≤ i → i < last →
        (position node ≤ position (start_of w (step i))) × (position node ≤ position (end_of w (step i)))

-- the trail of no steps, at the tail
pub trail_start : (w : Network) (g : ℕ → ℕ) (r most : ℕ) (position step : ℕ → ℕ) (last : ℕ) → w.from r ≤ w.nodes →
    0 < position (w.from r) → 3 * w.nodes + 3 + position (w.from r) ≤ last → 0 < most →
    IsTrail w g r most position step last last (w.from r) most
trail_start w g r most position step last inside marked space positive = record {
  way = record {
    within = omega arith;
    positive = positive;
    limit = omega arith;
    arc = λ i a l. absurd (omega arith);
    other = λ i a l. absurd (omega arith);
    room = λ i a l. absurd (omega arith);
    joined = λ i a l. absurd (omega arith);
    begins = λ l. absurd (omega arith);
    empty = λ e. refl;
    ends = λ i a e. absurd (omega arith);
    once = λ i j a c l. absurd (omega arith);
  };
  inside = inside;
  marked = marked;
  space = space;
  later = λ i a l. absurd (omega arith);
}

-- what is known of the step by which a node was reached
pub record IsWayBack (w : Network) (g : ℕ → ℕ) (r least : ℕ) (position : ℕ → ℕ) (node s : ℕ) : Type 0 where
  pub arc : arc_of s < w.arcs
  pub other : arc_of s ≢ r
  pub enters : end_of w s ≡ node
  pub inside : start_of w s ≤ w.nodes
  pub marked : 0 < position (start_of w s)
  pub before : position (start_of w s) < position node
  pub room : least ≤ room_of w g s

-- one more step back, to a node of lesser position
pub trail_next : {w : Network} {g : ℕ → ℕ} {r most : ℕ} {position step step' : ℕ → ℕ}
    {first first' last node amount s : ℕ} → IsBefore step step' first first' s →
    IsTrail w g r most position step first last node amount → IsWayBack w g r 1 position node s →
    IsTrail w g r most position step' first' last (start_of w s) (min amount (room_of w g s))
trail_next {w} {position = position} {step = step} {s = s} b t back = record {
  way = way_next b t.way back.arc back.other back.enters (omega (arith, t.way.positive, back.room))
      (λ i a l same. elim (start_is_either w s (step i) same) [
        | inl f ↦ omega (arith, ap position f, (t.later i a l).0, back.before)
        | inr f ↦ omega (arith, ap position f, (t.later i a l).1, back.before)
      ]);
  inside = back.inside;
  marked = back.marked;
  space = omega (arith, t.space, back.before);
  later = each_from (λ x. (position (start_of w s) ≤ position (start_of w x)) ×
      (position (start_of w s) ≤ position (end_of w x))) b
      (omega arith, omega (arith, ap position back.enters, back.before))
      (λ i a l. let was = t.later i a l in (omega (arith, was.0, back.before), omega (arith, was.1, back.before)));
}
