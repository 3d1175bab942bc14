-- What a push and a hold do to the tree.
use Rattle.std.proofs.Common.{ℕ, zero, suc, Bool, true, false, not, max, ◌≡◌, ◌≢◌, ◌+◌, ◌-◌, ◌*◌, ◌<◌, ◌≤◌, ◌⊎◌, List}
use Rattle.std.proofs.Common.{length, slice_index, slice_set, refl, arith, ap, sym, subst, inl, inr, ◌∙◌}
use Rattle.std.proofs.lemmas.Bool.{cases_eq}
use Rattle.finite_sums.specs.Sums.{when}
use Rattle.circulation.specs.Network.{Network}
use Rattle.std.proofs.lemmas.List.{get_or-set_other, get_or-set_same}
use Rattle.circulation.specs.Contents.{Contents, network, flow_of, arcs, step_of, held_contents, IsCirculation}
use Rattle.circulation.specs.Residual.{arc_of, is_backward, by_direction, start_of, end_of, room_of, IsClosedWalk}
use Rattle.circulation.specs.Residual.{IsPushed}
use Rattle.circulation.specs.Contents.{SameButScratch}
use Rattle.residual_tree.specs.Tree.{label_of, IsLabeled, IsResidualTree}
use Rattle.residual_tree.specs.Repair.{OccursIn, none, IsTreeBut, IsSaturatedTree, HasArtificialStep}
use Rattle.residual_tree.specs.Repair.{no_step, HasSomeArtificial}
use Rattle.residual_tree.proofs.Changes.{tree_map}
use Rattle.residual_tree.proofs.Grows.{artificial_none, artificial_some, artificial_closed}
use Rattle.circulation.proofs.Overs.{IsOver, over, over_forward, over_either, end_is_either}

-- a step of a walk that goes over the arc a
record IsOn (step : ℕ → ℕ) (first last a : ℕ) : Type 0 where
  place : ℕ
  from : first ≤ place
  below : place < last
  arc : arc_of (step place) ≡ a

-- an arc is on a walk, or is not
on_or : (n : ℕ) (step : ℕ → ℕ) (first a : ℕ) →
    IsOn step first (first + n) a ⊎ ((i : ℕ) → first ≤ i → i < first + n → arc_of (step i) ≢ a)
on_or zero step first a = inr (λ i b c. absurd (omega arith))
on_or (suc n) step first a = elim (on_or n step first a) [
  | inl on ↦ inl record { place = on.place; from = on.from; below = omega (arith, on.below); arc = on.arc }
  | inr off ↦ elim (cases_eq (arc_of (step (first + n))) a) [
    | inl e ↦ inl record { place = first + n; from = omega arith; below = omega arith; arc = e }
    | inr ne ↦ inr (λ i b c. elim (cases_eq i (first + n)) [
      | inl e ↦ λ same. ne (ap (λ (k : ℕ). arc_of (step k)) (sym e) ∙ same)
      | inr other ↦ off i b (omega arith)
    ])
  ]
]

on_walk : (step : ℕ → ℕ) (first last a : ℕ) → first < last →
    IsOn step first last a ⊎ ((i : ℕ) → first ≤ i → i < last → arc_of (step i) ≢ a)
on_walk step first last a b =
    let e : first + (last - first) ≡ last = omega arith in
    subst (λ (n : ℕ). IsOn step first n a ⊎ ((i : ℕ) → first ≤ i → i < n → arc_of (step i) ≢ a)) e
    (on_or (last - first) step first a)

-- where the ends of the steps of a closed walk are labeled, so are their starts
walk_starts : {w : Network} {g step : ℕ → ℕ} {first last amount : ℕ} (labels : List ℕ) →
    IsClosedWalk w g step first last amount → ((i : ℕ) → first ≤ i → i < last → IsLabeled labels (end_of w (step i))) →
    (i : ℕ) → first ≤ i → i < last → IsLabeled labels (start_of w (step i))
walk_starts {w} {step} {first} {last} labels walk ends i b c = elim (cases_eq i first) [
  | inl e ↦
      let some = walk.some in
      let at_end : last - 1 + 1 ≡ last = omega arith in
      subst (λ (u : ℕ). IsLabeled labels u)
      (walk.closed (last - 1) at_end ∙ ap (λ (k : ℕ). start_of w (step k)) (sym e))
      (ends (last - 1) (omega arith) (omega arith))
  | inr ne ↦
      let before : i - 1 + 1 ≡ i = omega arith in
      subst (λ (u : ℕ). IsLabeled labels u)
      (walk.joined (i - 1) (omega arith) (omega arith) ∙ ap (λ (k : ℕ). start_of w (step k)) before)
      (ends (i - 1) (omega arith) (omega arith))
]

-- a step over an arc of the walk ends where the step of the walk ends or starts
walk_end : (w : Network) (s t : ℕ) (labels : List ℕ) → arc_of s ≡ arc_of t → IsLabeled labels (start_of w t) →
    IsLabeled labels (end_of w t) → IsLabeled labels (end_of w s)
walk_end w s t labels e start end = elim (end_is_either w s t e) [ inl f ↦ rw f end | inr f ↦ rw f start ]

-- the room of a step over an arc whose flow and lower bound stay
same_room : (c : Contents) (lower flow : List ℕ) (s : ℕ) → slice_index flow (arc_of s) ≡ flow_of c (arc_of s) →
    slice_index lower (arc_of s) ≡ slice_index c.lower (arc_of s) →
    room_of (network (record c { lower = lower; flow = flow })) (slice_index flow) s ≡ room_of (network c) (flow_of c) s
same_room c lower flow s f l =
    ap (λ (x : ℕ). by_direction (is_backward s) (slice_index c.upper (arc_of s) - x) (x - slice_index lower (arc_of s)))
    f ∙ ap (λ (x : ℕ). by_direction (is_backward s) (slice_index c.upper (arc_of s) - flow_of c (arc_of s))
    (flow_of c (arc_of s) - x)) l

-- a step against a step of the walk gains room
gains : (c : Contents) (lower flow : List ℕ) (s t amount : ℕ) → arc_of s ≡ arc_of t → s ≢ t → 0 < amount →
    slice_index lower (arc_of s) ≡ slice_index c.lower (arc_of s) →
    slice_index c.lower (arc_of s) ≤ flow_of c (arc_of s) → flow_of c (arc_of s) ≤ slice_index c.upper (arc_of s) →
    amount ≤ room_of (network c) (flow_of c) t →
    slice_index flow (arc_of t) + when (is_backward t) amount ≡ flow_of c (arc_of t) + when (not (is_backward t))
    amount → 0 < room_of (network (record c { lower = lower; flow = flow })) (slice_index flow) s
gains c lower flow s t amount e ne positive l low high room on =
    let flow_at = ap (slice_index flow) e in
    let old_at = ap (flow_of c) e in
    let upper_at = ap (slice_index c.upper) e in
    let lower_at = ap (slice_index c.lower) e in
    elim (over_either (network (record c { lower = lower; flow = flow })) (slice_index flow) s) [
      | inl f ↦ elim (over_either (network c) (flow_of c) t) [
        | inl h ↦ absurd (ne (f.0 ∙ ap (λ (a : ℕ). 2 * a) e ∙ sym h.0))
        | inr h ↦
            let moved = subst (λ (b : Bool). slice_index flow (arc_of t) + when b amount
            ≡ flow_of c (arc_of t) + when (not b) amount) h.1.way on in
            omega (arith, f.1.room, h.1.room, room, moved, flow_at, old_at, upper_at, lower_at, l, low, high, positive)
      ]
      | inr f ↦ elim (over_either (network c) (flow_of c) t) [
        | inl h ↦
            let moved = subst (λ (b : Bool). slice_index flow (arc_of t) + when b amount
            ≡ flow_of c (arc_of t) + when (not b) amount) h.1.way on in
            omega (arith, f.1.room, h.1.room, room, moved, flow_at, old_at, upper_at, lower_at, l, low, high, positive)
        | inr h ↦ absurd (ne (f.0 ∙ ap (λ (a : ℕ). 2 * a + 1) e ∙ sym h.0))
      ]
    ]

-- a step with more room than the amount keeps room
keeps : (c : Contents) (lower flow : List ℕ) (s amount : ℕ) →
    amount < room_of (network c) (flow_of c) s →
    slice_index flow (arc_of s) + when (is_backward s) amount ≡ flow_of c (arc_of s) + when (not (is_backward s))
    amount → (is_backward s ≡ true → slice_index lower (arc_of s) ≡ slice_index c.lower (arc_of s)) →
    0 < room_of (network (record c { lower = lower; flow = flow })) (slice_index flow) s
keeps c lower flow s amount more on l =
    let after = network (record c { lower = lower; flow = flow }) in
    elim (over_either (network c) (flow_of c) s) [
      | inl f ↦
          let moved = subst (λ (b : Bool). slice_index flow (arc_of s) + when b amount
          ≡ flow_of c (arc_of s) + when (not b) amount) f.1.way on in
          omega (arith, f.1.room, (over after (slice_index flow) s (arc_of s) false refl f.1.way).room, more, moved)
      | inr f ↦
          let moved = subst (λ (b : Bool). slice_index flow (arc_of s) + when b amount
          ≡ flow_of c (arc_of s) + when (not b) amount) f.1.way on in
          omega (
            arith,
            f.1.room,
            (over after (slice_index flow) s (arc_of s) true refl f.1.way).room,
            more,
            moved,
            l f.1.way,
          )
    ]

-- a step that stands in the scratch words below `full`, or the artificial one
abbrev pub IsSaturated : List ℕ → ℕ → ℕ → ℕ → Type 0
IsSaturated scratch full artificial s = OccursIn scratch 0 full s ⊎ (s ≡ artificial)

-- after a push along a closed walk of nodes that are labeled, only the steps that are listed, which are those of the
-- walk without more room than the amount, and an artificial one may have no room
pub pushed_saturated : {c : Contents} {labels : List ℕ} (lower flow : List ℕ) {r first last amount : ℕ} (full : ℕ) →
    IsCirculation c →
    (t : HasSomeArtificial c labels r) → IsClosedWalk (network c) (flow_of c) (step_of c) first last amount →
    IsPushed (flow_of c) (slice_index flow) (step_of c) first last amount → step_of c first ≡ 2 * r →
    ((i : ℕ) → first ≤ i → i < last → IsLabeled labels (end_of (network c) (step_of c i))) →
    ((i : ℕ) → first ≤ i → i < last →
    OccursIn c.scratch 0 full (step_of c i) ⊎ (amount < room_of (network c) (flow_of c) (step_of c i))) →
    flow_of c r ≤ slice_index c.lower r → ((a : ℕ) → a ≢ r → slice_index lower a ≡ slice_index c.lower a) →
    IsTreeBut (record c { lower = lower; flow = flow }) labels (IsSaturated c.scratch full t.step) none none none
pushed_saturated {c} {labels} lower flow {r} {first} {last} {amount} full k t walk pushed forward ends all held lowers =
    let arc_first : arc_of (step_of c first) ≡ r = ap arc_of forward ∙ (over_forward (network c) (flow_of c) r).arc in
    let off_room = λ (s : ℕ) (off : (i : ℕ) → first ≤ i → i < last → arc_of (step_of c i) ≢ arc_of s).
    let ne : arc_of s ≢ r = λ e. off first (omega arith) walk.some (arc_first ∙ sym e) in
    same_room c lower flow s (pushed.off (arc_of s) off) (lowers (arc_of s) ne) in
    let low = λ (s : ℕ) (here : 0 < room_of (network c) (flow_of c) s) (back : is_backward s ≡ true).
    lowers (arc_of s) (λ e. absurd (omega (
      arith,
      here,
      (over (network c) (flow_of c) s (arc_of s) true refl back).room,
      ap (flow_of c) e,
      ap (slice_index c.lower) e,
      held,
    ))) in
    let walked = λ (i : ℕ) (h : first ≤ i) (j : i < last).
    let now : (0 < room_of (network (record c { lower = lower; flow = flow })) (slice_index flow) (step_of c i))
    ⊎ IsSaturated c.scratch full t.step (step_of c i) = elim (all i h j) [
      | inl listed ↦ inr (inl listed)
      | inr more ↦ inl (keeps c lower flow (step_of c i) amount more (pushed.on i h j)
          (low (step_of c i) (omega (arith, more))))
    ] in now in
    record {
      words = t.tree.words;
      root = t.tree.root;
      rank = t.tree.rank;
      branch = λ v b m.
          let was = t.tree.branch v b m in
          record {
            arc = was.arc;
            enters = was.enters;
            before = was.before;
            marked = was.marked;
            predecessor = was.predecessor;
          };
      room = λ v b m.
          let was = t.tree.branch v b m in
          let s = label_of labels v - 1 in
          let is_walked = λ (i : ℕ) (h : first ≤ i) (j : i < last) (e : step_of c i ≡ s).
          subst (λ (x : ℕ). (0 < room_of (network (record c { lower = lower; flow = flow })) (slice_index flow) x)
          ⊎ IsSaturated c.scratch full t.step x) e (walked i h j) in
          elim (t.tree.room v b m) [
            | inr artificial ↦ inr (inr artificial)
            | inl here ↦ elim (on_walk (step_of c) first last (arc_of s) walk.some) [
              | inl on ↦ elim (cases_eq (step_of c on.place) s) [
                | inl same ↦ is_walked on.place on.from on.below same
                | inr ne ↦ elim (over_either (network c) (flow_of c) s) [
                  | inl f ↦ elim (cases_eq (arc_of s) r) [
                    | inl own ↦ is_walked first (omega arith) walk.some
                        (forward ∙ ap (λ (a : ℕ). 2 * a) (sym own) ∙ sym f.0)
                    | inr other ↦ inl (gains c lower flow s (step_of c on.place) amount (sym on.arc)
                        (λ e. ne (sym e)) walk.positive (lowers (arc_of s) other) (k.flow.low (arc_of s) was.arc)
                        (k.flow.high (arc_of s) was.arc) (walk.room on.place on.from on.below)
                        (pushed.on on.place on.from on.below))
                  ]
                  | inr f ↦ inl (gains c lower flow s (step_of c on.place) amount (sym on.arc) (λ e. ne (sym e))
                      walk.positive (low s here f.1.way) (k.flow.low (arc_of s) was.arc)
                      (k.flow.high (arc_of s) was.arc) (walk.room on.place on.from on.below)
                      (pushed.on on.place on.from on.below))
                ]
              ]
              | inr off ↦ inl (omega (arith, off_room s off, here))
            ]
          ];
      closed = λ s b room m. inl (elim (on_walk (step_of c) first last (arc_of s) walk.some) [
        | inl on ↦ walk_end (network c) s (step_of c on.place) labels (sym on.arc)
            (walk_starts labels walk ends on.place on.from on.below) (ends on.place on.from on.below)
        | inr off ↦ artificial_closed s t.tree b (omega (arith, off_room s off, room)) m
      ]);
    }

-- after a hold on an arc only the step back over it may have lost its room
pub held_saturated : {c : Contents} {labels : List ℕ} (lower : List ℕ) (r at : ℕ) → IsResidualTree c labels →
    step_of c at ≡ 2 * r + 1 →
    ((a : ℕ) → a ≢ r → slice_index lower a ≡ slice_index c.lower a) → slice_index c.lower r ≤ slice_index lower r →
    IsSaturatedTree (record c { lower = lower }) labels at (at + 1)
held_saturated {c} {labels} lower r at t is lowers more = record {
  words = t.words;
  root = t.root;
  rank = t.rank;
  branch = λ v b m.
      let was = t.branch v b m in
      record {
        arc = was.arc;
        enters = was.enters;
        before = was.before;
        marked = inl was.marked;
        predecessor = was.predecessor;
      };
  room = λ v b m.
      let was = t.branch v b m in
      let s = label_of labels v - 1 in
      elim (over_either (network c) (flow_of c) s) [
        | inl f ↦ inl (omega (arith, f.1.room, (now s false f.1.way).room, was.room))
        | inr f ↦ elim (cases_eq (arc_of s) r) [
          | inl own ↦ inr record {
            place = at;
            from = omega arith;
            below = omega arith;
            is = is ∙ ap (λ (a : ℕ). 2 * a + 1) (sym own) ∙ sym f.0;
          }
          | inr other ↦ inl (omega (arith, same_room c lower c.flow s refl (lowers (arc_of s) other), was.room))
        ]
      ];
  closed = λ s b room m. inl (t.closed s b (elim (cases_eq (arc_of s) r) [
    | inl own ↦ elim (over_either (network c) (flow_of c) s) [
      | inl f ↦ omega (arith, f.1.room, (now s false f.1.way).room, room)
      | inr f ↦
          let after = (now s true f.1.way).room in
          omega (arith, f.1.room, after, room, ap (slice_index lower) own, ap (slice_index c.lower) own, more)
    ]
    | inr other ↦ omega (arith, same_room c lower c.flow s refl (lowers (arc_of s) other), room)
  ]) m);
}
  where
    now : (s : ℕ) (back : Bool) → is_backward s ≡ back →
        IsOver (network (record c { lower = lower })) (flow_of c) s (arc_of s) back
    now s back way = over (network (record c { lower = lower })) (flow_of c) s (arc_of s) back refl way

-- a tree that is repaired does not depend on the scratch words
pub but_over : {c : Contents} {labels : List ℕ} (scratch : List ℕ) {saturated orphan free unscanned : ℕ → Type 0} →
    IsTreeBut c labels saturated orphan free unscanned → IsTreeBut (record c { scratch = scratch }) labels saturated
    orphan free unscanned
but_over scratch t = record {
  words = t.words;
  root = t.root;
  rank = t.rank;
  branch = λ v b m.
      let was = t.branch v b m in
      record {
        arc = was.arc;
        enters = was.enters;
        before = was.before;
        marked = was.marked;
        predecessor = was.predecessor;
      };
  room = t.room;
  closed = t.closed;
}

-- the tree does not depend on the scratch words
pub tree_over : {c : Contents} {labels : List ℕ} (scratch : List ℕ) → IsResidualTree c labels →
    IsResidualTree (record c { scratch = scratch }) labels
tree_over {c} {labels} scratch t = artificial_none (but_over scratch (artificial_some c labels (no_step c) t))

-- after a hold on an arc, whose step back was written down
pub hold_saturated : {c d e : Contents} {labels : List ℕ} (r amount : ℕ) {s : ℕ} → IsCirculation c →
    IsResidualTree c labels →
    r < arcs c → s ≡ 2 * r + 1 → d ≡ record c { scratch = slice_set c.scratch 0 s } → e ≡ held_contents d r amount →
    IsSaturatedTree e labels 0 1
hold_saturated {c} {labels} r amount {s} k t b is written held =
    let long : r < length c.lower = omega (arith, k.shape.lower, b) in
    let now = held ∙ ap (λ (x : Contents). held_contents x r amount) written in
    let more = max (slice_index c.lower r) amount in
    let here = get_or-set_same c.lower r more 0 long in
    let at : slice_index (slice_set c.scratch 0 s) 0 ≡ 2 * r + 1 =
    get_or-set_same c.scratch 0 s 0 (omega (arith, k.shape.scratch)) ∙ is in
    subst (λ (x : Contents). IsSaturatedTree x labels 0 1) (sym now) (held_saturated (slice_set c.lower r more) r 0
    (tree_over (slice_set c.scratch 0 s) t) at (λ a ne. get_or-set_other c.lower r a more 0 ne) (omega (arith, here)))

-- a tree in which all steps have room, as one with an artificial step to the head of an arc
pub residual_artificial : {c : Contents} {labels : List ℕ} (r : ℕ) → IsResidualTree c labels →
    HasSomeArtificial c labels r
residual_artificial {c} {labels} r t = record {
  step = 2 * r;
  enters = (over_forward (network c) (flow_of c) r).enters;
  tree = artificial_some c labels (2 * r) t;
}

-- the artificial step was listed after the others
pub saturated_written : {c : Contents} {labels : List ℕ} (full artificial : ℕ) → full < length c.scratch →
    IsTreeBut c labels (IsSaturated c.scratch full artificial) none none none →
    IsSaturatedTree (record c { scratch = slice_set c.scratch full artificial }) labels 0 (full + 1)
saturated_written {c} full artificial long t =
    tree_map (but_over (slice_set c.scratch full artificial) t) (λ u d m e o. elim o [
      | inl occurs ↦ inr record {
        place = occurs.place;
        from = occurs.from;
        below = omega (arith, occurs.below);
        is = get_or-set_other c.scratch full occurs.place artificial 0 (λ f. absurd (omega (arith, occurs.below, f)))
            ∙ occurs.is;
      }
      | inr own ↦ inr record {
        place = full;
        from = omega arith;
        below = omega arith;
        is = get_or-set_same c.scratch full artificial 0 long ∙ sym own;
      }
    ])
    (λ u s d e b g o. o) (λ s b r m o. inr o)

-- the tree stays where only scratch words were written
pub stopped_tree : {c : Contents} (d : Contents) {labels labels' : List ℕ} → IsResidualTree c labels →
    SameButScratch c d → labels' ≡ labels → IsResidualTree d labels'
stopped_tree d t rest same =
    rw (same, rest) (tree_over d.scratch t)

-- a tree with an artificial step, which was written down
pub settle_saturated : {c d : Contents} {labels : List ℕ} {artificial s : ℕ} → IsCirculation c →
    HasArtificialStep c labels artificial → s ≡ artificial →
    d ≡ record c { scratch = slice_set c.scratch 0 s } → IsSaturatedTree d labels 0 1
settle_saturated {c} {d} {labels} {artificial} {s} k t is written =
    let at : slice_index (slice_set c.scratch 0 s) 0 ≡ artificial =
    get_or-set_same c.scratch 0 s 0 (omega (arith, k.shape.scratch)) ∙ is in
    subst (λ (x : Contents). IsSaturatedTree x labels 0 1) (sym written) (tree_map
    (but_over (slice_set c.scratch 0 s) t)
    (λ u d m e o. inr record { place = 0; from = omega arith; below = omega arith; is = at ∙ sym o })
    (λ u s d e b g o. o) (λ s b r m o. inr o))

-- a tree with an artificial step stays where only scratch words were written
pub stopped_artificial : {c : Contents} (d : Contents) {labels labels' : List ℕ} {artificial : ℕ} →
    HasArtificialStep c labels artificial → SameButScratch c d →
    labels' ≡ labels → HasArtificialStep d labels' artificial
stopped_artificial d t rest same =
    rw (same, rest) (but_over d.scratch t)
