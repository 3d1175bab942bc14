-- Rows are written, one step after another and one row after another.
use Rattle.std.proofs.Common.{ℕ, Bool, true, false, ◌≡◌, ◌≢◌, ◌+◌, ◌*◌, ◌%◌, ◌^◌, ◌<◌, ◌≤◌, ◌++◌, List, length, take}
use Rattle.std.proofs.Common.{drop, slice_index, slice_set, arith, ap, sym, subst, inl, inr, ◌∙◌}
use Rattle.std.proofs.lemmas.Bool.{cases_eq, cases_lt, cases_Bool, eqb-true, eqb-false}
use Rattle.std.proofs.lemmas.List.{get_or_append_left, get_or-append-add, get_or-set_same, get_or-set_other}
use Rattle.std.proofs.lemmas.List.{get_or-take, get_or-drop, get_or_past, length-append, length-take, length-map}
use Rattle.circulation.specs.Residual.{arc_of, is_backward, by_direction, start_of, end_of}
use Rattle.circulation.specs.Rows.{Rows, over, Leads, IsInRow, IsRow, AreRows}
use Rattle.circulation.specs.Chains.{IsNext, turn_of, IsPartRow, AreApart, AreSameBelow, AreSmall, tails_of, heads_of}
use Rattle.circulation.specs.Chains.{keys_of}
use Rattle.circulation.specs.Places.{tail_of, head_of}
use Rattle.circulation.proofs.Links.{turns_are}
use Rattle.circulation.proofs.Apart.{room_for_one}

-- what the number of a step says of its turn
record IsForward (arcs s : ℕ) : Type 0 where
  number : s ≡ 2 * arc_of s
  turn : turn_of arcs s ≡ arcs + arc_of s

record IsBackward (arcs s : ℕ) : Type 0 where
  number : s ≡ 2 * arc_of s + 1
  turn : turn_of arcs s ≡ arc_of s

forward_from : (arcs s : ℕ) → is_backward s ≡ false → IsForward arcs s
forward_from arcs s e = record {
  number = let ne = eqb-false (s % 2) 1 e in omega (arith, ne);
  turn = ap (λ (b : Bool). by_direction b (arcs + arc_of s) (arc_of s)) e;
}

backward_from : (arcs s : ℕ) → is_backward s ≡ true → IsBackward arcs s
backward_from arcs s e = record {
  number = let odd = eqb-true (s % 2) 1 e in omega (arith, odd);
  turn = ap (λ (b : Bool). by_direction b (arcs + arc_of s) (arc_of s)) e;
}

-- the turn of a step is below the end of all turns
turn_below : (arcs s : ℕ) → arc_of s < arcs → turn_of arcs s < 2 * arcs
turn_below arcs s b = elim (cases_Bool (is_backward s)) [
  | inl e ↦ omega (arith, (backward_from arcs s e).turn)
  | inr e ↦ omega (arith, (forward_from arcs s e).turn)
]

-- two steps don't have one turn
turn_apart : (arcs s t : ℕ) → arc_of s < arcs → arc_of t < arcs → turn_of arcs s ≡ turn_of arcs t → s ≡ t
turn_apart arcs s t b c same = elim (cases_Bool (is_backward s)) [
  | inl e ↦ let x = backward_from arcs s e in elim (cases_Bool (is_backward t)) [
    | inl f ↦ let y = backward_from arcs t f in omega (arith, x.turn, y.turn, x.number, y.number)
    | inr f ↦ let y = forward_from arcs t f in omega (arith, x.turn, y.turn)
  ]
  | inr e ↦ let x = forward_from arcs s e in elim (cases_Bool (is_backward t)) [
    | inl f ↦ let y = backward_from arcs t f in omega (arith, x.turn, y.turn)
    | inr f ↦ let y = forward_from arcs t f in omega (arith, x.turn, y.turn, x.number, y.number)
  ]
]

-- the key of a turn is the node that its step leaves
key_of_turn : (from to : List ℕ) (s : ℕ) → length to ≡ length from → arc_of s < length from →
    slice_index (to ++ from) (turn_of (length from) s) ≡ start_of (over from to) s
key_of_turn from to s sizes b = elim (cases_Bool (is_backward s)) [
  | inl e ↦ ap (slice_index (to ++ from)) (backward_from (length from) s e).turn
      ∙ get_or_append_left to from 0 (arc_of s) (omega (arith, sizes, b))
      ∙ sym (ap (λ (t : Bool). by_direction t (slice_index from (arc_of s)) (slice_index to (arc_of s))) e)
  | inr e ↦ ap (slice_index (to ++ from))
      ((forward_from (length from) s e).turn ∙ ap (λ (n : ℕ). n + arc_of s) (sym sizes))
      ∙ get_or-append-add to from (arc_of s) 0
      ∙ sym (ap (λ (t : Bool). by_direction t (slice_index from (arc_of s)) (slice_index to (arc_of s))) e)
]

-- a lesser number is another
pub less_other : (p q : ℕ) → p < q → p ≢ q
less_other p q b e = omega (arith, e)

-- what stands in a list after one of its words was written
record IsWrittenAt (xs ys : List ℕ) (at x : ℕ) : Type 0 where
  here : slice_index ys at ≡ x
  other : (p : ℕ) → p ≢ at → slice_index ys p ≡ slice_index xs p

written_at : (xs : List ℕ) (at x : ℕ) → at < length xs → IsWrittenAt xs (slice_set xs at x) at x
written_at xs at x b = record { here = get_or-set_same xs at x 0 b; other = λ p ne. get_or-set_other xs at p x 0 ne }

-- nothing was written yet
pub part_start : (from to : List ℕ) (v first : ℕ) (steps ends : List ℕ) → IsPartRow from to v 0 first first steps ends
part_start from to v first steps ends = record {
  order = omega arith;
  leads = λ p b d. absurd (omega arith);
  turns = λ p b d. absurd (omega arith);
  once = λ p q b d e. absurd (omega arith);
  all = λ s b e less. absurd (omega arith);
}

-- a step that is next in its chain
pub record IsNextStep (from to : List ℕ) (v upto at s : ℕ) : Type 0 where
  pub sizes : length to ≡ length from
  pub next : IsNext (to ++ from) v upto at
  pub short : at < length (to ++ from)
  pub arc : arc_of s < length from
  pub turn : turn_of (length from) s ≡ at

-- the same over arcs whose ends are packed in words
pub next_step : (pairs : List ℕ) {v upto at : ℕ} (s : ℕ) → IsNext (keys_of pairs) v upto at → at < 2 * length pairs →
    arc_of s < length pairs → turn_of (length pairs) s ≡ at → IsNextStep (tails_of pairs) (heads_of pairs) v upto at s
next_step pairs s next short arc turn =
    let count = length-map pairs tail_of in
    record {
      sizes = length-map pairs head_of ∙ sym count;
      next = next;
      short = omega (arith, turns_are pairs, short);
      arc = omega (arith, count, arc);
      turn = ap (λ (n : ℕ). turn_of n s) count ∙ turn;
    }

-- it leaves the node of the chain
pub next_start : {from to : List ℕ} {v upto turn s : ℕ} → IsNextStep from to v upto turn s →
    start_of (over from to) s ≡ v
next_start {from} {to} {s} n =
    sym (key_of_turn from to s n.sizes n.arc) ∙ ap (slice_index (to ++ from)) n.turn ∙ n.next.here n.short

-- and was not written before
pub next_is_new : {from to : List ℕ} {v upto turn first last s : ℕ} {steps ends : List ℕ} →
    IsPartRow from to v upto first last steps ends → AreApart from to v first steps →
    IsNextStep from to v upto turn s → (p : ℕ) → p < last → slice_index steps p ≢ s
next_is_new {from} {to} {first} part before n p b same = elim (cases_lt p first) [
  | inl early ↦
      omega (arith, before.starts p early, ap (start_of (over from to)) same, next_start n)
  | inr late ↦ omega (arith, part.turns p late b, ap (turn_of (length from)) same, n.turn, n.next.after)
]

-- so there is room for it
pub next_has_room : {from to : List ℕ} {v upto turn first last s : ℕ} {steps ends : List ℕ} →
    IsPartRow from to v upto first last steps ends → AreApart from to v first steps →
    AreApart from to (v + 1) last steps → IsNextStep from to v upto turn s → last < 2 * length from
next_has_room {from} {last} {s} {steps} part before apart n =
    room_for_one last (2 * length from) (slice_index steps) s (λ p b. omega (arith, apart.arcs p b))
    (omega (arith, n.arc)) apart.once (next_is_new part before n)

-- one more step was written
pub part_next : {from to : List ℕ} {v upto turn first last s u : ℕ} {steps ends : List ℕ} →
    IsPartRow from to v upto first last steps ends → IsNextStep from to v upto turn s → u ≡ end_of (over from to) s →
    last < length steps → length ends ≡ length steps →
    IsPartRow from to v (turn + 1) first (last + 1) (slice_set steps last s) (slice_set ends last u)
part_next {from} {to} {v} {upto} {turn} {last} {s} {u} {steps} {ends} part n end room sizes =
    let start = next_start n in
    let w = written_at steps last s room in
    let e = written_at ends last u (omega arith) in
    let steps' = slice_set steps last s in
    let ends' = slice_set ends last u in
    let order = part.order in
    let after = n.next.after in
    let is = n.turn in
    record {
      order = omega arith;
      leads = λ p b d. elim (cases_lt p last) [
        | inl before ↦
            let ne = less_other p last before in
            rw (w.other p ne, e.other p ne) (part.leads p b before)
        | inr at_last ↦
            let here : last ≡ p = omega arith in
            subst (λ (q : ℕ). Leads from to v (slice_index steps' q) (slice_index ends' q)) here
            (rw (w.here, e.here) record { arc = n.arc; start = start; end = sym end })
      ];
      turns = λ p b d. elim (cases_lt p last) [
        | inl before ↦
            omega (arith, part.turns p b before, ap (turn_of (length from)) (w.other p (less_other p last before)))
        | inr at_last ↦
            let here : p ≡ last = omega arith in
            omega (arith, is, ap (turn_of (length from)) (ap (slice_index steps') here ∙ w.here))
      ];
      once = λ p q b d f same. elim (cases_lt q last) [
        | inl before ↦ part.once p q b d before
            (sym (w.other p (less_other p last (omega arith))) ∙ same ∙ w.other q (less_other q last before))
        | inr at_last ↦
            let here : q ≡ last = omega arith in
            let before : p < last = omega arith in
            omega (
              arith,
              part.turns p b before,
              is,
              ap (turn_of (length from))
                  (sym (w.other p (less_other p last before)) ∙ same ∙ (ap (slice_index steps') here ∙ w.here)),
            )
      ];
      all = λ t b f less. elim (cases_lt (turn_of (length from) t) upto) [
        | inl before ↦
            let old = part.all t b f before in
            (old.0, (old.1.0, (omega (arith, old.1.1.0), w.other old.0 (less_other old.0 last old.1.1.0) ∙ old.1.1.1)))
        | inr later ↦ elim (cases_eq (turn_of (length from) t) turn) [
          | inl same ↦
              (last, (order, (omega arith, w.here ∙ turn_apart (length from) s t n.arc b (is ∙ sym same))))
          | inr ne ↦ absurd (n.next.skipped (turn_of (length from) t) later (omega arith)
              (key_of_turn from to t n.sizes b ∙ f))
        ]
      ];
    }

-- past the end of the chain all steps were written
pub part_end : {from to : List ℕ} {v upto turn first last turns : ℕ} {steps ends : List ℕ} → length to ≡ length from →
    turns ≡ 2 * length from → IsPartRow from to v upto first last steps ends → IsNext (to ++ from) v upto turn →
    turns ≤ turn → IsPartRow from to v turns first last steps ends
part_end {from} {to} {upto} {turns} {steps} sizes are part next past =
    let all = length-append to from in
    let within = next.within in
    let after = next.after in
    record {
      order = part.order;
      leads = part.leads;
      turns = λ p b d. omega (arith, are, turn_below (length from) (slice_index steps p) (part.leads p b d).arc);
      once = part.once;
      all = λ s b e less. elim (cases_lt (turn_of (length from) s) upto) [
        | inl before ↦ part.all s b e before
        | inr later ↦ absurd (next.skipped (turn_of (length from) s) later (omega arith)
            (key_of_turn from to s sizes b ∙ e))
      ];
    }

-- words stay small when a small one is written
pub small_stays : (xs : List ℕ) (at x : ℕ) → at < length xs → x < 2 ^ 32 → AreSmall xs → AreSmall (slice_set xs at x)
small_stays xs at x room small before p =
    let w = written_at xs at x room in
    elim (cases_eq p at) [
      | inl same ↦ omega (arith, small, ap (slice_index (slice_set xs at x)) same, w.here)
      | inr ne ↦ omega (arith, before p, w.other p ne)
    ]

-- words that are 0 are small, and so is a part of them
pub zeros_small : (xs : List ℕ) (n m : ℕ) → ((p : ℕ) → slice_index xs p ≡ 0) → AreSmall (take n (drop m xs))
zeros_small xs n m none p = elim (cases_lt p n) [
  | inl less ↦ omega (arith, get_or-take n (drop m xs) p 0 less, get_or-drop m xs p 0, none (m + p))
  | inr more ↦ omega (arith, get_or_past (take n (drop m xs)) p 0 (omega (arith, length-take n (drop m xs), more)))
]

-- what each word below an index is, each is still when one more is written
each_written : (P : ℕ → Type 0) (xs : List ℕ) (last x : ℕ) → last < length xs →
    ((p : ℕ) → p < last → P (slice_index xs p)) → P x → (p : ℕ) → p < last + 1 → P (slice_index (slice_set xs last x) p)
each_written P xs last x room before here p b = elim (cases_eq p last) [
  | inl e ↦ subst P (sym (ap (slice_index (slice_set xs last x)) e ∙ get_or-set_same xs last x 0 room)) here
  | inr ne ↦ subst P (sym (get_or-set_other xs last p x 0 ne)) (before p (omega arith))
]

-- steps that are apart stay so when one more is written
pub apart_more : {from to : List ℕ} {n last : ℕ} (s : ℕ) {steps : List ℕ} → AreApart from to n last steps →
    last < length steps → arc_of s < length from → start_of (over from to) s < n →
    ((p : ℕ) → p < last → slice_index steps p ≢ s) → AreApart from to n (last + 1) (slice_set steps last s)
apart_more {from} {to} {n} {last} s {steps} apart room arc start is_new =
    let w = written_at steps last s room in
    let steps' = slice_set steps last s in
    record {
      arcs = each_written (λ (x : ℕ). arc_of x < length from) steps last s room apart.arcs arc;
      starts = each_written (λ (x : ℕ). start_of (over from to) x < n) steps last s room apart.starts start;
      once = λ p q d b same. elim (cases_lt q last) [
        | inl before ↦ apart.once p q d before
            (sym (w.other p (less_other p last (omega arith))) ∙ same ∙ w.other q (less_other q last before))
        | inr at_last ↦
            let here : q ≡ last = omega arith in
            let before : p < last = omega arith in
            is_new p before
            (sym (w.other p (less_other p last before)) ∙ same ∙ (ap (slice_index steps') here ∙ w.here))
      ];
    }

-- and when a later index is written
pub apart_stays : {from to : List ℕ} {n last : ℕ} (at s : ℕ) {steps : List ℕ} → AreApart from to n last steps →
    last ≤ at → AreApart from to n last (slice_set steps at s)
apart_stays {from} {to} {n} {last} at s {steps} apart beyond =
    let other : (p : ℕ) → p < last → slice_index (slice_set steps at s) p ≡ slice_index steps p =
    λ p b. get_or-set_other steps at p s 0 (less_other p at (omega arith)) in
    record {
      arcs = λ p b. subst (λ (x : ℕ). arc_of x < length from) (sym (other p b)) (apart.arcs p b);
      starts = λ p b. subst (λ (x : ℕ). start_of (over from to) x < n) (sym (other p b)) (apart.starts p b);
      once = λ p q d b same. apart.once p q d b (sym (other p (omega arith)) ∙ same ∙ other q b);
    }

-- steps that leave nodes below n leave nodes below n + 1
pub apart_weak : {from to : List ℕ} {n last : ℕ} {steps : List ℕ} → AreApart from to n last steps →
    AreApart from to (n + 1) last steps
apart_weak apart = record { arcs = apart.arcs; starts = λ p b. omega (arith, apart.starts p b); once = apart.once }

-- no step is written yet
pub apart_start : (from to steps : List ℕ) → AreApart from to 0 0 steps
apart_start from to steps = record {
  arcs = λ p b. absurd (omega arith);
  starts = λ p b. absurd (omega arith);
  once = λ p q d b. absurd (omega arith);
}

-- lists that were the same below an index stay so when a later index is written
pub same_stays : {last : ℕ} (at s u : ℕ) {steps ends steps' ends' : List ℕ} →
    AreSameBelow last steps ends steps' ends' →
    last ≤ at → AreSameBelow last steps ends (slice_set steps' at s) (slice_set ends' at u)
same_stays at s u {steps'} {ends'} same beyond = record {
  same_steps = λ p b. get_or-set_other steps' at p s 0 (less_other p at (omega arith)) ∙ same.same_steps p b;
  same_ends = λ p b. get_or-set_other ends' at p u 0 (less_other p at (omega arith)) ∙ same.same_ends p b;
}

-- the rows of the nodes below n are written, and end before an index
pub record AreRowsUpTo (from to : List ℕ) (n last : ℕ) (r : Rows) : Type 0 where
  pub place : slice_index r.first n ≡ last
  pub inside : last ≤ length r.step
  pub rows : (v : ℕ) → v < n → IsRow from to r v
  pub before : (v : ℕ) → v < n → slice_index r.first (v + 1) ≤ last

-- none is written yet
pub rows_start : (from to first step end : List ℕ) → 0 < length first →
    AreRowsUpTo from to 0 0 record { first = slice_set first 0 0; step = step; end = end }
rows_start from to first step end some = record {
  place = get_or-set_same first 0 0 0 some;
  inside = omega arith;
  rows = λ v b. absurd (omega arith);
  before = λ v b. absurd (omega arith);
}

-- a row stays when more is written after it
row_stays : {from to : List ℕ} {r : Rows} (more : Rows) {v last : ℕ} →
    slice_index more.first v ≡ slice_index r.first v →
    slice_index more.first (v + 1) ≡ slice_index r.first (v + 1) → slice_index r.first (v + 1) ≤ last →
    length more.step ≡ length r.step → AreSameBelow last r.step r.end more.step more.end → IsRow from to r v →
    IsRow from to more v
row_stays {from} {to} {r} more {v} {last} first next inside sizes same row =
    let within = row.within in
    let order = row.order in
    let before : (p : ℕ) → IsInRow more v p → IsInRow r v p =
    λ p i. record { from = omega (arith, i.from, first); below = omega (arith, i.below, next) } in
    let short : (p : ℕ) → IsInRow more v p → p < last = λ p i. omega (arith, i.below, next) in
    record {
      order = omega arith;
      within = omega arith;
      leads = λ p i. rw (same.same_steps p (short p i), same.same_ends p (short p i)) (row.leads p (before p i));
      once = λ p q i j e. row.once p q (before p i) (before q j)
          (sym (same.same_steps p (short p i)) ∙ e ∙ same.same_steps q (short q j));
      all = λ s d e.
          let old = row.all s d e in
          let here : IsInRow more v old.0 = record
          { from = omega (arith, old.1.0.from, first); below = omega (arith, old.1.0.below, next) } in
          (old.0, (here, same.same_steps old.0 (omega (arith, old.1.0.below)) ∙ old.1.1));
    }

-- the row of one more node is written
pub rows_next : {from to : List ℕ} {n last last' turns : ℕ} {first step end step' end' : List ℕ} →
    n + 1 < length first → AreRowsUpTo from to n last record { first = first; step = step; end = end } →
    turns ≡ 2 * length from → IsPartRow from to n turns last last' step' end' → AreSameBelow last step end step' end' →
    length step' ≡ length step → last' ≤ length step' →
    AreRowsUpTo from to (n + 1) last' record { first = slice_set first (n + 1) last'; step = step'; end = end' }
rows_next {from} {to} {n} {last} {last'} {first} {step} {end} {step'} {end'} room rows are part same sizes inside =
    let r : Rows = record { first = first; step = step; end = end } in
    let more : Rows = record { first = slice_set first (n + 1) last'; step = step'; end = end' } in
    let w = written_at first (n + 1) last' room in
    let here : slice_index more.first n ≡ last = w.other n (less_other n (n + 1) (omega arith)) ∙ rows.place in
    let next : slice_index more.first (n + 1) ≡ last' = w.here in
    let order = part.order in
    record {
      place = next;
      inside = inside;
      before = λ v b. elim (cases_lt v n) [
        | inl old ↦ omega (arith, rows.before v old, w.other (v + 1) (less_other (v + 1) (n + 1) (omega arith)))
        | inr new ↦
            let e : v ≡ n = omega arith in
            omega (arith, next, ap (λ (u : ℕ). slice_index more.first (u + 1)) e)
      ];
      rows = λ v b. elim (cases_lt v n) [
        | inl old ↦ row_stays more (w.other v (less_other v (n + 1) (omega arith)))
            (w.other (v + 1) (less_other (v + 1) (n + 1) (omega arith))) (rows.before v old) sizes same
            (rows.rows v old)
        | inr new ↦
            let e : n ≡ v = omega arith in
            subst (λ (u : ℕ). IsRow from to more u) e record {
              order = omega arith;
              within = omega arith;
              leads = λ p i. part.leads p (omega (arith, i.from)) (omega (arith, i.below));
              once = λ p q i j twice. elim (cases_lt p q) [
                | inl less ↦ absurd (part.once p q (omega (arith, i.from)) less (omega (arith, j.below)) twice)
                | inr other ↦ elim (cases_lt q p) [
                  | inl less ↦ absurd (part.once q p (omega (arith, j.from)) less (omega (arith, i.below)) (sym twice))
                  | inr neither ↦ omega arith
                ]
              ];
              all = λ s d f.
                  let x = part.all s d f (omega (arith, are, turn_below (length from) s d)) in
                  let in_row : IsInRow more n x.0 = record {
                    from = omega (arith, x.1.0);
                    below = omega (arith, x.1.1.0);
                  } in
                  (x.0, (in_row, x.1.1.1));
            }
      ];
    }

-- all rows are written
pub rows_end : {from to : List ℕ} (nodes : ℕ) {n last : ℕ} {r : Rows} → n ≡ nodes + 1 → length r.first ≡ nodes + 2 →
    length r.end ≡ length r.step → AreRowsUpTo from to n last r → AreRows nodes from to r
rows_end nodes is firsts ends rows = record { firsts = firsts; ends = ends; rows = λ v b. rows.rows v (omega arith) }
