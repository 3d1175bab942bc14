-- The rooms of the steps, and what a hold and a push make of them.
use Rattle.std.proofs.Common.{ℕ, Bool, true, false, not, ◌≡◌, ◌≢◌, ◌+◌, ◌-◌, ◌*◌, ◌<◌, ◌≤◌, ◌⊎◌, List, ◌++◌, length}
use Rattle.std.proofs.Common.{drop, replicate, slice_index, slice_set, refl, arith, ap, sym, subst, inl, inr, ◌∙◌}
use Rattle.std.specs.Int.Bits.{bit_xor, xor_add_and}
use Rattle.std.proofs.lemmas.Nat.{and_mask}
use Rattle.std.proofs.lemmas.Bool.{cases_Bool, cases_eq, cases_lt, eqb-true, eqb-false}
use Rattle.std.proofs.lemmas.List.{ext_get_or, get_or-set_same, get_or-set_other, length-set, length-append}
use Rattle.std.proofs.lemmas.List.{get_or-append-add, get_or_append_left, get_or_past, get_or-replicate, get_or-drop}
use Rattle.std.proofs.lemmas.List.{length-drop, length-replicate, replicate-append-replicate}
use Rattle.std.proofs.lemmas.List.FromFn.{length-map-range_with_len, get_or-map-range_with_len}
use Rattle.finite_sums.specs.Sums.{when}
use Rattle.circulation.specs.Contents.{Contents, network, flow_of, on_last}
use Rattle.circulation.specs.Residual.{arc_of, is_backward, opposite, room_of}
use Rattle.circulation.specs.Rooms.{flows_over, uppers_over, AreRooms, IsRoomMoved}
use Rattle.circulation.proofs.Overs.{over_either}

-- a flow for each arc
pub length-flows : (lower rooms : List ℕ) → length (flows_over lower rooms) ≡ length lower
unfolding flows_over
length-flows lower rooms = length-map-range_with_len _ 0 (length lower)

-- an upper bound for each arc
pub length-uppers : (lower rooms : List ℕ) → length (uppers_over lower rooms) ≡ length lower
unfolding uppers_over
length-uppers lower rooms = length-map-range_with_len _ 0 (length lower)

-- the flow on an arc
pub flow-at : (lower rooms : List ℕ) (a : ℕ) → a < length lower →
    slice_index (flows_over lower rooms) a ≡ slice_index lower a + slice_index rooms (2 * a + 1)
unfolding flows_over
flow-at lower rooms a b =
    get_or-map-range_with_len (λ a. slice_index lower a + slice_index rooms (2 * a + 1)) 0 (length lower) a a 0 b
    (omega arith)

-- the upper bound of an arc
pub upper-at : (lower rooms : List ℕ) (a : ℕ) → a < length lower → slice_index (uppers_over lower rooms) a
    ≡ slice_index lower a + slice_index rooms (2 * a + 1) + slice_index rooms (2 * a)
unfolding uppers_over
upper-at lower rooms a b =
    get_or-map-range_with_len (λ a. slice_index lower a + slice_index rooms (2 * a + 1) + slice_index rooms (2 * a))
    0 (length lower) a a 0 b (omega arith)

-- words that are two for each arc are the rooms for these upper bounds and this flow
pub rooms_over : (lower rooms : List ℕ) → length rooms ≡ 2 * length lower →
    AreRooms lower (uppers_over lower rooms) (flows_over lower rooms) rooms
rooms_over lower rooms size = record {
  uppers = length-uppers lower rooms;
  flows = length-flows lower rooms;
  size = size;
  rise = λ a b. omega (arith, flow-at lower rooms a b, upper-at lower rooms a b);
  fall = λ a b. sym (flow-at lower rooms a b);
}

-- and for no other flow
pub flows_are : {lower upper flow rooms : List ℕ} → AreRooms lower upper flow rooms → flows_over lower rooms ≡ flow
flows_are {lower} {flow = flow} {rooms = rooms} r =
    ext_get_or 0 (flows_over lower rooms) flow (length-flows lower rooms ∙ sym r.flows)
    (λ a b.
    let c : a < length lower = omega (arith, b, length-flows lower rooms) in
    flow-at lower rooms a c ∙ r.fall a c)

-- and no other upper bounds
pub uppers_are : {lower upper flow rooms : List ℕ} → AreRooms lower upper flow rooms → uppers_over lower rooms ≡ upper
uppers_are {lower} {upper} {rooms = rooms} r =
    ext_get_or 0 (uppers_over lower rooms) upper (length-uppers lower rooms ∙ sym r.uppers)
    (λ a b.
    let c : a < length lower = omega (arith, b, length-uppers lower rooms) in
    omega (arith, upper-at lower rooms a c, r.fall a c, r.rise a c))

-- where there is nothing there is no room
pub rooms_none : (n : ℕ) →
    AreRooms (replicate n 0) (replicate n 0) (replicate n 0) (replicate (2 * n) 0)
rooms_none n =
    let count = length-replicate {A = ℕ} n 0 in
    let none : (a : ℕ) → a < length (replicate {A = ℕ} n 0) → slice_index (replicate {A = ℕ} n 0) a ≡ 0 = λ a b.
    get_or-replicate {A = ℕ} n a 0 0 (omega (arith, count)) in
    record {
      uppers = refl;
      flows = refl;
      size = omega (arith, count, length-replicate {A = ℕ} (2 * n) 0);
      rise = λ a b. omega (arith, none a b, get_or-replicate {A = ℕ} (2 * n) (2 * a) 0 0 (omega (arith, b, count)));
      fall = λ a b. omega
          (arith, none a b, get_or-replicate {A = ℕ} (2 * n) (2 * a + 1) 0 0 (omega (arith, b, count)));
    }

-- an element of the first list, and of the second
joined_left : (xs ys : List ℕ) {n : ℕ} (i : ℕ) → length xs ≡ n → i < n → slice_index (xs ++ ys) i ≡ slice_index xs i
joined_left xs ys i count b = get_or_append_left xs ys 0 i (omega arith)

joined_right : (xs ys : List ℕ) {n : ℕ} (i j : ℕ) → length xs ≡ n → i ≡ n + j →
    slice_index (xs ++ ys) i ≡ slice_index ys j
joined_right xs ys i j count is =
    ap (slice_index (xs ++ ys)) (omega arith) ∙ get_or-append-add xs ys j 0

-- the rooms over some arcs and those over the arcs after them
pub rooms_joined : {l u f r l' u' f' r' : List ℕ} → AreRooms l u f r → AreRooms l' u' f' r' →
    AreRooms (l ++ l') (u ++ u') (f ++ f') (r ++ r')
rooms_joined {l} {u} {f} {r} {l'} {u'} {f'} {r'} x y =
    let count = length-append l l' in
    record {
      uppers = omega (arith, count, length-append u u', x.uppers, y.uppers);
      flows = omega (arith, count, length-append f f', x.flows, y.flows);
      size = omega (arith, count, length-append r r', x.size, y.size);
      rise = λ a b. elim (cases_lt a (length l)) [
        | inl c ↦ omega (
          arith,
          joined_left f f' a x.flows c,
          joined_left r r' (2 * a) x.size (omega arith),
          joined_left u u' a x.uppers c,
          x.rise a c,
        )
        | inr c ↦ omega (
          arith,
          joined_right f f' a (a - length l) x.flows (omega arith),
          joined_right r r' (2 * a) (2 * (a - length l)) x.size (omega arith),
          joined_right u u' a (a - length l) x.uppers (omega arith),
          y.rise (a - length l) (omega arith),
        )
      ];
      fall = λ a b. elim (cases_lt a (length l)) [
        | inl c ↦ omega (
          arith,
          joined_left l l' a refl c,
          joined_left r r' (2 * a + 1) x.size (omega arith),
          joined_left f f' a x.flows c,
          x.fall a c,
        )
        | inr c ↦ omega (
          arith,
          joined_right l l' a (a - length l) refl (omega arith),
          joined_right r r' (2 * a + 1) (2 * (a - length l) + 1) x.size (omega arith),
          joined_right f f' a (a - length l) x.flows (omega arith),
          y.fall (a - length l) (omega arith),
        )
      ];
    }

-- the room back over an arc falls by what is held on it more
pub rooms_held : {lower upper flow rooms : List ℕ} (arc amount : ℕ) → AreRooms lower upper flow rooms →
    arc < length lower → slice_index lower arc ≤ amount → amount ≤ slice_index flow arc →
    AreRooms (slice_set lower arc amount) upper flow
    (slice_set rooms (2 * arc + 1) (slice_index rooms (2 * arc + 1) - (amount - slice_index lower arc)))
rooms_held {lower} {upper} {flow} {rooms} arc amount r b more fits =
    let back = slice_index rooms (2 * arc + 1) - (amount - slice_index lower arc) in
    let count = length-set lower arc amount in
    record {
      uppers = omega (arith, count, r.uppers);
      flows = omega (arith, count, r.flows);
      size = omega (arith, count, length-set rooms (2 * arc + 1) back, r.size);
      rise = λ a c. omega (
        arith,
        get_or-set_other rooms (2 * arc + 1) (2 * a) back 0 (omega arith),
        r.rise a (omega (arith, c, count)),
      );
      fall = λ a c. elim (cases_eq a arc) [
        | inl e ↦ subst (λ (x : ℕ). slice_index (slice_set lower arc amount) x
            + slice_index (slice_set rooms (2 * arc + 1) back) (2 * x + 1) ≡ slice_index flow x) (sym e) (omega (
              arith,
              get_or-set_same lower arc amount 0 b,
              get_or-set_same rooms (2 * arc + 1) back 0 (omega (arith, b, r.size)),
              r.fall arc b,
            ))
        | inr ne ↦ omega (
          arith,
          get_or-set_other lower arc a amount 0 ne,
          get_or-set_other rooms (2 * arc + 1) (2 * a + 1) back 0 (omega arith),
          r.fall a (omega (arith, c, count)),
        )
      ];
    }

-- the room forward over an arc is what its flow has left to another upper bound
pub rooms_bounded : {lower upper flow rooms : List ℕ} (arc most : ℕ) → AreRooms lower upper flow rooms →
    arc < length lower → slice_index flow arc ≤ most →
    AreRooms lower (slice_set upper arc most) flow
    (slice_set rooms (2 * arc) (most - (slice_index lower arc + slice_index rooms (2 * arc + 1))))
rooms_bounded {lower} {upper} {flow} {rooms} arc most r b fits =
    let up = most - (slice_index lower arc + slice_index rooms (2 * arc + 1)) in
    record {
      uppers = length-set upper arc most ∙ r.uppers;
      flows = r.flows;
      size = length-set rooms (2 * arc) up ∙ r.size;
      rise = λ a c. elim (cases_eq a arc) [
        | inl e ↦ subst (λ (x : ℕ). slice_index flow x + slice_index (slice_set rooms (2 * arc) up) (2 * x)
            ≡ slice_index (slice_set upper arc most) x) (sym e) (omega (
              arith,
              get_or-set_same rooms (2 * arc) up 0 (omega (arith, b, r.size)),
              get_or-set_same upper arc most 0 (omega (arith, b, r.uppers)),
              r.fall arc b,
              fits,
            ))
        | inr ne ↦ omega (
          arith,
          get_or-set_other rooms (2 * arc) (2 * a) up 0 (omega arith),
          get_or-set_other upper arc a most 0 ne,
          r.rise a c,
        )
      ];
      fall = λ a c. omega (arith, get_or-set_other rooms (2 * arc) (2 * a + 1) up 0 (omega arith), r.fall a c);
    }

-- the room of a step is its residual capacity
pub room_is : (c : Contents) {rooms : List ℕ} (s : ℕ) → AreRooms c.lower c.upper c.flow rooms →
    arc_of s < length c.lower → slice_index rooms s ≡ room_of (network c) (flow_of c) s
room_is c {rooms} s r b = elim (over_either (network c) (flow_of c) s) [
  | inl e ↦ ap (slice_index rooms) e.0 ∙ (omega (arith, r.rise (arc_of s) b, e.1.room))
  | inr e ↦ ap (slice_index rooms) e.0 ∙ (omega (arith, r.fall (arc_of s) b, e.1.room))
]

-- a step goes forward over its arc, or back
step_either : (s : ℕ) → ((s ≡ 2 * arc_of s) × (is_backward s ≡ false)) ⊎
    ((s ≡ 2 * arc_of s + 1) × (is_backward s ≡ true))
step_either s = elim (cases_Bool (is_backward s)) [
  | inl e ↦ let odd = eqb-true _ 1 e in inr (omega (arith, odd), e)
  | inr e ↦ let even = eqb-false _ 1 e in inl (omega (arith, even), e)
]

-- the step over the same arc the other way differs in the last bit alone
pub xor_one : (s : ℕ) → bit_xor s 1 ≡ opposite s
xor_one s = elim (step_either s) [
  | inl e ↦ rw e.1 (omega (arith, xor_add_and s 1, and_mask s 1, e.0))
  | inr e ↦ rw e.1 (omega (arith, xor_add_and s 1, and_mask s 1, e.0))
]

-- and is another one
opposite_other : (s : ℕ) → opposite s ≢ s
opposite_other s = elim (step_either s) [
  | inl e ↦ rw e.1 (λ is. absurd (omega arith))
  | inr e ↦ rw e.1 (λ is. absurd (omega (arith, e.0)))
]

-- both rooms over an arc as they are written
pub room_moved : {rooms : List ℕ} (s other amount : ℕ) → other ≡ opposite s → s < length rooms →
    opposite s < length rooms → amount ≤ slice_index rooms s →
    let one = slice_set rooms s (slice_index rooms s - amount) in
    IsRoomMoved rooms (slice_set one other (slice_index one other + amount)) s amount
room_moved {rooms} s other amount is b c fits =
    let less = slice_index rooms s - amount in
    let one = slice_set rooms s less in
    let more = slice_index one (opposite s) + amount in
    let count = length-set rooms s less in
    rw is record {
      size = length-set one (opposite s) more ∙ count;
      taken = omega (
        arith,
        get_or-set_other one (opposite s) s more 0 (λ e. opposite_other s (sym e)),
        get_or-set_same rooms s less 0 b,
        fits,
      );
      given = get_or-set_same one (opposite s) more 0 (omega (arith, c, count))
          ∙ ap (λ (n : ℕ). n + amount) (get_or-set_other rooms s (opposite s) less 0 (opposite_other s));
      others = λ t n f. get_or-set_other one (opposite s) t more 0 f ∙ get_or-set_other rooms s t less 0 n;
    }

-- the amount went to or from the room back over the arc
record IsPairMoved (old new : List ℕ) (a amount : ℕ) (back : Bool) : Type 0 where
  up : slice_index new (2 * a) + when (not back) amount ≡ slice_index old (2 * a) + when back amount
  down : slice_index new (2 * a + 1) + when back amount ≡ slice_index old (2 * a + 1) + when (not back) amount
  others : (t : ℕ) → t ≢ 2 * a → t ≢ 2 * a + 1 → slice_index new t ≡ slice_index old t

-- both rooms over an arc
pair_moved : {old new : List ℕ} (s amount : ℕ) → IsRoomMoved old new s amount →
    IsPairMoved old new (arc_of s) amount (is_backward s)
pair_moved {old} {new} s amount m = elim (step_either s) [
  | inl e ↦
      let other : opposite s ≡ 2 * arc_of s + 1 = rw e.1 (omega (arith, e.0)) in
      let given = rw other at m.given in
      let taken = subst (λ (t : ℕ). slice_index new t + amount ≡ slice_index old t) e.0 m.taken in
      rw e.1 record {
        up = omega (arith, taken);
        down = omega (arith, given);
        others = λ t n f. m.others t (λ is. n (is ∙ e.0)) (λ is. f (is ∙ other));
      }
  | inr e ↦
      let other : opposite s ≡ 2 * arc_of s = rw e.1 (omega (arith, e.0)) in
      let given = rw other at m.given in
      let taken = subst (λ (t : ℕ). slice_index new t + amount ≡ slice_index old t) e.0 m.taken in
      rw e.1 record {
        up = omega (arith, given);
        down = omega (arith, taken);
        others = λ t n f. m.others t (λ is. f (is ∙ e.0)) (λ is. n (is ∙ other));
      }
]

-- the rooms are still those of the upper bounds, and a flow that is changed by the amount on the arc of the step
pub record IsFlowMoved (lower upper flow next rooms : List ℕ) (s amount : ℕ) : Type 0 where
  pub kept : AreRooms lower upper next rooms
  pub on : slice_index next (arc_of s) + when (is_backward s) amount
      ≡ slice_index flow (arc_of s) + when (not (is_backward s)) amount
  pub off : (a : ℕ) → a ≢ arc_of s → slice_index next a ≡ slice_index flow a

-- where an amount went from one room to the other
pub flow_moved : {lower upper flow rooms new : List ℕ} (s amount : ℕ) → AreRooms lower upper flow rooms →
    arc_of s < length lower → IsRoomMoved rooms new s amount →
    IsFlowMoved lower upper flow (flows_over lower new) new s amount
flow_moved {lower} {upper} {flow} {rooms} {new} s amount r b m =
    let pair = pair_moved s amount m in
    let size : length new ≡ 2 * length lower = m.size ∙ r.size in
    let now = rooms_over lower new size in
    let off : (a : ℕ) → a ≢ arc_of s → slice_index (flows_over lower new) a ≡ slice_index flow a = λ a ne.
    elim (cases_lt a (length lower)) [
      | inl c ↦ omega (arith, now.fall a c, r.fall a c, pair.others (2 * a + 1) (omega arith) (omega arith))
      | inr c ↦ get_or_past _ a 0 (omega (arith, now.flows)) ∙ sym (get_or_past flow a 0 (omega (arith, r.flows)))
    ] in
    let both : when (is_backward s) amount + when (not (is_backward s)) amount ≡ amount =
    both_parts (is_backward s) amount in
    let on : slice_index (flows_over lower new) (arc_of s) + when (is_backward s) amount
    ≡ slice_index flow (arc_of s) + when (not (is_backward s)) amount =
    omega (arith, now.fall (arc_of s) b, r.fall (arc_of s) b, pair.down) in
    record {
      kept = record {
        uppers = r.uppers;
        flows = now.flows;
        size = size;
        rise = λ a c. elim (cases_eq a (arc_of s)) [
          | inl e ↦ subst (λ (x : ℕ). slice_index (flows_over lower new) x + slice_index new (2 * x)
              ≡ slice_index upper x) (sym e) (omega (arith, on, both, pair.up, r.rise (arc_of s) b))
          | inr ne ↦ omega (arith, off a ne, r.rise a c, pair.others (2 * a) (omega arith) (omega arith))
        ];
        fall = now.fall;
      };
      on = on;
      off = off;
    }
  where
    both_parts : (back : Bool) (d : ℕ) → when back d + when (not back) d ≡ d
    both_parts true d = omega arith
    both_parts false d = omega arith

-- both rooms over an arc are no more than its upper bound
pub rooms_fit : {lower upper flow rooms : List ℕ} (s : ℕ) → AreRooms lower upper flow rooms →
    arc_of s < length lower → slice_index rooms s + slice_index rooms (opposite s) ≤ slice_index upper (arc_of s)
rooms_fit {rooms = rooms} s r b = elim (step_either s) [
  | inl e ↦
      let other : opposite s ≡ 2 * arc_of s + 1 = rw e.1 (omega (arith, e.0)) in
      omega (arith, ap (slice_index rooms) e.0, ap (slice_index rooms) other, r.rise (arc_of s) b, r.fall (arc_of s) b)
  | inr e ↦
      let other : opposite s ≡ 2 * arc_of s = rw e.1 (omega (arith, e.0)) in
      omega (arith, ap (slice_index rooms) e.0, ap (slice_index rooms) other, r.rise (arc_of s) b, r.fall (arc_of s) b)
]

-- there are words for the rooms of a step and of the other over its arc
pub rooms_inside : {lower upper flow rooms : List ℕ} (s : ℕ) → AreRooms lower upper flow rooms →
    arc_of s < length lower → (s < length rooms) × (opposite s < length rooms)
rooms_inside {rooms = rooms} s r b = elim (step_either s) [
  | inl e ↦
      let other : opposite s ≡ 2 * arc_of s + 1 = rw e.1 (omega (arith, e.0)) in
      (omega (arith, r.size), omega (arith, other, r.size))
  | inr e ↦
      let other : opposite s ≡ 2 * arc_of s = rw e.1 (omega (arith, e.0)) in
      (omega (arith, r.size), omega (arith, other, r.size))
]

-- the rooms over the arcs before `n` are written, where nothing is held
pub record AreWritten (upper flow rooms : List ℕ) (n : ℕ) : Type 0 where
  pub rise : (a : ℕ) → a < n → slice_index flow a + slice_index rooms (2 * a) ≡ slice_index upper a
  pub fall : (a : ℕ) → a < n → slice_index rooms (2 * a + 1) ≡ slice_index flow a

-- and those over the next one
pub written_next : {upper flow rooms : List ℕ} {n : ℕ} (up back : ℕ) → AreWritten upper flow rooms n →
    2 * n + 1 < length rooms → slice_index flow n + up ≡ slice_index upper n → back ≡ slice_index flow n →
    AreWritten upper flow (slice_set (slice_set rooms (2 * n) up) (2 * n + 1) back) (n + 1)
written_next {rooms = rooms} {n = n} up back w b rise fall =
    let one = slice_set rooms (2 * n) up in
    let count = length-set rooms (2 * n) up in
    record {
      rise = λ a c. elim (cases_eq a n) [
        | inl e ↦ rw e (omega (
          arith,
          get_or-set_other one (2 * n + 1) (2 * n) back 0 (omega arith),
          get_or-set_same rooms (2 * n) up 0 (omega arith),
        ))
        | inr ne ↦ omega (
          arith,
          get_or-set_other one (2 * n + 1) (2 * a) back 0 (omega arith),
          get_or-set_other rooms (2 * n) (2 * a) up 0 (omega arith),
          w.rise a (omega arith),
        )
      ];
      fall = λ a c. elim (cases_eq a n) [
        | inl e ↦ rw e (get_or-set_same one (2 * n + 1) back 0 (omega arith) ∙ fall)
        | inr ne ↦ omega (
          arith,
          get_or-set_other one (2 * n + 1) (2 * a + 1) back 0 (omega arith),
          get_or-set_other rooms (2 * n) (2 * a + 1) up 0 (omega arith),
          w.fall a (omega arith),
        )
      ];
    }

-- when those over all arcs are written
pub written_all : {upper flow rooms : List ℕ} {n : ℕ} → AreWritten upper flow rooms n → length upper ≤ n →
    length flow ≡ length upper → length rooms ≡ 2 * length upper →
    AreRooms (replicate (length upper) 0) upper flow rooms
written_all {upper} {flow} {rooms} w end flows size =
    let count = length-replicate {A = ℕ} (length upper) 0 in
    record {
      uppers = sym count;
      flows = omega (arith, flows, count);
      size = omega (arith, size, count);
      rise = λ a b. w.rise a (omega (arith, b, count));
      fall = λ a b.
          let c : a < length upper = omega (arith, b, count) in
          omega (arith, get_or-replicate {A = ℕ} (length upper) a 0 0 c, w.fall a (omega (arith, c, end)));
    }

-- the rooms where there is a flow only on the last arcs
pub rooms_last : {upper first last flow r r' : List ℕ} → upper ≡ first ++ last →
    length first ≡ length upper - length flow → AreRooms (replicate (length first) 0) first
    (replicate (length first) 0) r → AreRooms (replicate (length last) 0) last flow r' →
    AreRooms (replicate (length upper) 0) upper (on_last (length upper) flow) (r ++ r')
rooms_last {upper} {first} {last} {flow} {r} {r'} parts empty x y =
    let held : replicate {A = ℕ} (length first) 0 ++ replicate (length last) 0 ≡ replicate (length upper) 0 =
    replicate-append-replicate {A = ℕ} (length first) (length last) 0
    ∙ ap (λ (n : ℕ). replicate {A = ℕ} n 0) (sym (ap length parts ∙ length-append first last)) in
    let flows : replicate {A = ℕ} (length first) 0 ++ flow ≡ on_last (length upper) flow =
    ap (λ (n : ℕ). replicate n 0 ++ flow) empty in
    subst (λ (l : List ℕ). AreRooms l upper (on_last (length upper) flow) (r ++ r')) held
    (subst (λ (u : List ℕ). AreRooms (replicate (length first) 0 ++ replicate (length last) 0) u
    (on_last (length upper) flow) (r ++ r')) (sym parts)
    (subst (λ (f : List ℕ). AreRooms (replicate (length first) 0 ++ replicate (length last) 0) (first ++ last) f
    (r ++ r')) flows (rooms_joined x y)))

-- and the flow there is within their upper bounds
pub last_within : (upper flow : List ℕ) {last : List ℕ} → last ≡ drop (length upper - length flow) upper →
    length flow ≤ length upper → ((a : ℕ) → a < length upper →
    slice_index (on_last (length upper) flow) a ≤ slice_index upper a) → (a : ℕ) → a < length last →
    slice_index flow a ≤ slice_index last a
last_within upper flow {last} is fits within a b =
    let empty = length upper - length flow in
    let count = ap length is ∙ length-drop empty upper in
    let here : slice_index last a ≡ slice_index upper (empty + a) =
    ap (λ (xs : List ℕ). slice_index xs a) is ∙ get_or-drop empty upper a 0 in
    let there = joined_right (replicate {A = ℕ} empty 0) flow (empty + a) a (length-replicate {A = ℕ} empty 0) refl in
    omega (arith, within (empty + a) (omega (arith, b, count)), here, there)
