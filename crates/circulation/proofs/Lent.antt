-- A circulation whose words are lent, and what a hold makes of it.
use Rattle.std.proofs.Common.{ℕ, ◌≡◌, ◌+◌, ◌-◌, ◌*◌, ◌^◌, ◌<◌, ◌≤◌, List, length, slice_index, slice_set}
use Rattle.std.proofs.Common.{max, refl, arith, sym, subst, inl, inr, ◌∙◌}
use Rattle.std.proofs.lemmas.Bool.{cases_eq}
use Rattle.std.proofs.lemmas.List.{get_or-set_same, get_or-set_other, length-set}
use Rattle.circulation.specs.Contents.{Contents, flow_of, arcs, IsCirculation, held_contents, bounded_contents}
use Rattle.circulation.specs.Rooms.{flows_over, uppers_over, AreRooms}
use Rattle.circulation.specs.BorrowedWords.{contents, IsValidCirculation}
use Rattle.circulation.specs.declared.circulation_mut.CirculationMut.TheInside.{Inside}
use Rattle.circulation.proofs.RoomLists.{rooms_over, rooms_held, rooms_bounded, flows_are, uppers_are}

-- the words are the rooms of a circulation
pub record AreRoomsOf (c : Contents) (words : List ℕ) : Type 0 where
  pub kept : IsCirculation c
  pub are : AreRooms c.lower c.upper c.flow words

-- as those of a lent one are
pub lent : {i : Inside} {c : Contents} → IsValidCirculation i → contents i ≡ c → AreRoomsOf c i.rooms.now
lent {i} v is = subst (λ (c : Contents). AreRoomsOf c i.rooms.now) is
    record { kept = v.circulation; are = rooms_over i.lower.now i.rooms.now v.rooms }

-- each arc has a lower bound
pub arc_inside : {c : Contents} {rooms : List ℕ} (arc : ℕ) → AreRoomsOf c rooms → arc < arcs c → arc < length c.lower
arc_inside arc r b = omega (arith, b, r.kept.shape.lower)

-- the flow on an arc fits a word
pub flow_fits : {c : Contents} {rooms : List ℕ} (arc : ℕ) → AreRoomsOf c rooms → arc < arcs c →
    slice_index c.lower arc + slice_index rooms (2 * arc + 1) < 2 ^ 64
flow_fits arc r b =
    omega (arith, r.are.fall arc (arc_inside arc r b), r.kept.flow.high arc b, r.kept.shape.small arc b)

-- the room that an amount takes which is held and no more than the flow
pub hold_fits : {c : Contents} {rooms : List ℕ} (arc amount : ℕ) → AreRoomsOf c rooms → arc < arcs c →
    amount ≤ flow_of c arc → amount - slice_index c.lower arc ≤ slice_index rooms (2 * arc + 1)
hold_fits arc amount r b fits = omega (arith, r.are.fall arc (arc_inside arc r b), fits)

-- an amount is held that is no more than the flow
pub held_kept : {c : Contents} (arc amount : ℕ) → IsCirculation c → arc < arcs c → amount ≤ flow_of c arc →
    IsCirculation (held_contents c arc amount)
held_kept {c} arc amount k b fits =
    let most = max (slice_index c.lower arc) amount in
    record {
      shape = record {
        bounded_nodes = k.shape.bounded_nodes;
        bounded_arcs = k.shape.bounded_arcs;
        to = k.shape.to;
        supply = k.shape.supply;
        lower = length-set c.lower arc most ∙ k.shape.lower;
        upper = k.shape.upper;
        flow = k.shape.flow;
        scratch = k.shape.scratch;
        small = k.shape.small;
      };
      ends = record { from_in = k.ends.from_in; to_in = k.ends.to_in; apart = k.ends.apart };
      flow = record {
        low = λ a d. elim (cases_eq a arc) [
          | inl e ↦ subst (λ (x : ℕ). slice_index (slice_set c.lower arc most) x ≤ flow_of c x) (sym e)
              (omega (
                arith,
                get_or-set_same c.lower arc most 0 (omega (arith, b, k.shape.lower)),
                k.flow.low arc b,
                fits,
              ))
          | inr ne ↦ omega (arith, get_or-set_other c.lower arc a most 0 ne, k.flow.low a d)
        ];
        high = k.flow.high;
        balanced = k.flow.balanced;
      };
      rows = k.rows;
    }

-- the contents once an amount is held that is greater than what was held
pub held_is : {c : Contents} {rooms : List ℕ} (arc amount : ℕ) → AreRoomsOf c rooms → arc < arcs c →
    slice_index c.lower arc < amount → amount ≤ flow_of c arc →
    let lower = slice_set c.lower arc amount in
    let words = slice_set rooms (2 * arc + 1) (slice_index rooms (2 * arc + 1) - (amount - slice_index c.lower arc)) in
    (record c { lower = lower; upper = uppers_over lower words; flow = flows_over lower words }
    ≡ held_contents c arc amount) × (length words ≡ 2 * length lower)
held_is {c} {rooms} arc amount r b more fits =
    let most : max (slice_index c.lower arc) amount ≡ amount = omega (arith, more) in
    let held = rooms_held arc amount r.are (arc_inside arc r b) (omega (arith, more)) fits in
    (rw (uppers_are held, flows_are held, most) refl, held.size)

-- an upper bound that the flow keeps
pub bounded_kept : {c : Contents} (arc most : ℕ) → IsCirculation c → arc < arcs c → flow_of c arc ≤ most →
    most ≤ 10 ^ 15 → IsCirculation (bounded_contents c arc most)
bounded_kept {c} arc most k b fits limit =
    let here = get_or-set_same c.upper arc most 0 (omega (arith, b, k.shape.upper)) in
    record {
      shape = record {
        bounded_nodes = k.shape.bounded_nodes;
        bounded_arcs = k.shape.bounded_arcs;
        to = k.shape.to;
        supply = k.shape.supply;
        lower = k.shape.lower;
        upper = length-set c.upper arc most ∙ k.shape.upper;
        flow = k.shape.flow;
        scratch = k.shape.scratch;
        small = λ a d. elim (cases_eq a arc) [
          | inl e ↦ subst (λ (x : ℕ). slice_index (slice_set c.upper arc most) x ≤ 10 ^ 15) (sym e)
              (omega (arith, here, limit))
          | inr ne ↦ omega (arith, get_or-set_other c.upper arc a most 0 ne, k.shape.small a d)
        ];
      };
      ends = record { from_in = k.ends.from_in; to_in = k.ends.to_in; apart = k.ends.apart };
      flow = record {
        low = k.flow.low;
        high = λ a d. elim (cases_eq a arc) [
          | inl e ↦ subst (λ (x : ℕ). flow_of c x ≤ slice_index (slice_set c.upper arc most) x) (sym e)
              (omega (arith, here, fits))
          | inr ne ↦ omega (arith, get_or-set_other c.upper arc a most 0 ne, k.flow.high a d)
        ];
        balanced = k.flow.balanced;
      };
      rows = k.rows;
    }

-- the contents once an arc is bounded anew
pub bounded_is : {c : Contents} {rooms : List ℕ} (arc most : ℕ) → AreRoomsOf c rooms → arc < arcs c →
    flow_of c arc ≤ most →
    let words = slice_set rooms (2 * arc) (most - (slice_index c.lower arc + slice_index rooms (2 * arc + 1))) in
    (record c { upper = uppers_over c.lower words; flow = flows_over c.lower words } ≡ bounded_contents c arc most)
    × (length words ≡ 2 * length c.lower)
bounded_is {c} {rooms} arc most r b fits =
    let now = rooms_bounded arc most r.are (arc_inside arc r b) fits in
    (rw (uppers_are now, flows_are now) refl, now.size)
