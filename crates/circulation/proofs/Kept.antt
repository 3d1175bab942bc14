-- What changes a part of a circulation keeps the rest.
use Rattle.std.proofs.Common.{ℕ, ◌≡◌, ◌+◌, ◌*◌, List, length, slice_index, replicate, arith, ap, sym, subst, ◌∙◌}
use Rattle.std.proofs.lemmas.Grind.{common_steps}
use Rattle.circulation.specs.Network.{IsFlow}
use Rattle.circulation.specs.Rooms.{flows_over, uppers_over, AreRooms}
use Rattle.circulation.proofs.RoomLists.{flows_are, uppers_are}
use Rattle.circulation.specs.Contents.{Contents, network, IsCirculation, IsStart, month_contents}

-- another flow in place of the flow
pub flow-kept : {c : Contents} (flow : List ℕ) → IsCirculation c → length flow ≡ length c.from →
    IsFlow (network c) (λ a. slice_index flow a) → IsCirculation (record c { flow = flow })
flow-kept flow k same f =
    record { shape = assumption (same, k.shape); ends = k.ends; flow = f; rows = k.rows }

-- other scratch words in place of the scratch words
pub scratch-kept : {c : Contents} (scratch : List ℕ) → length scratch ≡ 4 * c.nodes + 8 → IsCirculation c →
    IsCirculation (record c { scratch = scratch })
scratch-kept scratch long k =
    record { shape = assumption (long, k.shape); ends = k.ends; flow = k.flow; rows = k.rows }

-- a month starts with the flow that was given
pub month-kept : {c : Contents} {supply upper start : List ℕ} → IsCirculation c → IsStart c supply upper start →
    IsCirculation (month_contents c supply upper start)
month-kept {supply} {upper} k s = record {
  shape = record {
    bounded_nodes = k.shape.bounded_nodes;
    bounded_arcs = k.shape.bounded_arcs;
    to = k.shape.to;
    supply = s.supplies;
    lower = grind (arith, common_steps);
    upper = s.uppers;
    flow = s.amounts;
    scratch = k.shape.scratch;
    small = s.small;
  };
  ends = record { from_in = k.ends.from_in; to_in = k.ends.to_in; apart = k.ends.apart };
  flow = s.flow;
  rows = k.rows;
}

-- the words as they were written one by one
pub month-written : {c x : Contents} {n : ℕ} {supply lower rooms s u f : List ℕ} → c ≡ x → IsCirculation c →
    n ≡ length c.lower → lower ≡ replicate n 0 → supply ≡ s → AreRooms (replicate (length u) 0) u f rooms →
    IsStart x s u f →
    record c { supply = supply; lower = lower; upper = uppers_over lower rooms; flow = flows_over lower rooms }
    ≡ month_contents x s u f
month-written {c} {x} {n} {supply} {lower} {rooms} {s} {u} {f} is k size none es are start =
    let arcs = ap (λ (y : Contents). length y.from) is in
    let none_here : lower ≡ replicate (length x.from) 0 = none ∙ ap (λ (n : ℕ). replicate {A = ℕ} n 0)
    (size ∙ k.shape.lower ∙ arcs) in
    let here : AreRooms lower u f rooms = subst (λ (l : List ℕ). AreRooms l u f rooms)
    (ap (λ (n : ℕ). replicate {A = ℕ} n 0) start.uppers ∙ sym none_here) are in
    let upper = uppers_are here in
    let flow = flows_are here in
    cc
