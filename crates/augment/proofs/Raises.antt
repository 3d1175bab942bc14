-- What a round and a raise leave.
use Rattle.std.proofs.Common.{◌≤◌, ◌-◌, ℕ, Bool, ◌≡◌, ◌+◌, ◌*◌, ◌<◌, slice_index, arith}
use Rattle.std.proofs.Common.{inl, inr, IsTrue, ◌↔◌, false}
use Rattle.std.proofs.lemmas.Bool.{cases_eq, both_ways}
use Rattle.circulation.specs.Network.{IsFlow, IsGreatestCut}
use Rattle.circulation.specs.Contents.{Contents, network, flow_of, arcs, IsCirculation, SameButScratch, SameButFlow}
use Rattle.augment.specs.Search.{IsClosed, HasTree}
use Rattle.augment.specs.Raised.{IsReached, open_arcs, HasPathOut, position_of, not_reached}
use Rattle.augment.proofs.Trees.{greatest_cut}
use Rattle.augment.proofs.Rises.{remaining_rise}

-- the answer that the tail was not reached
pub missed : (c : Contents) {d : Contents} (r : ℕ) {tail : ℕ} {answer : Bool} → SameButScratch c d →
    tail ≡ slice_index d.from r → IsTrue answer ↔ IsReached d tail → answer ≡ false →
    position_of d (slice_index c.from r) ≡ 0
missed c {d = d} r {tail = tail} {answer = answer} rest is reached fails = elim (cases_eq (position_of d tail) 0) [
  | inl e ↦ let here = rw rest at is in rw here at e
  | inr ne ↦ absurd (both_ways answer fails (reached.1 (omega arith)))
]

-- a search over rooms of 1 that misses the tail leaves the greatest tight cut
pub stopped_cut : (c : Contents) {d : Contents} {r size : ℕ} → r < arcs c → SameButScratch c d →
    HasPathOut (network c) r → IsCirculation d → HasTree d r 1 size → position_of d (slice_index c.from r) ≡ 0 →
    IsClosed (network c) (flow_of c) r 1 (position_of d) → IsGreatestCut (network c) (flow_of c) r (not_reached d)
stopped_cut c b rest way kept t none closed =
    rw rest (greatest_cut b (rw rest at kept.ends) (rw rest at kept.flow) way (rw rest at t) closed none)

-- a flow within the bounds of before
pub flow_over : (c : Contents) {d : Contents} → SameButFlow c d → IsCirculation d → IsFlow (network c) (flow_of d)
flow_over c rest kept = rw rest at kept.flow

-- a search that misses the tail bounds how much the flow can still rise
pub stopped_rise : (c : Contents) {d : Contents} {r least size : ℕ} → r < arcs c → SameButScratch c d →
    IsCirculation d → HasTree d r least size → position_of d (slice_index c.from r) ≡ 0 →
    IsClosed (network c) (flow_of c) r least (position_of d) → (h : ℕ → ℕ) → IsFlow (network c) h →
    h r ≤ flow_of c r + open_arcs (network c) * (least - 1)
stopped_rise c b rest kept t none closed h fh =
    remaining_rise b (rw rest at kept.ends) (rw rest at kept.flow) fh (rw rest at t) closed none
