-- The search as a whole.
use Rattle.std.proofs.Common.{ℕ, ◌≡◌, ◌+◌, ◌-◌, ◌<◌, ◌≤◌, slice_index, arith, ap, inl, inr}
use Rattle.std.proofs.lemmas.Bool.{cases_eq, cases_lt}
use Rattle.circulation.specs.Network.{Network, HasEnds}
use Rattle.circulation.specs.Contents.{Contents, network, flow_of, arcs, IsCirculation, SameButScratch}
use Rattle.augment.specs.Search.{node_at, with_node, IsExpanded, HasTree, IsVisitedBy}
use Rattle.augment.specs.Raised.{position_of}
use Rattle.augment.proofs.Trees.{tree_start}
use Rattle.augment.proofs.Visits.{node_added}

-- the tree of the head alone, as it was written
pub planted : {c d : Contents} {r least head : ℕ} → IsCirculation c → r < arcs c →
    ((v : ℕ) → v ≤ c.nodes → position_of c v ≡ 0) → head ≡ slice_index c.to r → d ≡ with_node c 0 head 0 →
    HasTree d r least 1
planted {c = c} {r = r} {head = head} k b none is made =
    let inside : head ≤ c.nodes = omega (arith, k.ends.to_in r b) in
    rw made (tree_start (node_added c 0 head 0 k inside (omega arith) (none head inside)) none is)

-- a node that is done stays done when more are reached
expanded-grows : {w : Network} {g : ℕ → ℕ} {r least : ℕ} {old new : ℕ → ℕ} {v : ℕ} → HasEnds w →
    ((u : ℕ) → u ≤ w.nodes → 0 < old u → new u ≡ old u) → IsExpanded w g r least old v → IsExpanded w g r least new v
expanded-grows {w = w} ends same e = record {
  out = λ a b is ne room. let was = e.out a b is ne room in omega (arith, same (w.to a) (ends.to_in a b) was, was);
  into = λ a b is ne room. let was = e.into a b is ne room in omega
      (arith, same (w.from a) (ends.from_in a b) was, was);
}

-- the nodes that were reached first are done
abbrev pub AreDone : Contents → Contents → ℕ → ℕ → ℕ → Type 0
AreDone c d r least done = (v : ℕ) → v ≤ c.nodes → 0 < position_of d v → position_of d v ≤ done → IsExpanded
    (network c) (flow_of c) r least (position_of d) v

-- one more node is done after its scan
pub done_next : (c : Contents) {d e : Contents} {r least size more done : ℕ} → HasEnds (network c) →
    SameButScratch c d → HasTree d r least size → done < size → AreDone c d r least done →
    IsVisitedBy d e r least size more →
    IsExpanded (network d) (flow_of d) r least (position_of e) (node_at d done) → AreDone c e r least (done + 1)
done_next c {d = d} {e = e} {done = done} k rest t b before all scanned v within marked upto =
    let nodes : d.nodes ≡ c.nodes = ap (λ (x : Contents). x.nodes) rest in
    let same = λ (u : ℕ) (x : u ≤ c.nodes) (m : 0 < position_of d u). all.grows.same u (omega arith) m in
    elim (cases_eq (position_of d v) 0) [
      | inl none ↦ absurd (omega (arith, all.grows.fresh v (omega arith) none marked))
      | inr ne ↦
          let place : position_of e v ≡ position_of d v = same v within (omega arith) in
          elim (cases_lt (position_of d v) (done + 1)) [
            | inl earlier ↦ expanded-grows k same (before v within (omega arith) (omega arith))
            | inr now ↦
                let index : position_of d v - 1 ≡ done = omega arith in
                let is : node_at d done ≡ v = rw index at (t.marked v (omega arith) (omega arith)).1 in
                let here = rw is at scanned in
                rw rest at here
          ]
    ]
