-- The steps of a node's row, tried one after another.
use Rattle.std.proofs.Common.{ℕ, ◌≡◌, ◌+◌, ◌*◌, ◌<◌, ◌≤◌, length, slice_index, arith, ap, sym}
use Rattle.std.proofs.Common.{◌∙◌}
use Rattle.circulation.specs.Network.{Network}
use Rattle.circulation.specs.Residual.{arc_of, start_of, end_of}
use Rattle.circulation.specs.Contents.{Contents, network, flow_of, arcs, IsCirculation}
use Rattle.augment.specs.Search.{HasTree, IsTried, IsExpanded, IsVisitedBy}
use Rattle.augment.specs.Raised.{position_of}
use Rattle.circulation.proofs.Scans.{IsScan, scan_start, scan_at, scan_inside, scan_next, scan_end}
use Rattle.circulation.proofs.Overs.{over_forward, over_backward, end_within}
use Rattle.augment.proofs.Trees.{grows_more}
use Rattle.augment.proofs.Visits.{not_visited}

-- visits one after another
pub visited_more : {c d e : Contents} {r least size more most : ℕ} → IsVisitedBy c d r least size more →
    IsVisitedBy d e r least more most → IsVisitedBy c e r least size most
visited_more a b = record {
  rest = rw a.rest at b.rest;
  tree = b.tree;
  grows = grows_more a.grows (rw a.rest at b.grows);
}

-- a node whose steps were all tried is expanded
expanded_from : (w : Network) (g : ℕ → ℕ) (r least : ℕ) (position : ℕ → ℕ) (v : ℕ) →
    ((s : ℕ) → arc_of s < w.arcs → start_of w s ≡ v → IsTried w g r least position s) →
    IsExpanded w g r least position v
expanded_from w g r least position v tried = record {
  out = λ a b is ne room.
      let f = over_forward w g a in
      let s = tried (2 * a) (omega (arith, f.arc)) (f.starts ∙ is) (λ e. ne (sym f.arc ∙ e))
      (omega (arith, f.room, room)) in
      rw f.enters at s;
  into = λ a b is ne room.
      let f = over_backward w g a in
      let s = tried (2 * a + 1) (omega (arith, f.arc)) (f.starts ∙ is) (λ e. ne (sym f.arc ∙ e))
      (omega (arith, f.room, room)) in
      rw f.enters at s;
}

-- the step was tried, if it goes over an arc
abbrev IsDone : Contents → Contents → ℕ → ℕ → ℕ → Type 0
IsDone c d r least s = arc_of s < arcs c → IsTried (network c) (flow_of c) r least (position_of d) s

-- of the row of the node v, the steps before an index were tried
pub record IsTrying (c d : Contents) (r least size count v place : ℕ) : Type 0 where
  pub visited : IsVisitedBy c d r least size count
  pub scan : IsScan c v place (IsDone c d r least)

-- at the first index
pub trying_start : (c : Contents) (r least size v place : ℕ) → HasTree c r least size →
    place ≡ slice_index c.rows.first v → IsTrying c c r least size size v place
trying_start c r least size v place t is =
    record { visited = not_visited t; scan = scan_start c v place (IsDone c c r least) is }

-- what is known of the step at an index
pub record IsStep (d : Contents) (s u : ℕ) : Type 0 where
  pub arc : arc_of s < arcs d
  pub end : end_of (network d) s ≡ u
  pub marked : 0 < position_of d (start_of (network d) s)

pub trying_at : {c d : Contents} {r least size count v place : ℕ} (s u : ℕ) → IsCirculation c → v ≤ c.nodes →
    0 < position_of c v → IsTrying c d r least size count v place → slice_index c.rows.first v ≤ place →
    place < slice_index c.rows.first (v + 1) → s ≡ slice_index d.rows.step place → u ≡ slice_index d.rows.end place →
    IsStep d s u
trying_at {c = c} {d = d} {v = v} {place = place} s u k within m t from below is end =
    let rest = t.visited.rest in
    let at = scan_at c v place s u k within from below (rw rest at is) (rw rest at end) in
    let marked : 0 < position_of d v = omega (arith, t.visited.grows.same v within m, m) in
    rw rest record { arc = at.arc; end = at.end; marked = rw at.start marked }

-- there are steps at the indices of a row
pub trying_inside : {c d : Contents} {r least size count v place : ℕ} → IsCirculation c → v ≤ c.nodes →
    IsTrying c d r least size count v place → place < slice_index c.rows.first (v + 1) → place < length d.rows.step
trying_inside {c = c} {v = v} {place = place} k within t below =
    rw t.visited.rest (scan_inside c v place k within below)

-- on to the next index
pub trying_next : {c d e : Contents} {r least size count most v place : ℕ} (s : ℕ) → IsCirculation c →
    IsTrying c d r least size count v place → s ≡ slice_index d.rows.step place → IsVisitedBy d e r least count most →
    IsTried (network d) (flow_of d) r least (position_of e) s → IsTrying c e r least size most v (place + 1)
trying_next {c = c} {d = d} {e = e} {r = r} {least = least} {v = v} {place = place} s k t is step tried =
    let rest = t.visited.rest in
    let nodes = ap (λ (x : Contents). x.nodes) rest in
    record {
      visited = visited_more t.visited step;
      scan = scan_next c v place s (IsDone c d r least) (IsDone c e r least) t.scan (rw rest at is)
          (λ x done b ne room.
          let was = done b ne room in
          omega (arith, step.grows.same (end_of (network c) x) (omega (arith, end_within c x k b, nodes)) was, was))
          (λ b. rw rest at tried);
    }

-- at the end of the row the node is expanded
pub trying_end : {c d : Contents} {r least size count v place : ℕ} → IsCirculation c → v ≤ c.nodes →
    IsTrying c d r least size count v place → slice_index c.rows.first (v + 1) ≤ place →
    IsExpanded (network c) (flow_of c) r least (position_of d) v
trying_end {c = c} {d = d} {r = r} {least = least} {v = v} {place = place} k within t past =
    expanded_from (network c) (flow_of c) r least (position_of d) v
    (λ s b is. scan_end c v place (IsDone c d r least) k within t.scan past s b is b)
