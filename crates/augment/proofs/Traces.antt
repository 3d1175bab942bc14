-- The walk is written down from its end, along the steps by which the nodes were reached.
use Rattle.std.proofs.Common.{ℕ, min, ◌≡◌, ◌≢◌, ◌+◌, ◌-◌, ◌*◌, ◌<◌, ◌≤◌, List, length, slice_index, slice_set, refl}
use Rattle.std.proofs.Common.{arith, sym, ◌∙◌}
use Rattle.std.proofs.lemmas.List.{get_or-set_other, length-set}
use Rattle.circulation.specs.Network.{Network}
use Rattle.circulation.specs.Contents.{Contents, network, flow_of, arcs, step_of, IsCirculation, SameButScratch}
use Rattle.circulation.specs.Residual.{start_of, room_of, IsClosedWalk}
use Rattle.circulation.proofs.Trails.{wrote, IsTrail, IsWayBack, trail_start, trail_next, trail_closed}
use Rattle.augment.specs.Search.{IsTree, HasTree}
use Rattle.augment.specs.Raised.{position_of}
use Rattle.augment.proofs.Trees.{tree_size, way_back}

-- the walk is written from the end of the scratch words, and no word of the tree
pub record IsTracing (c d : Contents) (r most first node amount : ℕ) : Type 0 where
  pub rest : SameButScratch c d
  pub long : length d.scratch ≡ 4 * c.nodes + 8
  pub below : (j : ℕ) → j < 3 * c.nodes + 3 → slice_index d.scratch j ≡ slice_index c.scratch j
  pub wide : (least size : ℕ) → HasTree c r least size → min least most ≤ amount
  pub trail : IsTrail (network c) (flow_of c) r most (position_of c) (step_of d) first (4 * c.nodes + 8) node amount

-- no step, at the tail
pub tracing_start : (c : Contents) {r most size first node : ℕ} → IsCirculation c → r < arcs c → 0 < most →
    HasTree c r 1 size → 0 < position_of c (slice_index c.from r) → first ≡ 4 * c.nodes + 8 →
    node ≡ slice_index c.from r → IsTracing c c r most first node most
tracing_start c {r = r} {most = most} k b positive t marked at_first at_node =
    let inside = k.ends.from_in r b in
    let place = (t.marked (slice_index c.from r) inside marked).0 in
    rw (at_first, at_node) record {
      rest = refl;
      long = k.shape.scratch;
      below = λ j b. refl;
      wide = λ least size tree. omega arith;
      trail = trail_start (network c) (flow_of c) r most (position_of c) (step_of c) (4 * c.nodes + 8) inside marked
          (omega (arith, tree_size t, place)) positive;
    }

-- the word at the position of the node is the step by which it was reached
pub tracing_back : (c d : Contents) {r most least size first node to nodes place amount s : ℕ} → IsCirculation c →
    IsTracing c d r most first node amount → node ≢ to → to ≡ slice_index c.to r → nodes ≡ c.nodes →
    place ≡ position_of d node → s ≡ step_of d (2 * nodes + 1 + place) → HasTree c r least size →
    IsWayBack (network c) (flow_of c) r least (position_of c) node s
tracing_back c d {node = node} {nodes = nodes} {place = place} k x ne to_is is at word t =
    let there : place ≡ position_of c node = at ∙ x.below node (omega (arith, x.trail.inside)) in
    let marked = x.trail.marked in
    let index : 2 * nodes + 1 + place ≡ 2 * c.nodes + 2 + (position_of c node - 1) = omega arith in
    let short = (t.marked node x.trail.inside marked).0 in
    rw (word, index, x.below (2 * c.nodes + 2 + (position_of c node - 1)) (omega (arith, tree_size t)))
    (way_back k.ends t x.trail.inside marked (λ e. ne (e ∙ sym to_is)))

-- one more step back, as it was written
pub tracing_next : (c d e : Contents) {r most size first node amount s next room more : ℕ} →
    IsTracing c d r most first node amount → HasTree c r 1 size →
    ((least size : ℕ) → HasTree c r least size → IsWayBack (network c) (flow_of c) r least (position_of c) node s) →
    e ≡ record d { scratch = slice_set d.scratch (first - 1) s } → room ≡ room_of (network e) (flow_of e) s →
    more ≡ min amount room → next ≡ start_of (network e) s → IsTracing c e r most (first - 1) next more
tracing_next c d e {first = first} {s = s} x t back made room_is more_is next_is =
    let trail = x.trail in
    let b = wrote d.scratch first (first - 1) s (omega (arith, trail.space))
    (omega (arith, trail.way.within, x.long)) in
    let same = rw x.rest at made in
    rw (more_is, rw same at room_is, rw same at next_is, made) record {
      rest = sym made ∙ same;
      long = length-set d.scratch (first - 1) s ∙ x.long;
      below = λ j l. get_or-set_other d.scratch (first - 1) j s 0 (omega (arith, trail.space, trail.marked))
          ∙ x.below j l;
      wide = λ least size tree. omega (arith, x.wide least size tree, (back least size tree).room);
      trail = trail_next b trail (back 1 _ t);
    }

-- the walk is closed by the arc itself, as it was written
pub tracing_end : (c d : Contents) {r most first node to amount s : ℕ} {scratch : List ℕ} → IsCirculation c →
    r < arcs c → IsTracing c d r most first node amount → node ≡ to → to ≡ slice_index c.to r →
    flow_of c r + most ≤ slice_index c.upper r → s ≡ 2 * r → scratch ≡ slice_set d.scratch (first - 1) s →
    IsClosedWalk (network c) (flow_of c) (slice_index scratch) (first - 1) (4 * c.nodes + 8) amount
tracing_end c d {r = r} {first = first} k b x home to_is room step_is made =
    let trail = x.trail in
    let before = wrote d.scratch first (first - 1) (2 * r) (omega (arith, trail.space))
    (omega (arith, trail.way.within, x.long)) in
    rw (made, step_is) (trail_closed k.ends b before (rw (home, to_is) at trail.way) (omega arith))

-- a tree over greater rooms is one over rooms of 1
pub tree_weak : {w : Network} {g : ℕ → ℕ} {r least : ℕ} {position node step : ℕ → ℕ} {size : ℕ} → 0 < least →
    IsTree w g r least position node step size → IsTree w g r 1 position node step size
tree_weak some t = record {
  some = t.some;
  root = t.root;
  counted = t.counted;
  placed = t.placed;
  marked = t.marked;
  grown = λ k a b. let g' = t.grown k a b in record {
    arc = g'.arc;
    other = g'.other;
    enters = g'.enters;
    marked = g'.marked;
    before = g'.before;
    room = omega
        (arith, g'.room);
  };
}
