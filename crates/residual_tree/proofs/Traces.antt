-- The walk is written down from its end.
use Rattle.std.proofs.Common.{ℕ, min, ◌≡◌, ◌≢◌, ◌+◌, ◌-◌, ◌*◌, ◌%◌, ◌^◌, ◌<◌, ◌≤◌, List, length, slice_index, refl}
use Rattle.std.proofs.Common.{arith, ap, sym, ◌∙◌}
use Rattle.circulation.specs.Contents.{Contents, network, flow_of, arcs, step_of, IsCirculation, SameButScratch}
use Rattle.circulation.specs.Residual.{arc_of, start_of, end_of, room_of}
use Rattle.circulation.proofs.Overs.{over_forward}
use Rattle.circulation.proofs.Trails.{IsBefore, each_from, IsTrail, IsWayBack, trail_start, trail_next, trail_closed}
use Rattle.residual_tree.specs.Tree.{label_of, predecessor_of, IsLabeled}
use Rattle.residual_tree.specs.Raised.{IsExit, IsTaken, IsGathered, IsTraced}
use Rattle.residual_tree.specs.Repair.{HasSomeArtificial}
use Rattle.residual_tree.proofs.Grows.{artificial_closed, artificial_marked}
use Rattle.residual_tree.proofs.Gathers.{gathered_start}
use Rattle.residual_tree.proofs.Ranks.{place_of, place_positive, place_most}
use Rattle.residual_tree.proofs.Walks.{way_back, trail_exit}

-- a step of the trail ends at a basin node that is labeled, and not at the head of the arc r
pub record IsPassed (c : Contents) (labels : List ℕ) (r s : ℕ) : Type 0 where
  pub labeled : IsLabeled labels (end_of (network c) s)
  pub head : end_of (network c) s ≢ slice_index c.to r
  pub basin : end_of (network c) s ≢ c.nodes

-- the trail from the node to the tail of the arc r stands in the scratch words from `first` on
pub record IsTracing (c d : Contents) (labels : List ℕ) (r most first node amount full : ℕ) : Type 0 where
  pub rest : SameButScratch c d
  pub kept : IsCirculation d
  pub labeled : IsLabeled labels node
  pub trail : (t : HasSomeArtificial c labels r) → IsTrail (network c) (flow_of c) r most (place_of c.nodes t.tree.rank)
      (step_of d) first (4 * c.nodes + 8) node amount
  pub space : (t : HasSomeArtificial c labels r) → 3 * c.nodes + 7 + place_of c.nodes t.tree.rank node ≤ first
  pub passed : (i : ℕ) → first ≤ i → i < 4 * c.nodes + 8 → IsPassed c labels r (step_of d i)
  pub gathered : IsGathered d first full amount

-- at the tail
pub tracing_start : {c : Contents} (labels : List ℕ) (r most : ℕ) → IsCirculation c → r < arcs c → 0 < most →
    IsLabeled labels (slice_index c.from r) →
    IsTracing c c labels r most (4 * c.nodes + 8) (slice_index c.from r) most 0
tracing_start {c} labels r most k b positive m =
    let inside = k.ends.from_in r b in
    record {
      rest = refl;
      kept = k;
      labeled = m;
      trail = λ t. trail_start (network c) (flow_of c) r most (place_of c.nodes t.tree.rank) (step_of c)
          (4 * c.nodes + 8) inside (place_positive c.nodes t.tree.rank (slice_index c.from r))
          (omega (arith, place_most c.nodes t.tree.rank (slice_index c.from r) inside)) positive;
      space = λ t. omega (arith, place_most c.nodes t.tree.rank (slice_index c.from r) inside);
      passed = λ i h j. absurd (omega arith);
      gathered = gathered_start c most;
    }

-- a step that was taken stands before the others
before_others : {c d : Contents} {first first' s : ℕ} → IsTaken c d first first' s →
    IsBefore (step_of c) (step_of d) first first' s
before_others taken = record { index = taken.before; at = taken.at; others = taken.others }

-- only the scratch words were written
pub rest_more : (c d : Contents) {e : Contents} (scratch : List ℕ) → SameButScratch c d →
    e ≡ record d { scratch = scratch } → SameButScratch c e
rest_more c d scratch rest is = rw (is, rest) refl

-- the step by which the node is labeled
pub tracing_back : {c d : Contents} {labels : List ℕ} {r most first node amount full s : ℕ} → IsCirculation c →
    IsTracing c d labels r most first node amount full → (t : HasSomeArtificial c labels r) →
    flow_of c r ≡ slice_index c.lower r → node ≢ slice_index c.to r → node ≢ c.nodes → s ≡ label_of labels node - 1 →
    IsWayBack (network c) (flow_of c) r 1 (place_of c.nodes t.tree.rank) node s
tracing_back {node} k p t held ne basin is =
    let inside = (p.trail t).inside in
    way_back node k t (omega (arith, held)) (omega (arith, inside, basin)) p.labeled ne is

-- one more step back
pub tracing_next : {c d e : Contents} {labels : List ℕ} {r most first first' node next amount more full full' s : ℕ} →
    IsCirculation c → IsTracing c d labels r most first node amount full → (t : HasSomeArtificial c labels r) →
    flow_of c r ≡ slice_index c.lower r → node ≢ slice_index c.to r → node ≢ c.nodes → s ≡ label_of labels node - 1 →
    next ≡ start_of (network e) s → more ≡ min amount (room_of (network d) (flow_of d) s) →
    IsTaken d e first first' s → IsCirculation e → IsGathered e first' full' more →
    IsTracing c e labels r most first' next more full'
tracing_next {c} {d} {e} {labels} {r} {node = node} {amount = amount} {s = s} k p t held ne basin is is_next is_more
    taken kept gathered =
    let back = tracing_back k p t held ne basin is in
    let wr = before_others taken in
    let rest = rest_more c d e.scratch p.rest taken.rest in
    let start = is_next ∙ ap (λ (x : Contents). start_of (network x) s) rest in
    let room = is_more ∙ ap (λ (x : Contents). min amount (room_of (network x) (flow_of x) s)) p.rest in
    let inside = (p.trail t).inside in
    record {
      rest = rest;
      kept = kept;
      labeled = rw (start, is) (artificial_marked node t.tree (omega (arith, inside, basin)) p.labeled);
      trail = λ t'. rw (start, room) (trail_next wr (p.trail t') (tracing_back k p t' held ne basin is));
      space = λ t'.
          let back' = tracing_back k p t' held ne basin is in
          rw start (omega (arith, p.space t', back'.before, taken.before));
      passed = each_from (IsPassed c labels r) wr record {
        labeled = rw back.enters p.labeled;
        head = λ g. ne (sym back.enters ∙ g);
        basin = λ g. basin (sym back.enters ∙ g);
      } p.passed;
      gathered = gathered;
    }

-- the node has a word
pub tracing_inside : {c d : Contents} {labels : List ℕ} {r most first node amount full : ℕ} →
    IsTracing c d labels r most first node amount full → HasSomeArtificial c labels r → node ≢ c.nodes →
    node < length labels
tracing_inside p t basin =
    let inside = (p.trail t).inside in
    omega (arith, t.tree.words, inside, basin)

-- the word has the node that its step leaves
pub tracing_word : {c d e : Contents} {labels : List ℕ} {r most first first' node amount full s : ℕ} →
    IsTracing c d labels r most first node amount full → HasSomeArtificial c labels r → node ≢ c.nodes →
    s ≡ label_of labels node - 1 → IsTaken d e first first' s →
    (arc_of s < arcs e) × (predecessor_of labels node ≡ start_of (network e) s % 2 ^ 30)
tracing_word {c} {d} {e} {labels} {node = node} {s = s} p t basin is taken =
    let inside = (p.trail t).inside in
    let inner : node < c.nodes = omega (arith, inside, basin) in
    let branch = t.tree.branch node inner p.labeled in
    let rest = rest_more c d e.scratch p.rest taken.rest in (
      omega (arith, branch.arc, is, ap (λ (x : Contents). length x.from) rest),
      branch.predecessor ∙ ap (λ (n : ℕ). start_of (network c) n % 2 ^ 30) (sym is)
          ∙ ap (λ (x : Contents). start_of (network x) s % 2 ^ 30) (sym rest),
    )

-- the head of an arc with room is labeled where its tail is
pub head_labeled : {c : Contents} {labels : List ℕ} {r : ℕ} (most : ℕ) → HasSomeArtificial c labels r → r < arcs c →
    0 < most → flow_of c r + most ≤ slice_index c.upper r → IsLabeled labels (slice_index c.from r) →
    IsLabeled labels (slice_index c.to r)
head_labeled {c} {r = r} most t b positive room m =
    let o = over_forward (network c) (flow_of c) r in
    let step = rw (o.way, o.arc) at (artificial_closed (2 * r) t.tree) in
    step b (omega (arith, positive, room)) m

-- the room of a step forward over an arc
pub room_same : (c : Contents) {d : Contents} (a : ℕ) {s : ℕ} → SameButScratch c d → s ≡ 2 * a →
    room_of (network d) (flow_of d) s ≡ slice_index c.upper a - flow_of c a
room_same c a rest is = rw (rest, is) (over_forward (network c) (flow_of c) a).room

-- the tree leads to the tail through the head of the arc
pub tracing_head : {c d e : Contents} {labels : List ℕ} {r most first first' node amount more full full' s : ℕ} →
    IsCirculation c → r < arcs c → IsTracing c d labels r most first node amount full →
    HasSomeArtificial c labels r → flow_of c r + most ≤ slice_index c.upper r → node ≡ slice_index c.to r →
    s ≡ 2 * r → more ≡ min amount (room_of (network d) (flow_of d) s) → IsTaken d e first first' s →
    IsGathered e first' full' more → IsTraced c e labels r most first' more full'
tracing_head {c} {d} {e} {labels} {r} {amount = amount} {more} k b p t room is step is_more taken gathered =
    let trail = p.trail t in
    let wr = rw step at (before_others taken) in
    let same : more ≡ amount = omega (arith, is_more, room_same c r p.rest step, trail.way.limit, room) in
    record {
      rest = rest_more c d e.scratch p.rest taken.rest;
      some = omega (arith, taken.before, trail.way.within);
      prefix = omega (arith, taken.before, trail.space);
      walk = λ positive. rw same (trail_closed k.ends b wr (rw is at trail.way) (omega (arith, room)));
      limit = rw same trail.way.limit;
      forward = wr.at;
      ends = each_from (λ x. IsLabeled labels (end_of (network c) x)) wr
          (rw ((over_forward (network c) (flow_of c) r).enters, ← is) p.labeled) (λ i h j. (p.passed i h j).labeled);
      gathered = gathered;
    }

-- the tree came from the outside, and the walk goes out by the exit
pub tracing_exit : {c d d' e : Contents} {labels : List ℕ} {r : ℕ} (x : ℕ) {most first first' first'' node amount more
    more' full full'' s s' : ℕ} →
    IsCirculation c → r < arcs c → 0 < most → IsTracing c d labels r most first node amount full →
    HasSomeArtificial c labels r →
    flow_of c r + most ≤ slice_index c.upper r → IsLabeled labels (slice_index c.from r) → IsExit c r x →
    node ≢ slice_index c.to r → node ≡ c.nodes → s ≡ 2 * x → s' ≡ 2 * r →
    more ≡ min amount (room_of (network d) (flow_of d) s) → IsTaken d d' first first' s →
    more' ≡ min more (room_of (network d') (flow_of d') s') → IsTaken d' e first' first'' s' →
    IsGathered e first'' full'' more' → IsTraced c e labels r most first'' more' full''
tracing_exit {c} {d} {d'} {e} {labels} {r} x {most} {more = more} {more'} k b some p t room m exit ne is step_x step_r
    is_more taken is_more' taken' gathered =
    let trail = p.trail t in
    let apart : slice_index c.to r ≢ c.nodes = λ f. ne (is ∙ sym f) in
    let ex = exit apart in
    let head = head_labeled most t b some room m in
    let rest' = rest_more c d d'.scratch p.rest taken.rest in
    let wr = rw step_x at (before_others taken) in
    let wr' = rw step_r at (before_others taken') in
    let same : more' ≡ more = omega (arith, is_more', is_more, room_same c r rest' step_r, trail.way.limit, room) in
    let least = same ∙ (rw (p.rest, step_x) at is_more) in
    record {
      rest = rest_more c d' e.scratch rest' taken'.rest;
      some = omega (arith, taken.before, taken'.before, trail.way.within);
      prefix = omega (arith, taken.before, taken'.before, trail.space);
      walk = λ positive. rw least (trail_exit k.ends b ex.0 wr wr' (rw is at trail.way) (omega (arith, room)) ex.1 ex.2
          apart (λ i h j. ((p.passed i h j).head, (p.passed i h j).basin)) (rw least at positive));
      limit = omega (arith, same, is_more, trail.way.limit);
      forward = wr'.at;
      ends = each_from (λ y. IsLabeled labels (end_of (network c) y)) wr'
          (rw (over_forward (network c) (flow_of c) r).enters head)
          (each_from (λ y. IsLabeled labels (end_of (network c) y)) wr
          (rw ((over_forward (network c) (flow_of c) x).enters, ex.2, ← is) p.labeled)
          (λ i h j. (p.passed i h j).labeled));
      gathered = gathered;
    }

-- there is room for one more step before them, also in the list
pub tracing_space : {c d : Contents} {labels : List ℕ} {r most first node amount full : ℕ} →
    IsTracing c d labels r most first node amount full → HasSomeArtificial c labels r → full + 1 < first
tracing_space p t =
    omega (arith, p.space t, p.gathered.fits, ap (λ (x : Contents). 4 * x.nodes + 8) p.rest)

-- and for another
pub taken_space : {c d e : Contents} {labels : List ℕ} {r most first first' node amount more full full' s : ℕ} →
    IsTracing c d labels r most first node amount full → HasSomeArtificial c labels r → IsTaken d e first first' s →
    IsGathered e first' full' more → full' + 1 < first'
taken_space p t taken gathered =
    omega (
      arith,
      p.space t,
      taken.before,
      gathered.fits,
      ap (λ (x : Contents). 4 * x.nodes + 8) p.rest,
      ap (λ (x : Contents). 4 * x.nodes + 8) taken.rest,
    )
