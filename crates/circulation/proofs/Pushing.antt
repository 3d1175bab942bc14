-- A push along a closed walk keeps the flow: what holds when the steps before `at` are done.
use Rattle.std.proofs.Common.{ℕ, Bool, true, false, not, ◌==◌, ◌≡◌, ◌≢◌, ◌+◌, ◌-◌, ◌*◌, ◌^◌, ◌<◌, ◌≤◌, length}
use Rattle.std.proofs.Common.{List, slice_index, refl, arith, ap, sym, subst, inl, inr, ◌∙◌}
use Rattle.std.proofs.lemmas.Bool.{ne_eqb}
use Rattle.std.proofs.lemmas.Bool.Decides.{eqb_tells}
use Rattle.finite_sums.specs.Sums.{when}
use Rattle.circulation.specs.Contents.{Contents, network, flow_of, step_of, IsCirculation}
use Rattle.circulation.specs.Network.{Network, IsFlow, inflow, outflow}
use Rattle.circulation.specs.Residual.{arc_of, is_backward, by_direction, opposite, start_of, end_of, room_of}
use Rattle.circulation.specs.Residual.{IsClosedWalk, IsPushed}
use Rattle.circulation.specs.Rooms.{flows_over, uppers_over, AreRooms, IsRoomMoved}
use Rattle.finite_sums.proofs.Totals.{total_change}
use Rattle.circulation.proofs.Kept.{flow-kept}
use Rattle.circulation.proofs.RoomLists.{flow_moved, uppers_are, rooms_fit, rooms_inside, room_is}

-- the sums at a node, by the way of the step and whether its arc leaves or enters the node
step_sums : (back f t : Bool) (d x y o p i j : ℕ) → y + when back d ≡ x + when (not back) d →
    p + when f x ≡ o + when f y → j + when t x ≡ i + when t y →
    p + i + when (by_direction back t f) d ≡ o + j + when (by_direction back f t) d
step_sums true true true d x y o p i j a b c = omega arith
step_sums true true false d x y o p i j a b c = omega arith
step_sums true false true d x y o p i j a b c = omega arith
step_sums true false false d x y o p i j a b c = omega arith
step_sums false true true d x y o p i j a b c = omega arith
step_sums false true false d x y o p i j a b c = omega arith
step_sums false false true d x y o p i j a b c = omega arith
step_sums false false false d x y o p i j a b c = omega arith

-- a test of the one that is chosen
by_direction-test : (back : Bool) (x y v : ℕ) → (by_direction back x y == v) ≡ by_direction back (x == v) (y == v)
by_direction-test true x y v = refl
by_direction-test false x y v = refl

-- one step moves its amount from the node that it enters to the node that it leaves
pub moved_by_step : (w : Network) (g h : ℕ → ℕ) (s d : ℕ) → arc_of s < w.arcs →
    h (arc_of s) + when (is_backward s) d ≡ g (arc_of s) + when (not (is_backward s)) d →
    ((a : ℕ) → a < w.arcs → a ≢ arc_of s → h a ≡ g a) → (v : ℕ) →
    outflow w h v + inflow w g v + when (end_of w s == v) d ≡ outflow w g v + inflow w h v + when (start_of w s == v) d
moved_by_step w g h s d b change other v =
    let out = total_change w.arcs (arc_of s) (λ a. when (w.from a == v) (h a)) (λ a. when (w.from a == v) (g a)) b
    (λ a c ne. ap (when (w.from a == v)) (other a c ne)) in
    let into = total_change w.arcs (arc_of s) (λ a. when (w.to a == v) (h a)) (λ a. when (w.to a == v) (g a)) b
    (λ a c ne. ap (when (w.to a == v)) (other a c ne)) in
    let sums = step_sums (is_backward s) (w.from (arc_of s) == v) (w.to (arc_of s) == v) d (g (arc_of s)) (h (arc_of s))
    (outflow w g v) (outflow w h v) (inflow w g v) (inflow w h v) change out into in
    let enter = ap (λ (b : Bool). when b d) (by_direction-test (is_backward s) (w.to (arc_of s)) (w.from (arc_of s)) v)
    in
    let leave = ap (λ (b : Bool). when b d) (by_direction-test (is_backward s) (w.from (arc_of s)) (w.to (arc_of s)) v)
    in
    omega (arith, sums, enter, leave)

-- the steps from `first` to `at` are done
pub record IsPushing (w : Network) (old new step : ℕ → ℕ) (first last at amount : ℕ) : Type 0 where
  pub low : (a : ℕ) → a < w.arcs → w.lower a ≤ new a
  pub high : (a : ℕ) → a < w.arcs → new a ≤ w.upper a
  pub pushed : IsPushed old new step first at amount
  pub moved : (t : ℕ) → (at < last → t ≡ start_of w (step at)) → (at ≡ last → t ≡ start_of w (step first)) →
      (v : ℕ) → outflow w new v + inflow w old v + when (t == v) amount ≡ outflow w old v + inflow w new v + when
      (start_of w (step first) == v) amount

-- before the first step nothing changed
pub pushing_start : (w : Network) (old step : ℕ → ℕ) (first last amount : ℕ) → first < last → IsFlow w old →
    IsPushing w old old step first last first amount
pushing_start w old step first last amount some flow = record {
  low = flow.low;
  high = flow.high;
  pushed = record { on = λ i a b. absurd (omega arith); off = λ a h. refl };
  moved = λ t at_last _ v. subst (λ (x : ℕ). outflow w old v + inflow w old v + when
      (x == v) amount ≡ outflow w old v + inflow w old v + when (start_of w (step first) == v) amount)
      (sym (at_last some)) refl;
}

-- after the last step each node is in balance again
pub pushing_end : {w : Network} {old new step : ℕ → ℕ} {first last amount : ℕ} → IsFlow w old →
    IsPushing w old new step first last last amount → IsFlow w new
pushing_end {w} {step} {first} flow p = record {
  low = p.low;
  high = p.high;
  balanced = λ v b. omega (
    arith,
    flow.balanced v b,
    p.moved (start_of w (step first)) (λ c. absurd (omega arith)) (λ c. refl) v,
  );
}

-- the arc of the next step has still its old flow
pub untouched : {w : Network} {old new step : ℕ → ℕ} {first last at amount : ℕ} →
    IsClosedWalk w old step first last amount → IsPushing w old new step first last at amount → first ≤ at → at < last →
    new (arc_of (step at)) ≡ old (arc_of (step at))
untouched {step} {at} walk p a b =
    p.pushed.off (arc_of (step at)) (λ i c d. walk.once i at c d b)

-- an amount within the room keeps the bounds
within_room : (back : Bool) (d x y low high : ℕ) → 0 < d → low ≤ x → x ≤ high → d ≤ by_direction back (high - x)
    (x - low) → y + when back d ≡ x + when (not back) d → (low ≤ y) × (y ≤ high)
within_room true d x y low high p a b room change = (omega arith, omega arith)
within_room false d x y low high p a b room change = (omega arith, omega arith)

-- one more step is done
pub pushing_next : (w : Network) (old new next step : ℕ → ℕ) (first last at amount : ℕ) → IsFlow w old →
    IsClosedWalk w old step first last amount → IsPushing w old new step first last at amount → first ≤ at → at < last →
    next (arc_of (step at)) + when (is_backward (step at)) amount
    ≡ new (arc_of (step at)) + when (not (is_backward (step at))) amount →
    ((a : ℕ) → a ≢ arc_of (step at) → next a ≡ new a) → IsPushing w old next step first last (at + 1) amount
pushing_next w old new next step first last at amount flow walk p a b change other =
    let same : new (arc_of (step at)) ≡ old (arc_of (step at)) = untouched walk p a b in
    let inside : arc_of (step at) < w.arcs = walk.arc at a b in
    let bounds = within_room (is_backward (step at)) amount (old (arc_of (step at))) (next (arc_of (step at)))
    (w.lower (arc_of (step at))) (w.upper (arc_of (step at))) walk.positive (flow.low _ inside)
    (flow.high _ inside) (walk.room at a b) (omega (arith, same, change)) in
    record {
      low = λ x c. elim (eqb_tells x (arc_of (step at))) [
        | inl e ↦ subst (λ (y : ℕ). w.lower y ≤ next y) (sym e.1) bounds.0
        | inr e ↦ omega (arith, p.low x c, other x e.1)
      ];
      high = λ x c. elim (eqb_tells x (arc_of (step at))) [
        | inl e ↦ subst (λ (y : ℕ). next y ≤ w.upper y) (sym e.1) bounds.1
        | inr e ↦ omega (arith, p.high x c, other x e.1)
      ];
      pushed = record {
        on = λ i c d. elim (eqb_tells i at) [
          | inl e ↦ rw e.1 (omega (arith, same, change))
          | inr e ↦
              let before : i < at = omega arith in
              omega (arith, p.pushed.on i c before, other (arc_of (step i)) (walk.once i at c before b))
        ];
        off = λ x h. other x (λ e. h at a (omega arith) (sym e)) ∙ p.pushed.off x (λ i c d. h i c (omega arith));
      };
      moved = λ t in_transit at_end v.
          let before = p.moved (start_of w (step at)) (λ c. refl) (λ c. absurd (omega arith)) v in
          let now = moved_by_step w new next (step at) amount inside change (λ x c ne. other x ne) v in
          let joined : end_of w (step at) ≡ t = elim (eqb_tells (at + 1) last) [
            | inl e ↦ walk.closed at e.1 ∙ sym
                (at_end e.1)
            | inr e ↦ let c : at + 1 < last = omega arith in walk.joined at a c ∙ sym (in_transit c)
          ] in
          let there = ap (λ (x : ℕ). when (x == v) amount) joined in
          omega (arith, before, now, there);
    }

-- the amount can be taken or added at the next step
pub change_fits : (w : Network) (old new step : ℕ → ℕ) (first last at amount : ℕ) → IsFlow w old →
    IsClosedWalk w old step first last amount → IsPushing w old new step first last at amount → first ≤ at → at < last →
    (is_backward (step at) ≡ true → amount ≤ new (arc_of (step at))) ×
    (is_backward (step at) ≡ false → new (arc_of (step at)) + amount ≤ w.upper (arc_of (step at)))
change_fits w old new step first last at amount flow walk p a b =
    let same : new (arc_of (step at)) ≡ old (arc_of (step at)) = untouched walk p a b in
    let room = walk.room at a b in
    let low = flow.low _ (walk.arc at a b) in
    let positive : 0 < amount = walk.positive in (
      λ e. let r = subst (λ (t : Bool). amount ≤ by_direction t (w.upper (arc_of (step at)) - old (arc_of (step at)))
          (old (arc_of (step at)) - w.lower (arc_of (step at)))) e room in omega (arith, r, same),
      λ e. let r = subst (λ (t : Bool). amount ≤ by_direction t (w.upper (arc_of (step at)) - old (arc_of (step at)))
          (old (arc_of (step at)) - w.lower (arc_of (step at)))) e room in omega (arith, r, same),
    )

-- a circulation in which the steps before `at` are done
pub record IsPushState (x y : Contents) (first last at amount : ℕ) : Type 0 where
  pub rest : y ≡ record x { flow = y.flow }
  pub size : length y.flow ≡ length x.flow
  pub pushing : IsPushing (network x) (flow_of x) (flow_of y) (step_of x) first last at amount

pub push_start : {x y : Contents} (first last amount : ℕ) → y ≡ x → IsCirculation x → first < last →
    IsPushState x y first last first amount
push_start {x} first last amount is k some = rw is record {
  rest = refl;
  size = refl;
  pushing = pushing_start (network x) (flow_of x) (step_of x) first last amount some k.flow;
}

-- the step that is next is still the same
next_same : {x y : Contents} {first last at amount : ℕ} → IsPushState x y first last at amount →
    step_of x at ≡ step_of y at
next_same {at} p = ap (λ (z : Contents). step_of z at) (sym p.rest)

-- both rooms over the arc of the next step can change by the amount
pub record CanMove (rooms : List ℕ) (s amount : ℕ) : Type 0 where
  pub inside : s < length rooms
  pub other : opposite s < length rooms
  pub room : amount ≤ slice_index rooms s
  pub fits : slice_index rooms (opposite s) + amount < 2 ^ 64

-- its arc has a flow
push_inside : {x y : Contents} {first last at amount : ℕ} → IsCirculation x →
    IsClosedWalk (network x) (flow_of x) (step_of x) first last amount → IsPushState x y first last at amount →
    first ≤ at → at < last → arc_of (step_of y at) < length y.lower
push_inside {x} {y} {at} k walk p a b =
    subst (λ (s : ℕ). arc_of s < length y.lower) (next_same p)
    (omega (arith, walk.arc at a b, k.shape.lower, ap (λ (c : Contents). length c.lower) p.rest))

-- and the step has still its old room
push_room : {x y : Contents} {first last at amount : ℕ} →
    IsClosedWalk (network x) (flow_of x) (step_of x) first last amount → IsPushState x y first last at amount →
    first ≤ at → at < last → amount ≤ room_of (network y) (flow_of y) (step_of y at)
push_room {x} {y} {at = at} {amount = amount} walk p a b =
    let s = step_of x at in
    let room : amount ≤ by_direction (is_backward s) (slice_index x.upper (arc_of s) - flow_of y (arc_of s))
    (flow_of y (arc_of s) - slice_index x.lower (arc_of s)) = rw (untouched walk p.pushing a b) (walk.room at a b) in
    let here : amount ≤ room_of (network y) (flow_of y) s = subst (λ (c : Contents).
    amount ≤ room_of (network c) (flow_of y) s) (sym p.rest) room in
    subst (λ (s : ℕ). amount ≤ room_of (network y) (flow_of y) s) (next_same p) here

-- the next step can be done
pub push_fits : {x y : Contents} {rooms : List ℕ} {first last at amount : ℕ} → IsCirculation x →
    IsClosedWalk (network x) (flow_of x) (step_of x) first last amount → IsPushState x y first last at amount →
    AreRooms y.lower y.upper y.flow rooms → first ≤ at → at < last → CanMove rooms (step_of y at) amount
push_fits {x} {y} {rooms} {at = at} k walk p are a b =
    let s = step_of y at in
    let inside = push_inside k walk p a b in
    let words = rooms_inside s are inside in
    let room = push_room walk p a b in
    let is = room_is y s are inside in
    let small : slice_index x.upper (arc_of s) ≤ 10 ^ 15 = subst (λ (s : ℕ). slice_index x.upper (arc_of s) ≤ 10 ^ 15)
    (next_same p) (k.shape.small (arc_of (step_of x at)) (walk.arc at a b)) in
    let upper = ap (λ (c : Contents). slice_index c.upper (arc_of s)) p.rest in
    record {
      inside = words.0;
      other = words.1;
      room = omega (arith, room, is);
      fits = omega (arith, room, is, rooms_fit s are inside, small, upper);
    }

-- and that was done
pub push_next : {x y : Contents} {rooms new : List ℕ} {first last at amount : ℕ} → IsCirculation x →
    IsClosedWalk (network x) (flow_of x) (step_of x) first last amount → IsPushState x y first last at amount →
    AreRooms y.lower y.upper y.flow rooms → first ≤ at → at < last → IsRoomMoved rooms new (step_of y at) amount →
    IsPushState x (record y { upper = uppers_over y.lower new; flow = flows_over y.lower new }) first last (at + 1)
    amount × (length new ≡ 2 * length y.lower)
push_next {x} {y} {new = new} {first} {last} {at} {amount} k walk p are a b change =
    let moved = flow_moved (step_of y at) amount are (push_inside k walk p a b) change in
    let flow = flows_over y.lower new in
    let same = next_same p in (
      record {
        rest = ap (λ (u : List ℕ). record y { upper = u; flow = flow }) (uppers_are moved.kept)
            ∙ ap (λ (z : Contents). record z { flow = flow }) p.rest;
        size = moved.kept.flows ∙ sym are.flows ∙ p.size;
        pushing = pushing_next (network x) (flow_of x) (flow_of y) (slice_index flow) (step_of x) first last at amount
            k.flow walk p.pushing a b (rw same moved.on)
            (λ c ne. moved.off c (λ e. ne (e ∙ ap arc_of (sym same))));
      },
      moved.kept.size,
    )

-- when all steps are done it is a circulation again
pub push_kept : {x y : Contents} {first last at amount : ℕ} → IsCirculation x → IsPushState x y first last at amount →
    at ≡ last → IsCirculation y
push_kept {x} {y} {first} {last} {amount = amount} k p end =
    let done = subst (λ (n : ℕ). IsPushing (network x) (flow_of x) (flow_of y) (step_of x) first last n amount) end
    p.pushing in
    subst IsCirculation (sym p.rest) (flow-kept y.flow k (omega (arith, p.size, k.shape.flow))
    (pushing_end k.flow done))

pub push_done : {x y : Contents} {first last at amount : ℕ} → IsPushState x y first last at amount → at ≡ last →
    IsPushed (flow_of x) (flow_of y) (step_of x) first last amount
push_done {x} {y} {first} {amount} p end =
    subst (λ (n : ℕ). IsPushed (flow_of x) (flow_of y) (step_of x) first n amount) end p.pushing.pushed

-- the first step of the walk goes over the arc r forward
pub pushed_first : {old new step : ℕ → ℕ} {first last amount : ℕ} (r : ℕ) → IsPushed old new step first last amount →
    first < last → step first ≡ 2 * r → new r ≡ old r + amount
pushed_first {step = step} {first} r p b is =
    let arc : arc_of (step first) ≡ r = omega arith in
    let way : is_backward (step first) ≡ false = ne_eqb _ 1 (λ f. absurd (omega arith)) in
    let done = rw (arc, way) at (p.on first (omega arith) b) in
    omega (arith, done)
