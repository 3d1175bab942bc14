-- The closed walk along an arc, an exit and the tree.
use Rattle.std.proofs.Common.{ℕ, min, ◌≡◌, ◌≢◌, ◌-◌, ◌*◌, ◌<◌, ◌≤◌, ◌⊎◌, List, slice_index, arith, ap, sym, inl}
use Rattle.std.proofs.Common.{inr, ◌∙◌}
use Rattle.circulation.specs.Network.{Network, HasEnds}
use Rattle.circulation.specs.Contents.{Contents, network, flow_of, IsCirculation}
use Rattle.circulation.specs.Residual.{arc_of, start_of, end_of, room_of, IsClosedWalk}
use Rattle.circulation.proofs.Trails.{IsBefore, IsWay, IsWayBack, way_next, trail_closed}
use Rattle.residual_tree.specs.Tree.{label_of, IsLabeled}
use Rattle.residual_tree.specs.Repair.{HasSomeArtificial}
use Rattle.circulation.proofs.Overs.{over_forward, over_either, start_within}
use Rattle.residual_tree.proofs.Ranks.{place_of, place_positive, place_falls}
use Rattle.residual_tree.proofs.UnlabeledCut.{led_to}

-- the step by which a basin node other than the head of the arc r is labeled, where no flow can be taken back from r
pub way_back : {c : Contents} {labels : List ℕ} {r : ℕ} (node : ℕ) {s : ℕ} → IsCirculation c →
    (t : HasSomeArtificial c labels r) →
    flow_of c r ≤ slice_index c.lower r → node < c.nodes → IsLabeled labels node → node ≢ slice_index c.to r →
    s ≡ label_of labels node - 1 → IsWayBack (network c) (flow_of c) r 1 (place_of c.nodes t.tree.rank) node s
way_back {c} {labels} node k t held b m ne is =
    let led = led_to node t b m ne in
    let inside = start_within (network c) (label_of labels node - 1) k.ends led.arc in
    rw is record {
      arc = led.arc;
      other = λ e. elim (over_either (network c) (flow_of c) (label_of labels node - 1)) [
        | inl f ↦ ne (sym led.enters ∙ f.1.enters ∙ ap (slice_index c.to) e)
        | inr f ↦ omega (arith, led.room, f.1.room, ap (flow_of c) e, ap (slice_index c.lower) e, held)
      ];
      enters = led.enters;
      inside = inside;
      marked = place_positive c.nodes t.tree.rank (start_of (network c) (label_of labels node - 1));
      before = place_falls c.nodes t.tree.rank (start_of (network c) (label_of labels node - 1)) node inside led.before;
      room = led.room;
    }

-- a step over an arc ends at its head or at its tail
ends_at : (w : Network) (s a : ℕ) → arc_of s ≡ a → (end_of w s ≡ w.to a) ⊎ (end_of w s ≡ w.from a)
ends_at w s a e = elim (over_either w (λ x. 0) s) [
  | inl f ↦ inl (f.1.enters ∙ ap w.to e)
  | inr f ↦ inr (f.1.enters ∙ ap w.from e)
]

-- the way from the outside, closed to a walk by an exit x from the head of the arc r, and by the arc
pub trail_exit : {w : Network} {g : ℕ → ℕ} {r x most : ℕ} {step step' step'' : ℕ → ℕ}
    {first first' first'' last amount : ℕ} → HasEnds w → r < w.arcs → x < w.arcs →
    IsBefore step step' first first' (2 * x) → IsBefore step' step'' first' first'' (2 * r) →
    IsWay w g r most step first last w.nodes amount → most ≤ w.upper r - g r → w.from x ≡ w.to r → w.to x ≡ w.nodes →
    w.to r ≢ w.nodes → ((i : ℕ) → first ≤ i → i < last → (end_of w (step i) ≢ w.to r) × (end_of w (step i) ≢ w.nodes)) →
    0 < min amount (room_of w g (2 * x)) → IsClosedWalk w g step'' first'' last (min amount (room_of w g (2 * x)))
trail_exit {w} {g} {x = x} {step = step} ends own inner b b' t fits from_exit to_exit apart_out apart positive =
    let over = over_forward w g x in
    let way = way_next b t (omega (arith, over.arc, inner)) (λ e. apart_out (ap w.to (sym e ∙ over.arc) ∙ to_exit))
    (over.enters ∙ to_exit) positive (λ i a l same. elim (ends_at w (step i) x (sym same ∙ over.arc)) [
      | inl f ↦ (apart i a l).1 (f ∙ to_exit)
      | inr f ↦ (apart i a l).0 (f ∙ from_exit)
    ]) in
    trail_closed ends own b' (rw (over.starts, from_exit) at way) fits
