-- The steps of a walk with the least room are gathered.
use Rattle.std.proofs.Common.{ℕ, ◌≡◌, ◌+◌, ◌*◌, ◌<◌, ◌≤◌, ◌⊎◌, length, slice_index, slice_set}
use Rattle.std.proofs.Common.{arith, ap, sym, inl, inr, ◌∙◌}
use Rattle.std.proofs.lemmas.Bool.{cases_eq}
use Rattle.std.proofs.lemmas.List.{get_or-set_other, get_or-set_same, length-set}
use Rattle.circulation.specs.Contents.{Contents, network, flow_of, arcs, step_of, IsCirculation}
use Rattle.circulation.specs.Residual.{arc_of, room_of}
use Rattle.residual_tree.specs.Raised.{IsGathered}

-- no step was taken
pub gathered_start : (c : Contents) (most : ℕ) → IsGathered c (4 * c.nodes + 8) 0 most
gathered_start c most = record {
  fits = omega arith;
  arc = λ i b. absurd (omega arith);
  least = λ i h j. absurd (omega arith);
  all = λ i h j. absurd (omega arith);
}

-- a step has the least room, and is listed: after the others with as much, or alone
pub gathered_more : (c : Contents) {d e : Contents} (first first' full full' amount left s : ℕ) → IsCirculation c →
    arc_of s < arcs c → first' + 1 ≡ first → full < first' → IsGathered c first full amount →
    left ≡ room_of (network c) (flow_of c) s →
    ((full' ≡ full) × (left ≡ amount)) ⊎ ((full' ≡ 0) × (left < amount)) →
    d ≡ record c { scratch = slice_set c.scratch first' s } →
    e ≡ record d { scratch = slice_set d.scratch full' s } → IsGathered e first' (full' + 1) left
gathered_more c first first' full full' amount left s k b before apart g is_left way made made' =
    let written = slice_set c.scratch first' s in
    let order : (full' ≤ full) × (left ≤ amount) = elim way [
      | inl w ↦ (omega (arith, w.0), omega (arith, w.1))
      | inr w ↦ (omega (arith, w.0), omega (arith, w.1))
    ] in
    let long : length written ≡ 4 * c.nodes + 8 = length-set c.scratch first' s ∙ k.shape.scratch in
    let listed = get_or-set_same written full' s 0 (omega (arith, order.0, g.fits, long)) in
    let at = get_or-set_other written full' first' s 0 (λ e. absurd (omega (arith, order.0, e)))
    ∙ get_or-set_same c.scratch first' s 0 (omega (arith, g.fits, k.shape.scratch)) in
    let others = λ (i : ℕ) (h : first ≤ i). let same : slice_index (slice_set written full' s) i ≡ step_of c i =
    get_or-set_other written full' i s 0 (λ e. absurd (omega (arith, order.0, e)))
    ∙ get_or-set_other c.scratch first' i s 0 (λ e. absurd (omega arith)) in same in
    let below = λ (i : ℕ) (h : i < full'). let same : slice_index (slice_set written full' s) i ≡ step_of c i =
    get_or-set_other written full' i s 0 (λ e. absurd (omega arith))
    ∙ get_or-set_other c.scratch first' i s 0 (λ e. absurd (omega (arith, order.0))) in same in
    rw (made', made) record {
      fits = omega (arith, g.fits, order.0);
      arc = λ i h. elim (cases_eq i full') [
        | inl e ↦ rw (e, listed) b
        | inr ne ↦ rw (below i (omega arith)) (g.arc i (omega (arith, order.0)))
      ];
      least = λ i h j. elim (cases_eq i first') [
        | inl e ↦ rw (e, at) (omega (arith, is_left))
        | inr ne ↦ rw (others i (omega arith)) (omega (arith, g.least i (omega arith) j, order.1))
      ];
      all = λ i h j. elim (cases_eq i first') [
        | inl e ↦ inl record {
          place = full';
          from = omega arith;
          below = omega arith;
          is = listed ∙ sym at ∙ ap (slice_index (slice_set written full' s)) (sym e);
        }
        | inr ne ↦ elim way [
          | inl w ↦ elim (g.all i (omega arith) j) [
            | inl o ↦ inl record {
              place = o.place;
              from = omega arith;
              below = omega (arith, o.below, w.0);
              is = below o.place (omega (arith, o.below, w.0)) ∙ o.is ∙ sym (others i (omega arith));
            }
            | inr more ↦ inr (rw (others i (omega arith)) (omega (arith, more, w.1)))
          ]
          | inr w ↦ inr (rw (others i (omega arith)) (omega (arith, g.least i (omega arith) j, w.1)))
        ]
      ];
    }

-- a step has more than the least room: it is written where it is not listed
pub gathered_passed : (c : Contents) {d e : Contents} (first first' full amount left s : ℕ) → IsCirculation c →
    first' + 1 ≡ first → full < first' → IsGathered c first full amount →
    left ≡ room_of (network c) (flow_of c) s → amount < left →
    d ≡ record c { scratch = slice_set c.scratch first' s } →
    e ≡ record d { scratch = slice_set d.scratch full s } → IsGathered e first' full amount
gathered_passed c first first' full amount left s k before apart g is_left less made made' =
    let written = slice_set c.scratch first' s in
    let at = get_or-set_other written full first' s 0 (λ e. absurd (omega (arith, e)))
    ∙ get_or-set_same c.scratch first' s 0 (omega (arith, g.fits, k.shape.scratch)) in
    let others = λ (i : ℕ) (h : first ≤ i). let same : slice_index (slice_set written full s) i ≡ step_of c i =
    get_or-set_other written full i s 0 (λ e. absurd (omega (arith, e)))
    ∙ get_or-set_other c.scratch first' i s 0 (λ e. absurd (omega arith)) in same in
    let below = λ (i : ℕ) (h : i < full). let same : slice_index (slice_set written full s) i ≡ step_of c i =
    get_or-set_other written full i s 0 (λ e. absurd (omega arith))
    ∙ get_or-set_other c.scratch first' i s 0 (λ e. absurd (omega arith)) in same in
    rw (made', made) record {
      fits = omega (arith, g.fits);
      arc = λ i h. rw (below i h) (g.arc i h);
      least = λ i h j. elim (cases_eq i first') [
        | inl e ↦ rw (e, at) (omega (arith, is_left))
        | inr ne ↦ rw (others i (omega arith)) (g.least i (omega arith) j)
      ];
      all = λ i h j. elim (cases_eq i first') [
        | inl e ↦ inr (rw (e, at) (omega (arith, is_left)))
        | inr ne ↦ elim (g.all i (omega arith) j) [
          | inl o ↦ inl record {
            place = o.place;
            from = omega arith;
            below = o.below;
            is = below o.place o.below ∙ o.is ∙ sym (others i (omega arith));
          }
          | inr more ↦ inr (rw (others i (omega arith)) more)
        ]
      ];
    }
