-- The step over the same arc the other way, and the steps of a row.
use Rattle.std.proofs.Common.{ℕ, Bool, ◌≡◌, ◌+◌, ◌-◌, ◌*◌, ◌<◌, ◌≤◌, slice_index, arith, ap, sym, subst, inl, inr, ◌∙◌}
use Rattle.circulation.specs.Contents.{Contents, IsCirculation}
use Rattle.circulation.specs.Network.{Network}
use Rattle.circulation.specs.Residual.{arc_of, by_direction, start_of, end_of, opposite}
use Rattle.circulation.proofs.Scans.{IsAt, scan_at}
use Rattle.circulation.proofs.Overs.{over_forward, over_backward, over_either}

-- what is known of the step over the same arc the other way
pub record IsOpposite (w : Network) (s t : ℕ) : Type 0 where
  pub arc : arc_of t ≡ arc_of s
  pub starts : start_of w t ≡ end_of w s
  pub enters : end_of w t ≡ start_of w s
  pub back : opposite t ≡ s

-- the step over the same arc the other way leads from its end to its start
pub opposite_is : (w : Network) (s : ℕ) → IsOpposite w s (opposite s)
opposite_is w s = elim (over_either w (λ x. 0) s) [
  | inl f ↦
      let o = over_backward w (λ x. 0) (arc_of s) in
      let t : opposite s ≡ 2 * arc_of s + 1 = ap (λ (b : Bool). by_direction b (s + 1) (s - 1)) f.1.way
      ∙ omega (arith, f.0) in
      subst (IsOpposite w s) (sym t) record {
        arc = o.arc;
        starts = o.starts ∙ sym f.1.enters;
        enters = o.enters ∙ sym f.1.starts;
        back = ap (λ (b : Bool). by_direction b (2 * arc_of s + 1 + 1) (2 * arc_of s + 1 - 1)) o.way
            ∙ omega (arith, f.0);
      }
  | inr f ↦
      let o = over_forward w (λ x. 0) (arc_of s) in
      let t : opposite s ≡ 2 * arc_of s = ap (λ (b : Bool). by_direction b (s + 1) (s - 1)) f.1.way
      ∙ omega (arith, f.0) in
      subst (IsOpposite w s) (sym t) record {
        arc = o.arc;
        starts = o.starts ∙ sym f.1.enters;
        enters = o.enters ∙ sym f.1.starts;
        back = ap (λ (b : Bool). by_direction b (2 * arc_of s + 1) (2 * arc_of s - 1)) o.way ∙ omega (arith, f.0);
      }
]

-- the step at an index in the row of a node, by where the row begins and ends
pub row_step : {c : Contents} (v : ℕ) {place s u first last : ℕ} → IsCirculation c → v ≤ c.nodes →
    first ≡ slice_index c.rows.first v → last ≡ slice_index c.rows.first (v + 1) → first ≤ place → place < last →
    s ≡ slice_index c.rows.step place → u ≡ slice_index c.rows.end place → IsAt c v s u
row_step {c} v {place} {s} {u} k within first last from below step end =
    scan_at c v place s u k within (omega (arith, first, from)) (omega (arith, last, below)) step end
