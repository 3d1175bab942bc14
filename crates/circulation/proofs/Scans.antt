-- A scan over the row of a node.
use Rattle.std.proofs.Common.{ℕ, ◌≡◌, ◌+◌, ◌<◌, ◌≤◌, length, slice_index, arith, ap, subst, inl}
use Rattle.std.proofs.Common.{inr, ◌∙◌}
use Rattle.std.proofs.lemmas.Bool.{cases_lt}
use Rattle.circulation.specs.Contents.{Contents, network, arcs, IsCirculation}
use Rattle.circulation.specs.Residual.{arc_of, start_of, end_of}
use Rattle.circulation.specs.Rows.{IsInRow}
use Rattle.circulation.proofs.Overs.{end_within}

-- of the row of the node v, the steps before an index are done
pub record IsScan (c : Contents) (v place : ℕ) (Done : ℕ → Type 0) : Type 0 where
  pub done : (p : ℕ) → slice_index c.rows.first v ≤ p → p < place → Done (slice_index c.rows.step p)

-- a scan at the first index
pub scan_start : (c : Contents) (v place : ℕ) (Done : ℕ → Type 0) → place ≡ slice_index c.rows.first v →
    IsScan c v place Done
scan_start c v place Done is = record { done = λ p b d. absurd (omega arith) }

-- there are steps at the indices of a row
pub scan_inside : (c : Contents) (v place : ℕ) → IsCirculation c → v ≤ c.nodes →
    place < slice_index c.rows.first (v + 1) → place < length c.rows.step
scan_inside c v place k within below = omega (arith, (k.rows.rows v within).within)

-- the step at an index in the row of the node v leads from v to the node u
pub record IsAt (c : Contents) (v s u : ℕ) : Type 0 where
  pub arc : arc_of s < arcs c
  pub start : start_of (network c) s ≡ v
  pub end : end_of (network c) s ≡ u
  pub inside : u ≤ c.nodes

-- the step of a scan
pub scan_at : (c : Contents) (v place s u : ℕ) → IsCirculation c → v ≤ c.nodes → slice_index c.rows.first v ≤ place →
    place < slice_index c.rows.first (v + 1) → s ≡ slice_index c.rows.step place → u ≡ slice_index c.rows.end place →
    IsAt c v s u
scan_at c v place s u k within from below step end =
    let here : IsInRow c.rows v place = record { from = from; below = below } in
    let row = (k.rows.rows v within).leads place here in
    let own : IsAt c v (slice_index c.rows.step place) (slice_index c.rows.end place) = record {
      arc = row.arc;
      start = row.start;
      end = row.end;
      inside = omega (arith, row.end, end_within c (slice_index c.rows.step place) k row.arc);
    } in
    rw (step, end) own

-- a scan goes on to the next index
pub scan_next : (c : Contents) (v place s : ℕ) (Done Done' : ℕ → Type 0) → IsScan c v place Done →
    s ≡ slice_index c.rows.step place → ((t : ℕ) → Done t → Done' t) → Done' s → IsScan c v (place + 1) Done'
scan_next c v place s Done Done' scan is more here = record {
  done = λ p b d. elim (cases_lt p place) [
    | inl before ↦ more (slice_index c.rows.step p) (scan.done p b before)
    | inr last ↦
        let same : place ≡ p = omega arith in
        subst Done' (is ∙ ap (slice_index c.rows.step) same) here
  ];
}

-- at the end of the row all steps are done
pub scan_end : (c : Contents) (v place : ℕ) (Done : ℕ → Type 0) → IsCirculation c → v ≤ c.nodes →
    IsScan c v place Done → slice_index c.rows.first (v + 1) ≤ place → (s : ℕ) → arc_of s < arcs c →
    start_of (network c) s ≡ v → Done s
scan_end c v place Done k within scan past s b is =
    let p = (k.rows.rows v within).all s b is in
    let from = p.1.0.from in
    let below = p.1.0.below in
    subst Done p.1.1 (scan.done p.0 from (omega arith))
