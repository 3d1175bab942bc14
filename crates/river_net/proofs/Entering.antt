-- One more link is counted at its head.
use Rattle.std.proofs.Common.{◌≡◌, ℕ, ◌+◌, ◌<◌, ◌≤◌, sym, ◌∙◌, ap, arith, List, length, get_or, inl, inr, replicate}
use Rattle.std.proofs.lemmas.Bool.{cases_eq, eq-eqb, ne_eqb}
use Rattle.std.proofs.lemmas.List.{get_or-set_same, get_or-set_other, get_or-replicate, get_or_default, length-set}
use Rattle.std.proofs.lemmas.List.{length-replicate}
use Rattle.std.specs.Prelude.{◌==◌, slice_set, slice_index, if◌then◌else◌}
use Rattle.finite_sums.specs.Sums.{count_where}
use Rattle.finite_sums.proofs.Totals.{total_where_start, total_where_more, count_at_most}
use Rattle.water_model.specs.Network.{head_in}
use Rattle.water_model.specs.declared.types.Link.{Link}
use Rattle.river_net.specs.GraphView.{GraphView}
use Rattle.river_net.specs.Sorting.{AreEntering}
use Rattle.water_model.proofs.Lists.{entry_is}

-- before the first link all counts are 0
pub entering_start : {g : GraphView} {counts : List ℕ} → counts ≡ replicate g.nodes 0 → AreEntering g 0 counts
entering_start {g} is = record {
  count = ap length is ∙ length-replicate g.nodes 0;
  each = λ v l. ap (λ (xs : List ℕ). get_or xs v 0) is ∙ get_or-replicate g.nodes v 0 0 l
      ∙ sym (total_where_start (λ e. head_in g.links e == v) (λ e. 1));
}

-- one more link
pub entering_next : {g : GraphView} {k : ℕ} {counts : List ℕ} {x : Link} {old : ℕ} → k < length g.links →
    x.to < g.nodes → x ≡ get_or g.links k x → old ≡ get_or counts x.to old → AreEntering g k counts →
    AreEntering g (k + 1) (slice_set counts x.to (old + 1))
entering_next {g} {k} {counts} {x} {old} below inside read at now = record {
  count = length-set counts x.to (old + 1) ∙ now.count;
  each = λ v l. elim (cases_eq v x.to) [
    | inl same ↦ ap (λ u. slice_index (slice_set counts x.to (old + 1)) u) same
        ∙ get_or-set_same counts x.to (old + 1) 0 room
        ∙ (let more = one same in let c = counted v in let n = now.each v l in let r =
        ap (λ u. slice_index counts u) same in omega (arith, old_is))
    | inr other ↦ get_or-set_other counts x.to v (old + 1) 0 other
        ∙ (let none = zero other in let c = counted v in let n = now.each v l in omega arith)
  ];
}
  where
    head : head_in g.links k ≡ x.to
    head = entry_is g.links k x (λ l. l.to) 0 below read

    room : x.to < length counts
    room = let c = now.count in omega arith

    old_is : old ≡ slice_index counts x.to
    old_is = at ∙ get_or_default counts x.to old 0 room

    counted : (v : ℕ) → count_where (k + 1) (λ e. head_in g.links e == v) ≡ count_where k
        (λ e. head_in g.links e == v) + (if head_in g.links k == v then 1 else 0)
    counted v = total_where_more k (λ e. head_in g.links e == v) (λ e. 1)

    one : {v : ℕ} → v ≡ x.to → (if head_in g.links k == v then 1 else 0) ≡ 1 + 0
    one {v} same = ap (λ t. if t then 1 else 0) (eq-eqb (head_in g.links k) v (head ∙ sym same))

    zero : {v : ℕ} → (v ≡ x.to → ⊥) → (if head_in g.links k == v then 1 else 0) ≡ 0 + 0
    zero {v} other = ap (λ t. if t then 1 else 0) (ne_eqb (head_in g.links k) v (λ h. other (sym h ∙ head)))

-- a count is small
pub entering_small : {g : GraphView} {k : ℕ} {counts : List ℕ} (v : ℕ) {old : ℕ} → v < g.nodes →
    old ≡ get_or counts v old → AreEntering g k counts → old ≤ k
entering_small {g} {k} {counts} v {old} inside at now =
    let c = now.count in
    let room : v < length counts = omega arith in
    let old_is : old ≡ slice_index counts v = at ∙ get_or_default counts v old 0 room in
    omega (arith, now.each v inside, count_at_most k (λ e. head_in g.links e == v))
