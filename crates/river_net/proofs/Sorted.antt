-- What nodes in order say of cycles.
use Rattle.std.proofs.Common.{◌≡◌, ℕ, zero, suc, ◌<◌, ◌≤◌, false, sym, ◌∙◌, subst, arith, List, length, inl, inr}
use Rattle.std.proofs.lemmas.Bool.{cases_eq, cases_lt, and_parts, not-true, eqb-true, ltb-false, lt-ltb}
use Rattle.std.proofs.lemmas.Bool.{false_from_ne_true, false≢true}
use Rattle.std.specs.Prelude.{◌==◌, ◌&&◌, not, nat_lt, ◌⊎◌, slice_index}
use Rattle.finite_sums.proofs.Totals.{index_counted, IsCounted}
use Rattle.water_model.specs.Network.{walks, tail_in, head_in}
use Rattle.water_model.specs.declared.types.Link.{Link}
use Rattle.water_model.specs.declared.types.Node.{Node}
use Rattle.river_net.specs.Firsts.{IsWithin}
use Rattle.river_net.specs.GraphView.{GraphView}
use Rattle.river_net.specs.Net.{IsRunningOrder}
use Rattle.river_net.specs.Sorting.{IsReleased}
use Rattle.finite_sums.proofs.Counts.{all_counted}
use Rattle.river_net.proofs.Walks.{walk_rises}
use Rattle.river_net.proofs.Chains.{Chain, chain_start, chain_more, chain_turns}
use Rattle.river_net.proofs.Releases.{order_fits}

-- a node that waits for no link is on no cycle
pub off_cycle : {g : GraphView} {order waits : List ℕ} {done : ℕ} → IsReleased g order waits done → (v : ℕ) →
    v < g.nodes → slice_index waits v ≡ 0 → walks g.links g.nodes v v ≡ false
off_cycle {g} {order} now v l free = false_from_ne_true (walks g.links g.nodes v v) (λ h.
    let up = walk_rises g.links now.position (length order) g.nodes v v now.sorting.placing.forward
    (now.sorting.free v l l free) h in absurd (omega arith))

-- a link leads to a node without a position from another without a position
pub record HasOpenLink (g : GraphView) (order : List ℕ) (position : ℕ → ℕ) (node : ℕ) : Type 0 where
  pub link : ℕ
  pub in_range : link < length g.links
  pub head : head_in g.links link ≡ node
  pub tail : length order ≤ position (tail_in g.links link)

-- a node without a position waits for such a link
open_link : {g : GraphView} {order waits : List ℕ} → (now : IsReleased g order waits (length order)) → (v : ℕ) →
    v < g.nodes → length order ≤ now.position v → HasOpenLink g order now.position v
open_link {g} {order} {waits} now v l unplaced = elim (cases_eq (slice_index waits v) 0) [
  | inl free ↦ (let p = now.sorting.free v l l free in absurd (omega arith))
  | inr some ↦
      (let w = now.sorting.waiting v l in
      found (index_counted (length g.links) 0 (λ e. head_in g.links e == v && not (now.handled e)) (positive some w)))
]
  where
    positive : {m n : ℕ} → (m ≡ 0 → ⊥) → m ≡ n → 0 < n
    positive ne same = omega arith

    found : IsCounted (length g.links) (λ e. head_in g.links e == v && not (now.handled e)) 0 →
        HasOpenLink g order now.position v
    found c =
        let parts = and_parts (head_in g.links c.place == v) (not (now.handled c.place)) c.passes in record {
          link = c.place;
          in_range = c.below;
          head = eqb-true (head_in g.links c.place) v parts.0;
          tail = ltb-false (now.position (tail_in g.links c.place)) (length order)
              (sym (now.which c.place c.below) ∙ not-true (now.handled c.place) parts.1);
        }

-- so there are chains of any length to it
chain_to : {g : GraphView} {order waits : List ℕ} → IsWithin g.nodes g.links →
    (now : IsReleased g order waits (length order)) →
    (k v : ℕ) → v < g.nodes → length order ≤ now.position v → Chain g.links g.nodes k v
chain_to {g} within now zero v l unplaced = chain_start g.links g.nodes v l
chain_to {g} within now (suc k) v l unplaced =
    let one = open_link now v l unplaced in
    subst (Chain g.links g.nodes (suc k)) one.head
    (chain_more one.link one.in_range (within.ends one.link one.in_range).1
    (chain_to within now k (tail_in g.links one.link) (within.ends one.link one.in_range).0 one.tail))

-- where no node is on a cycle, every node has its position
pub all_placed : {g : GraphView} {order waits : List ℕ} → IsWithin g.nodes g.links →
    (now : IsReleased g order waits (length order)) →
    ((v : ℕ) → v < g.nodes → walks g.links g.nodes v v ≡ false) → (v : ℕ) → v < g.nodes → now.position v < length order
all_placed {g} {order} within now none v l = elim (cases_lt (now.position v) (length order)) [
  | inl placed ↦ placed
  | inr unplaced ↦ (let turn = chain_turns (chain_to within now g.nodes v l unplaced) in
      absurd (false≢true (sym (none turn.0 turn.1) ∙ turn.2)))
]

-- an order of all nodes
pub running_order : (nodes : List Node) (links : List Link) {order waits : List ℕ} → IsWithin (length nodes) links →
    IsReleased (record { nodes = length nodes; links = links }) order waits (length order) →
    ((v : ℕ) → v < length nodes → walks links (length nodes) v v ≡ false) → IsRunningOrder nodes links order
running_order nodes links {order} within now none = record {
  count = count;
  position = now.position;
  below = λ i l. (now.sorting.placing.placed i (omega (arith, count))).0;
  placed = λ i l. (now.sorting.placing.placed i (omega (arith, count))).1;
  in_range = λ v l. (let p = placed v l in omega (arith, count));
  each = λ v l. at_index v (placed v l) (now.sorting.placing.each v l);
  forward = record { runs = λ e l. now.sorting.placing.forward e l (placed (head_in links e) (within.ends e l).1) };
}
  where
    g : GraphView
    g = record { nodes = length nodes; links = links }

    placed : (v : ℕ) → v < length nodes → now.position v < length order
    placed = all_placed within now none

    fits : length order ≤ length nodes
    fits = order_fits now.sorting.placing

    count : length order ≡ length nodes
    count = sym now.sorting.placing.number
        ∙ all_counted (length nodes) (λ v. nat_lt (now.position v) (length nodes)) (λ v l. let p = placed v l in
        lt-ltb (now.position v) (length nodes) (omega (arith, fits)))

    at_index : (v : ℕ) → now.position v < length order → (now.position v ≡ length nodes) ⊎
        ((now.position v < length order) × (slice_index order (now.position v) ≡ v)) →
        slice_index order (now.position v) ≡ v
    at_index v p (inl none) = absurd (omega (arith, fits))
    at_index v p (inr at) = at.1
