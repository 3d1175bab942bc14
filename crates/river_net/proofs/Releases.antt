-- The links that leave one node are handled, from the first to the last.
use Rattle.std.proofs.Common.{◌≡◌, ℕ, ◌+◌, ◌-◌, ◌<◌, ◌≤◌, Bool, true, false, refl, sym, ◌∙◌, ap, subst, arith, List, []}
use Rattle.std.proofs.Common.{◌∷◌, ◌++◌, length, inl, inr}
use Rattle.std.proofs.lemmas.Bool.{eq-eqb, eqb-true}
use Rattle.std.proofs.lemmas.Bool.Decides.{nat_tests}
use Rattle.std.specs.Prelude.{◌==◌, ◌&&◌, ◌||◌, slice_index, slice_set, nat_lt, if◌then◌else◌, ◌⊎◌, Option, Some, None}
use Rattle.std.specs.Prelude.{IfSome}
use Rattle.water_model.specs.Network.{tail_in, head_in}
use Rattle.chains.specs.Chains.{is_before}
use Rattle.chains.proofs.Walking.{next_has, splits}
use Rattle.river_net.specs.Firsts.{IsNextFrom, IsWithin}
use Rattle.river_net.specs.GraphView.{GraphView}
use Rattle.finite_sums.proofs.Totals.{count_at_most}
use Rattle.river_net.specs.Sorting.{IsPlacing, IsReleased, IsReleasing}
use Rattle.river_net.proofs.Sorts.{and_link, waits_for, IsSettled, settled}

-- an order has no more nodes than there are
pub order_fits : {g : GraphView} {order : List ℕ} {position : ℕ → ℕ} → IsPlacing g order position →
    length order ≤ g.nodes
order_fits {g} {order} {position} now =
    omega (arith, now.number, count_at_most g.nodes (λ v. nat_lt (position v) g.nodes))

-- the node that has a position is the one that stands there
own_node : {g : GraphView} {order : List ℕ} {position : ℕ → ℕ} (done v : ℕ) → IsPlacing g order position → v < g.nodes →
    done < length order → position v ≡ done → v ≡ slice_index order done
own_node {g} {order} done v now inside below is = elim (now.each v inside) [
  | inl none ↦ (let bounded = order_fits now in absurd (omega arith))
  | inr p ↦ sym p.1 ∙ ap (slice_index order) is
]

-- before the first link of the node
pub release_start : {g : GraphView} {order waits : List ℕ} {done : ℕ} {next : Option ℕ} → IsWithin g.nodes g.links →
    done < length order →
    IsNextFrom g.links (slice_index order done) 0 next → IsReleased g order waits done →
    IsReleasing g order waits done (slice_index order done) next
release_start {g} {order} {waits} {done} {next} within below first now = record {
  position = now.position;
  handled = now.handled;
  sorting = now.sorting;
  within = below;
  at = refl;
  leaves = next_has (tail_in g.links) (slice_index order done) 0 (length g.links) next first;
  which = λ e l. now.which e l ∙ none_yet (now.position (tail_in g.links e)) done (is_before next e) e (λ is.
      splits (tail_in g.links) (slice_index order done) 0 (length g.links) next first e l
      (own_node done (tail_in g.links e) now.sorting.placing (within.ends e l).0 below is));
}
  where
    none_yet : (p d : ℕ) (t : Bool) (e : ℕ) → (p ≡ d → t ≡ nat_lt e 0) → nat_lt p d ≡ (nat_lt p d || (p == d && t))
    none_yet p d t e h = grind (arith, nat_tests)

-- the link at hand is not handled
pub next_open : {g : GraphView} {order waits : List ℕ} {done node e : ℕ} →
    (now : IsReleasing g order waits done node (Some e)) →
    (now.handled e ≡ false) × (now.position (tail_in g.links e) ≡ done)
next_open {g} {order} {waits} {done} {node} {e} now =
    (now.which e now.leaves.0 ∙ not_below (now.position (tail_in g.links e)) done e at, at)
  where
    at : now.position (tail_in g.links e) ≡ done
    at = ap now.position (now.leaves.1 ∙ sym now.at) ∙ (now.sorting.placing.placed done now.within).1

    not_below : (p d e : ℕ) → p ≡ d → (nat_lt p d || (p == d && nat_lt e e)) ≡ false
    not_below p d e h = grind (arith, nat_tests)

-- so its head waits
pub next_waits : {g : GraphView} {order waits : List ℕ} {done node e : ℕ} → IsWithin g.nodes g.links →
    IsReleasing g order waits done node (Some e) → 0 < slice_index waits (head_in g.links e)
next_waits {e = e} within now = waits_for e within now.sorting now.leaves.0 (next_open now).0

-- the link at hand is handled
pub release_next : {g : GraphView} {order waits order' waits' : List ℕ} {done node e : ℕ} {next : Option ℕ} →
    IsWithin g.nodes g.links → IsReleasing g order waits done node (Some e) →
    IsNextFrom g.links (tail_in g.links e) (e + 1) next →
    waits' ≡ slice_set waits (head_in g.links e) (slice_index waits (head_in g.links e) - 1) →
    order' ≡ (if slice_index waits (head_in g.links e) == 1 then order ++ head_in g.links e ∷ [] else order) →
    IsReleasing g order' waits' done node next
release_next {g} {order} {waits} {order'} {waits'} {done} {node} {e} {next} within now first waits_are
    order_is = record {
      position = s.position';
      handled = and_link now.handled e;
      sorting = s.sorting;
      within = (let b = now.within in let m = s.more in omega arith);
      at = s.same done now.within ∙ now.at;
      leaves = next_has (tail_in g.links) node (e + 1) (length g.links) next on;
      which = λ f l. which f l;
    }
  where
    on : IsNextFrom g.links node (e + 1) next
    on = subst (λ v. IsNextFrom g.links v (e + 1) next) now.leaves.1 first

    s : IsSettled g order waits now.position now.handled e order' waits'
    s = let o = next_open now in let b = now.within in
        settled e within now.sorting now.leaves.0 o.0 (let p = o.1 in
        omega arith) waits_are order_is

    -- a new position is not among those that are done
    compares : (p q d n k : ℕ) → (q ≡ p) ⊎ ((p ≡ n) × (q ≡ k)) → d < k → k ≤ n → (nat_lt q d ≡ nat_lt p d) ×
        (q == d ≡ (p == d))
    compares p q d n k h a b = grind (arith, nat_tests)

    by_index : (h t : Bool) (p d f e : ℕ) → (f ≡ e → p ≡ d) → h ≡ (nat_lt p d || (p == d && nat_lt f e)) →
        (p ≡ d → t ≡ nat_lt f (e + 1)) → (h || f == e) ≡ (nat_lt p d || (p == d && t))
    by_index h t p d f e same before now = grind (arith, nat_tests)

    which : (f : ℕ) → f < length g.links → and_link now.handled e f ≡ (nat_lt (s.position' (tail_in g.links f)) done ||
        (s.position' (tail_in g.links f) == done && is_before next f))
    which f l =
        let inside = (within.ends f l).0 in
        let bounded = order_fits now.sorting.placing in
        let same =
        compares (now.position (tail_in g.links f)) (s.position' (tail_in g.links f)) done g.nodes (length order)
        (s.grows (tail_in g.links f) inside) now.within bounded in
        by_index (now.handled f) (is_before next f) (now.position (tail_in g.links f)) done f e
        (λ q. ap (λ x. now.position (tail_in g.links x)) q ∙ (next_open now).1) (now.which f l)
        (λ is. splits (tail_in g.links) node (e + 1) (length g.links) next on f l
        (own_node done (tail_in g.links f) now.sorting.placing inside now.within is ∙ now.at))
        ∙ sym (ap (λ t. t || (s.position' (tail_in g.links f) == done && is_before next f)) same.0
        ∙ ap (λ t. nat_lt (now.position (tail_in g.links f)) done || (t && is_before next f)) same.1)
