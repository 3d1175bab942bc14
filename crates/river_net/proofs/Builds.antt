-- The network of nodes and links that have no fault.
use Rattle.std.proofs.Common.{◌≡◌, ℕ, zero, suc, ◌<◌, refl, sym, ◌∙◌, ap, subst, arith, List, [], ◌∷◌, length, get_or}
use Rattle.std.proofs.Common.{◌+◌, ◌≤◌, Bool, true, false, cond, map, inl, inr}
use Rattle.std.proofs.lemmas.Bool.{cases_Bool, false_from_ne_true, false≢true, eqb-true, eq-eqb}
use Rattle.std.proofs.lemmas.Bool.{not_from_true, not_from_false}
use Rattle.std.proofs.lemmas.List.{length-map}
use Rattle.std.specs.Prelude.{◌==◌, ◌&&◌, not, Option, Some, None, is_none, All, slice_index}
use Rattle.std.specs.List.{find, range_with_len}
use Rattle.water_model.specs.Network.{tail_in, head_in, is_river_in, is_outlet_in, HasNodes, IsSoundNetwork}
use Rattle.water_model.specs.declared.types.Link.{Link}
use Rattle.water_model.specs.declared.types.Node.{Node}
use Rattle.chains.specs.Chains.{is_key, has_key}
use Rattle.river_net.specs.Firsts.{AreFirstRivers, IsFirstRiverFrom, left_by_river}
use Rattle.river_net.specs.GraphView.{GraphView}
use Rattle.river_net.specs.Net.{IsNet, IsRiverOf, IsRunningOrder}
use Rattle.river_net.specs.Search.{reaches_itself}
use Rattle.river_net.specs.Sorting.{IsReleased}
use Rattle.river_net.specs.NetFaults.{first_without_river, first_on_cycle, lacks_river, keeps_water}
use Rattle.river_net.proofs.Entries.{ends_in}
use Rattle.river_net.proofs.Sorted.{running_order}
use Rattle.river_net.proofs.NoFault.{has_river, river_found, found_river}

-- tests that agree find the same
find_same : (p q : ℕ → Bool) (from n : ℕ) → ((j : ℕ) → from ≤ j → j < from + n → p j ≡ q j) →
    find p (range_with_len from n) ≡ find q (range_with_len from n)
find_same p q from zero same = refl
find_same p q from (suc n) same =
    ap (λ t. cond t (Some from) (find p (range_with_len (from + 1) n))) (same from (omega arith) (omega arith))
    ∙ ap (λ o. cond (q from) (Some from) o) (find_same p q (from + 1) n (λ j a b. same j (omega arith) (omega arith)))

-- a river leaves its tail, and whatever leaves a node as a river is one with this tail
leaves_it : (links : List Link) (e node : ℕ) → tail_in links e ≡ node → is_river_in links e ≡ true →
    has_key (left_by_river links) node e ≡ true
leaves_it links e node tail river =
    ap (λ t. is_key (cond t (Some (tail_in links e)) None) node) river ∙ eq-eqb (tail_in links e) node tail

leaves : (links : List Link) (e node : ℕ) → has_key (left_by_river links) node e ≡ true →
    (tail_in links e ≡ node) × (is_river_in links e ≡ true)
leaves links e node = by_test (is_river_in links e) (tail_in links e)
  where
    by_test : (t : Bool) (tail : ℕ) → is_key (cond t (Some tail) None) node ≡ true → (tail ≡ node) × (t ≡ true)
    by_test true tail h = (eqb-true tail node h, refl)
    by_test false tail h = absurd (false≢true h)

-- a node has a first river exactly where a river leaves it
river_or_none : (links : List Link) (node : ℕ) (o : Option ℕ) → IsFirstRiverFrom links node o →
    not (has_river links node) ≡ is_none o
river_or_none links node None first =
    not_from_false (has_river links node) (false_from_ne_true (has_river links node) (λ h.
    let out = river_found links node h in
    false≢true (sym (first out.link (omega arith) out.in_range) ∙ leaves_it links out.link node out.tail out.river)))
river_or_none links node (Some e) first =
    let river = leaves links e node first.2 in
    not_from_true (has_river links node)
    (found_river links node record { link = e; in_range = first.1; tail = river.0; river = river.1 })

-- the first node without a river, over links and over first rivers
pub without_river : (nodes : List Node) (links : List Link) (rivers : List (Option ℕ)) →
    AreFirstRivers (length nodes) links rivers →
    first_without_river nodes links ≡ find (keeps_water nodes rivers) (range_with_len 0 (length nodes))
unfolding first_without_river
without_river nodes links rivers firsts =
    find_same (lacks_river nodes links) (keeps_water nodes rivers) 0 (length nodes) (λ v _ l.
    ap (λ t. not (is_outlet_in nodes v) && t)
    (river_or_none links v (get_or rivers v None) (firsts.each v)))

-- the first river of a node of a sound network
river_of : (nodes : List Node) (links : List Link) (v : ℕ) (o : Option ℕ) → IsSoundNetwork nodes links →
    v < length nodes → IsFirstRiverFrom links v o → IsRiverOf nodes links v o
river_of nodes links v None sound l first = elim (cases_Bool (is_outlet_in nodes v)) [
  | inl outlet ↦ outlet
  | inr inner ↦ (let out = sound.rivers v l inner in absurd (false≢true (sym (first out.link (omega arith) out.in_range)
      ∙ leaves_it links out.link v out.tail out.river)))
]
river_of nodes links v (Some e) sound l first =
    let river = leaves links e v first.2 in (
      ap (is_outlet_in nodes) (sym river.0) ∙ sound.outlets_end e first.1,
      record {
        in_range = first.1;
        river = river.1;
        first = λ other before same. false_from_ne_true (is_river_in links other)
            (λ is. false≢true (sym (first.3 other (omega arith) before)
            ∙ leaves_it links other v (same ∙ river.0) is));
      },
      river.0,
    )

-- the list of heads, index by index
heads_are : (links : List Link) (e : ℕ) → e < length links →
    slice_index (map (λ (l : Link). l.to) links) e ≡ head_in links e
heads_are [] e l = absurd (omega arith)
heads_are (x ∷ links) zero l = refl
heads_are (x ∷ links) (suc e) l = heads_are links e (omega arith)

-- the network of sound nodes and links
pub net_is : {nodes : List Node} {links : List Link} {order heads : List ℕ} {rivers : List (Option ℕ)} →
    All (λ l. HasNodes nodes l) links → IsSoundNetwork nodes links → IsRunningOrder nodes links order →
    AreFirstRivers (length nodes) links rivers → heads ≡ map (λ (l : Link). l.to) links →
    IsNet nodes links (record { order = order; rivers = rivers; heads = heads })
net_is {nodes} {links} {order} {heads} {rivers} ends sound run firsts heads_is = record {
  ends = ends;
  run = run;
  river_count = firsts.count;
  river = λ v l. river_of nodes links v (get_or rivers v None) sound l (firsts.each v);
  head_count = ap length heads_is ∙ length-map links (λ l. l.to);
  head = λ e l. ap (λ (xs : List ℕ). slice_index xs e) heads_is ∙ heads_are links e l;
}

-- the node on a cycle that the search over the graph found
pub on_cycle : (nodes : List Node) (links : List Link) {g : GraphView} {o found : Option ℕ} →
    g ≡ record { nodes = length nodes; links = links } →
    found ≡ find (reaches_itself g) (range_with_len 0 g.nodes) → found ≡ o → first_on_cycle nodes links ≡ o
unfolding first_on_cycle
on_cycle nodes links is search same =
    sym (ap (λ (h : GraphView). find (reaches_itself h) (range_with_len 0 h.nodes)) is) ∙ (sym search ∙ same)

-- the order that the graph was sorted into
pub order_runs : {nodes : List Node} {links : List Link} {g : GraphView} {order waits : List ℕ} →
    All (λ l. HasNodes nodes l) links → IsSoundNetwork nodes links →
    g ≡ record { nodes = length nodes; links = links } → IsReleased g order waits (length order) →
    IsRunningOrder nodes links order
order_runs {nodes} {links} {g} {order} {waits} ends sound is now =
    running_order nodes links record { ends = ends_in nodes links ends }
    (subst (λ (h : GraphView). IsReleased h order waits (length order)) is now) sound.acyclic
