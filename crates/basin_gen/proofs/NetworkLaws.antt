-- A generated network is sound, and its nodes, links and reservoirs are valid.
use Rattle.std.proofs.Common.{◌≡◌, ◌≢◌, ℕ, zero, suc, ◌+◌, ◌-◌, ◌*◌, ◌%◌, ◌^◌, ◌<◌, ◌≤◌, Bool, true, false, refl, sym}
use Rattle.std.proofs.Common.{ap, ◌∙◌, arith, List, [], ◌∷◌, length, inl, inr}
use Rattle.std.specs.Prelude.{Some, None, slice_get, if◌then◌else◌, ◌==◌, All, ◌||◌, ◌&&◌, min, replicate}
use Rattle.std.specs.Fmt.{decimal}
use Rattle.std.specs.List.{list_any}
use Rattle.std.proofs.lemmas.Bool.{cases_Bool, eqb-true, eqb-false, ne_eqb}
use Rattle.std.proofs.lemmas.Fmt.{decimal_injective}
use Rattle.std.proofs.lemmas.List.Elements.{All-replicate}
use Rattle.water_model.specs.Lookups.{of_entry}
use Rattle.water_model.specs.Network.{walks, tail_in, is_outlet_in, is_on_cycle, HasRiverOut, IsSoundNetwork}
use Rattle.water_model.specs.Valid.{IsMonthly, IsValidNode, IsValidLink, IsValidReservoir, IsValidPoint, IsAlwaysOpen}
use Rattle.water_model.specs.declared.types.Basin.{Basin}
use Rattle.water_model.specs.declared.types.Link.{Link}
use Rattle.water_model.proofs.Lists.{all_at}
use Rattle.basin_gen.specs.Draws.{next, drawn, later, list_of}
use Rattle.basin_gen.specs.Entries.{twelve_drawn, inflow_at, node_at, node_after, river_at, canal_at, reservoir_at}
use Rattle.basin_gen.specs.Generator.{count_of_canals, count_of_reservoirs}
use Rattle.basin_gen.proofs.DrawLaws.{drawn_below}
use Rattle.basin_gen.proofs.NameLaws.{numbered_is_name}
use Rattle.basin_gen.proofs.Places.{joined_left, entry_is, all_of, own_names, listed}
use Rattle.basin_gen.proofs.Lists.{IsMade, States, joined_pairs, link_made, link_count, all_links}

-- a link leads to a later node
pub node_after_within : (size reach i x : ℕ) → i + 1 < size → 0 < reach → (i < node_after size reach i x) ×
    (node_after size reach i x < size)
unfolding node_after
node_after_within size reach i x within some =
    let some_further : 0 < min reach (size - 1 - i) = omega arith in
    let below = drawn_below x (min reach (size - 1 - i)) some_further in
    (omega arith, omega arith)

-- twelve numbers
pub same_for_months : (most n : ℕ) → n ≤ most → IsMonthly most (replicate 12 n)
same_for_months most n h = record { twelve = refl; each = All-replicate (λ k. k ≤ most) 12 n h }

pub drawn_for_months : (most k x : ℕ) → 0 < k → k ≤ most → IsMonthly most (twelve_drawn x k)
unfolding twelve_drawn
drawn_for_months most k x some small =
    let is = listed 12 (λ m. drawn (later x m) k) in record {
      twelve = is.count;
      each = all_of (λ n. n ≤ most) (list_of 12 (λ m. drawn (later x m) k)) 12 (λ m. drawn (later x m) k) is
          (λ m l. let below = drawn_below (later x m) k some in omega arith);
    }

pub inflow_valid : (i x : ℕ) → IsMonthly (10 ^ 9) (inflow_at i x)
unfolding inflow_at
inflow_valid i x = by (i % 2 == 0)
  where
    by : (t : Bool) → IsMonthly (10 ^ 9) (if t then twelve_drawn x 100 else replicate 12 0)
    by true = drawn_for_months (10 ^ 9) 100 x (omega arith) (omega arith)
    by false = same_for_months (10 ^ 9) 0 (omega arith)

pub nodes_valid : (b : Basin) (size : ℕ) (s : States) → size ≤ 2000 → IsMade b size s → All IsValidNode b.nodes
nodes_valid b size s bounded made =
    all_of IsValidNode b.nodes size (λ i. node_at size i (s.nodes i)) made.nodes
    (λ i l. record { name = numbered_is_name 110 i refl (omega arith); inflow = inflow_valid i (s.nodes i) })

-- a link that leads on, from no outlet
pub record LeadsOn (size : ℕ) (l : Link) : Type 0 where
  pub from : l.from + 1 < size
  pub forward : l.from < l.to
  pub to : l.to < size

pub canal_within : (size j : ℕ) → j < count_of_canals size → 4 * j + 1 + 1 < size
canal_within size j h = omega arith

pub links_lead_on : (b : Basin) (size : ℕ) (s : States) → IsMade b size s → All (LeadsOn size) b.links
links_lead_on b size s made =
    all_links (LeadsOn size) b size s made
    (λ i l. let to = node_after_within size 3 i (s.rivers i) (omega arith) (omega arith) in
    record { from = omega arith; forward = to.0; to = to.1 })
    (λ j l. let within = canal_within size j l in
    let to = node_after_within size 5 (4 * j + 1) (s.canals j) within (omega arith) in
    record { from = within; forward = to.0; to = to.1 })

pub links_valid : (b : Basin) (size : ℕ) (s : States) → size ≤ 2000 → IsMade b size s →
    All (λ l. IsValidLink b l) b.links
links_valid b size s bounded made =
    let len = made.nodes.count in
    all_links (λ l. IsValidLink b l) b size s made
    (λ i l. let to = node_after_within size 3 i (s.rivers i) (omega arith) (omega arith) in
    record {
      name = numbered_is_name 114 i refl (omega arith);
      ends = record { from = omega arith; to = omega arith };
      carry = tt;
    })
    (λ j l. let within = canal_within size j l in
    let to = node_after_within size 5 (4 * j + 1) (s.canals j) within (omega arith) in
    let small = drawn_below (next (s.canals j)) 20 (omega arith) in
    record {
      name = numbered_is_name 99 (4 * j + 1) refl (omega arith);
      ends = record { from = omega arith; to = omega arith };
      carry = (omega arith, refl);
    })

-- no canal is ever shut
pub open_canals : (b : Basin) (size : ℕ) (s : States) → IsMade b size s → All (λ l. IsAlwaysOpen l.carry) b.links
open_canals b size s made = all_links (λ l. IsAlwaysOpen l.carry) b size s made (λ i l. tt) (λ j l. refl)

-- only the last node is an outlet
pub outlet_is : (b : Basin) (size : ℕ) (s : States) → IsMade b size s → (v : ℕ) → v < size →
    is_outlet_in b.nodes v ≡ (v + 1 == size)
outlet_is b size s made v l =
    entry_is b.nodes size (λ i. node_at size i (s.nodes i)) made.nodes (λ n. n.outlet) false v l

pub inner : (b : Basin) (size : ℕ) (s : States) → IsMade b size s → (v : ℕ) → v + 1 < size →
    is_outlet_in b.nodes v ≡ false
inner b size s made v l = outlet_is b size s made v (omega arith) ∙ ne_eqb (v + 1) size (λ e. omega arith)

-- a walk along links that lead on ends after its start
pub walk_on : (size : ℕ) (links : List Link) → All (LeadsOn size) links → (k from to : ℕ) →
    walks links k from to ≡ true → from < to
unfolding walks
walk_on size links all zero from to h = cc
walk_on size links all (suc k) from to h = any (λ via. walk_on size links all k via to) links all h
  where
    step : ((via : ℕ) → walks links k via to ≡ true → via < to) → (l : Link) → LeadsOn size l →
        l.from == from && (l.to == to || walks links k l.to to) ≡ true → from < to
    step rest l on e = by (l.from == from) (l.to == to) (walks links k l.to to) refl refl refl e
      where
        by : (p q r : Bool) → (l.from == from) ≡ p → (l.to == to) ≡ q → walks links k l.to to ≡ r →
            p && (q || r) ≡ true → from < to
        by false q r a c d e = cc
        by true true r a c d e = let f = on.forward in let g = eqb-true l.from from a in let h = eqb-true l.to to c in
            omega arith
        by true false true a c d e = let f = on.forward in let g = eqb-true l.from from a in let h = rest l.to d in
            omega arith
        by true false false a c d e = cc

    any : ((via : ℕ) → walks links k via to ≡ true → via < to) → (ls : List Link) → All (LeadsOn size) ls →
        list_any (λ l. l.from == from && (l.to == to || walks links k l.to to)) ls ≡ true → from < to
    any rest [] each e = cc
    any rest (l ∷ ls) each e = elim (cases_Bool (l.from == from && (l.to == to || walks links k l.to to))) [
      | inl here ↦ step rest l (each 0 l (omega arith)) here
      | inr other ↦ any rest ls (λ n d m. each (suc n) d (omega arith)) (rw other at e)
    ]

pub network_sound : (b : Basin) (size : ℕ) (s : States) → IsMade b size s → IsSoundNetwork b.nodes b.links
network_sound b size s made =
    let len = made.nodes.count in
    let links = links_lead_on b size s made in record {
      outlets_end = λ e l. ends e (link_at e l) links;
      rivers = λ v l inner_node.
          let apart = eqb-false (v + 1) size (sym (outlet_is b size s made v (omega arith)) ∙ inner_node) in
          river v (omega arith);
      acyclic = λ v l. no_way v links;
    }
  where
    link_at : (e : ℕ) → e < length b.links → (x : Link) × (slice_get b.links e ≡ Some x)
    link_at e l = let len = made.links.count in (link_made size s e, made.links.at e (omega arith))

    ends : (e : ℕ) → (x : Link) × (slice_get b.links e ≡ Some x) → All (LeadsOn size) b.links →
        is_outlet_in b.nodes (tail_in b.links e) ≡ false
    ends e at links =
        let on = all_at (LeadsOn size) b.links e at.0 links at.1 in
        let tail : tail_in b.links e ≡ at.0.from = rw at.1 refl in
        rw tail (inner b size s made at.0.from on.from)

    river : (v : ℕ) → v + 1 < size → HasRiverOut b.links v
    river v l =
        let first : v < size - 1 = omega arith in
        let len = made.links.count in
        let at : slice_get b.links v ≡ Some (river_at size v (s.rivers v)) = made.links.at v (omega arith)
        ∙ ap (λ x. Some x)
        (joined_left (size - 1) (λ i. river_at size i (s.rivers i)) (λ j. canal_at size (4 * j + 1) (s.canals j)) v
        first) in
        record { link = v; in_range = omega arith; tail = rw at refl; river = rw at refl }

    no_way : (v : ℕ) → All (LeadsOn size) b.links → is_on_cycle b.nodes b.links v ≡ false
    no_way v links = elim (cases_Bool (walks b.links (length b.nodes) v v)) [
      | inl way ↦ absurd (let more = walk_on size b.links links (length b.nodes) v v way in omega arith)
      | inr none ↦ none
    ]

-- one letter and one number
pub letter_number : (a c m n : ℕ) → m < 2 ^ 64 → n < 2 ^ 64 → a ∷ decimal m ≡ c ∷ decimal n → (a ≡ c) × (m ≡ n)
letter_number a c m n small little e =
    let heads : a ≡ c = cc in let tails : decimal m ≡ decimal n = cc in
    (heads, decimal_injective m n small little tails)

pub nodes_own : (b : Basin) (size : ℕ) (s : States) → size ≤ 2000 → IsMade b size s →
    (i j : ℕ) → i < j → j < length b.nodes → of_entry b.nodes i (λ n. n.name) [] ≢ of_entry b.nodes j (λ n. n.name) []
nodes_own b size s bounded made =
    own_names b.nodes size (λ i. node_at size i (s.nodes i)) made.nodes (λ n. n.name) []
    (λ i j before within e. let same = letter_number 110 110 i j (omega arith) (omega arith) e in omega arith)

pub links_own : (b : Basin) (size : ℕ) (s : States) → size ≤ 2000 → IsMade b size s →
    (i j : ℕ) → i < j → j < length b.links → of_entry b.links i (λ l. l.name) [] ≢ of_entry b.links j (λ l. l.name) []
links_own b size s bounded made =
    own_names b.links (link_count size) (link_made size s) made.links (λ l. l.name) []
    (joined_pairs (λ l m. l.name ≡ m.name → ⊥) (size - 1) (count_of_canals size) (λ i. river_at size i (s.rivers i))
    (λ j. canal_at size (4 * j + 1) (s.canals j))
    (λ i j before within e. let same = letter_number 114 114 i j (omega arith) (omega arith) e in omega arith)
    (λ i j first l e. let within = canal_within size j l in
    let same = letter_number 114 99 i (4 * j + 1) (omega arith) (omega arith) e in omega arith)
    (λ i j before l e. let within = canal_within size j l in
    let same = letter_number 99 99 (4 * i + 1) (4 * j + 1) (omega arith) (omega arith) e in omega arith))

pub reservoirs_own : (b : Basin) (size : ℕ) (s : States) → IsMade b size s →
    (i j : ℕ) → i < j → j < length b.reservoirs →
    of_entry b.reservoirs i (λ v. Some v.node) None ≢ of_entry b.reservoirs j (λ v. Some v.node) None
reservoirs_own b size s made =
    own_names b.reservoirs (count_of_reservoirs size) (λ j. reservoir_at (40 * j + 20) (s.reservoirs j)) made.reservoirs
    (λ v. Some v.node) None
    (λ i j before within e. let same : 40 * i + 20 ≡ 40 * j + 20 = cc in omega arith)

pub reservoirs_valid : (b : Basin) (size : ℕ) (s : States) → IsMade b size s →
    All (λ v. IsValidReservoir b v) b.reservoirs
reservoirs_valid b size s made =
    let len = made.nodes.count in
    all_of (λ v. IsValidReservoir b v) b.reservoirs (count_of_reservoirs size)
    (λ j. reservoir_at (40 * j + 20) (s.reservoirs j)) made.reservoirs
    (λ j l.
    let within : 40 * j + 20 + 1 < size = omega arith in
    let opening = drawn_below (s.reservoirs j) 500 (omega arith) in
    let rate = drawn_below (next (s.reservoirs j)) 200 (omega arith) in record {
      node = omega arith;
      inner = inner b size s made (40 * j + 20) within;
      opening = omega arith;
      points = points;
      bounded_points = omega arith;
      table = (refl, (omega arith, omega arith, tt));
      rate = same_for_months 10000 (drawn (next (s.reservoirs j)) 200) (omega arith);
    })
  where
    points : All IsValidPoint (record { storage = 0; area = 0 } ∷ record { storage = 1000; area = 100 } ∷ [])
    points zero d l = record { storage = omega arith; area = omega arith }
    points (suc zero) d l = record { storage = omega arith; area = omega arith }
    points (suc (suc k)) d l = absurd (omega arith)
