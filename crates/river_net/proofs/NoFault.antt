-- A network is sound exactly where it has no fault.
use Rattle.std.proofs.Common.{◌≡◌, ℕ, Bool, true, false, refl, sym, ◌∙◌, ap, subst, arith, List, length, inl, inr, cond}
use Rattle.std.proofs.lemmas.Bool.{cases_Bool, and_parts, and_from, and_left, and_right, false_from_ne_true, false≢true}
use Rattle.std.proofs.lemmas.Bool.{eqb-true, eq-eqb, ltb-true, not_from_true, not_from_false}
use Rattle.std.proofs.lemmas.List.Sums.{passes_at_first}
use Rattle.std.proofs.lemmas.Option.{get_or_from_slice_get, slice_get_within}
use Rattle.std.specs.Prelude.{◌==◌, ◌&&◌, not, nat_lt, Option, Some, None, All, option_map, unwrap_or, slice_get}
use Rattle.std.specs.Prelude.{position}
use Rattle.std.specs.List.{list_any, position_or_len}
use Rattle.std.specs.Option.{option_or}
use Rattle.water_text.proofs.Splits.{none_passes}
use Rattle.water_model.proofs.Lists.{all_at}
use Rattle.water_model.proofs.Valid.{entry_at}
use Rattle.water_model.specs.Network.{walks, tail_in, head_in, is_river_in, is_river_kind, is_outlet_in, is_on_cycle}
use Rattle.water_model.specs.Network.{HasNodes, HasRiverOut, IsSoundNetwork}
use Rattle.water_model.specs.declared.types.Link.{Link}
use Rattle.water_model.specs.declared.types.Node.{Node}
use Rattle.river_net.specs.NetFaults.{is_self_link, leaves_outlet, lacks_river, first_self_link, first_from_outlet}
use Rattle.river_net.specs.NetFaults.{first_without_river, first_on_cycle, net_fault}
use Rattle.river_net.specs.declared.refused.NetRefused.{NetRefused}
use Rattle.river_net.specs.declared.refused.NetRefused.TheVariants.{SelfLink, LinkFromOutlet, NoRiver, DirectedCycle}
use Rattle.river_net.proofs.Entries.{ends_in, tail_is, head_is}
use Rattle.water_model.proofs.Finds.{find_none, none_found}
use Rattle.river_net.proofs.Walks.{any_index, index_any, walk_one, walk_within}

-- where no entry passes, no index is found
all_fail : {X : Type 0} (p : X → Bool) (xs : List X) → ((k : ℕ) (x : X) → slice_get xs k ≡ Some x → p x ≡ false) →
    position p xs ≡ None
all_fail {X} p xs fails = elim (cases_Bool (nat_lt (position_or_len p xs) (length xs))) [
  | inr past ↦ ap (λ t. cond t (Some (position_or_len p xs)) None) past
  | inl some ↦ (let entry = entry_at xs (position_or_len p xs) (ltb-true (position_or_len p xs) (length xs) some) in
      absurd (false≢true (sym (fails (position_or_len p xs) entry.0 entry.1)
      ∙ (ap p (sym (get_or_from_slice_get xs (position_or_len p xs) entry.0 entry.0 entry.1))
      ∙ passes_at_first p xs entry.0 (ltb-true (position_or_len p xs) (length xs) some)))))
]

-- whether a link is a river
river_is : (links : List Link) (k : ℕ) (x : Link) → slice_get links k ≡ Some x →
    is_river_in links k ≡ is_river_kind x.carry
river_is links k x at = ap (λ o. unwrap_or (option_map (λ (l : Link). is_river_kind l.carry) o) false) at

-- whether a river leaves a node, over entries and over indices
abbrev pub has_river : List Link → ℕ → Bool
has_river links node = list_any (λ l. l.from == node && is_river_kind l.carry) links

-- a river that leaves a node, from the test over entries
pub river_found : (links : List Link) (node : ℕ) → has_river links node ≡ true → HasRiverOut links node
river_found links node h =
    let at = any_index (λ l. l.from == node && is_river_kind l.carry) links h in
    let parts = and_parts (at.1.from == node) (is_river_kind at.1.carry) at.3 in record {
      link = at.0;
      in_range = slice_get_within links at.0 at.1 at.2;
      tail = tail_is links at.0 at.1 at.2 ∙ eqb-true at.1.from node parts.0;
      river = river_is links at.0 at.1 at.2 ∙ parts.1;
    }

-- and back
pub found_river : (links : List Link) (node : ℕ) → HasRiverOut links node → has_river links node ≡ true
found_river links node out =
    let at = entry_at links out.link out.in_range in
    index_any (λ l. l.from == node && is_river_kind l.carry) links out.link at.0 at.1
    (and_from (at.0.from == node) (is_river_kind at.0.carry)
    (eq-eqb at.0.from node (sym (tail_is links out.link at.0 at.1) ∙ out.tail))
    (sym (river_is links out.link at.0 at.1) ∙ out.river))

-- the first fault of a network, by the parts of its chain
abbrev chain : Option ℕ → Option ℕ → Option ℕ → Option ℕ → Option NetRefused
chain one two three four =
    option_or (option_map SelfLink one)
    (option_or (option_map LinkFromOutlet two) (option_or (option_map NoRiver three) (option_map DirectedCycle four)))

-- the first fault is that of the first part of the chain that has one
pub fault_is : (nodes : List Node) (links : List Link) (one two three four : Option ℕ) → first_self_link links ≡ one →
    first_from_outlet nodes links ≡ two → first_without_river nodes links ≡ three → first_on_cycle nodes links ≡ four →
    net_fault nodes links ≡ chain one two three four
unfolding net_fault
fault_is nodes links one two three four a b c d = rw a (rw b (rw c (rw d refl)))

-- a chain is empty where its parts are
no_chain : (one two three four : Option ℕ) → chain one two three four ≡ None → (one ≡ None) × (two ≡ None) ×
    (three ≡ None) × (four ≡ None)
no_chain None None None None h = (refl, refl, refl, refl)
no_chain (Some x) two three four h = cc
no_chain None (Some x) three four h = cc
no_chain None None (Some x) four h = cc
no_chain None None None (Some x) h = cc

-- a network without a fault is sound
pub faultless_sound : (nodes : List Node) (links : List Link) → net_fault nodes links ≡ None →
    IsSoundNetwork nodes links
unfolding net_fault first_without_river first_on_cycle
faultless_sound nodes links h = record {
  outlets_end = λ e l. (let at = entry_at links e l in
      ap (is_outlet_in nodes) (tail_is links e at.0 at.1)
      ∙ all_at (λ l. leaves_outlet nodes l ≡ false) links e at.0
      (none_passes (leaves_outlet nodes) links parts.1) at.1);
  rivers = λ v l inner. river_found links v (elim (cases_Bool (has_river links v)) [
    | inl some ↦ some
    | inr none ↦
        absurd (false≢true (sym (none_found (lacks_river nodes links) 0 (length nodes) parts.2 v
        (omega arith) (omega arith))
        ∙ and_from (not (is_outlet_in nodes v)) (not (has_river links v)) (not_from_false (is_outlet_in nodes v) inner)
        (not_from_false (has_river links v) none)))
  ]);
  acyclic = λ v l. none_found (is_on_cycle nodes links) 0 (length nodes) parts.3 v (omega arith) (omega arith);
}
  where
    parts : (first_self_link links ≡ None) × (first_from_outlet nodes links ≡ None) ×
        (first_without_river nodes links ≡ None) × (first_on_cycle nodes links ≡ None)
    parts = no_chain _ _ _ _ h

-- a sound network, whose links lead between its nodes, has no fault
pub sound_faultless : (nodes : List Node) (links : List Link) → All (λ l. HasNodes nodes l) links →
    IsSoundNetwork nodes links → net_fault nodes links ≡ None
unfolding first_without_river first_on_cycle
sound_faultless nodes links ends sound = fault_is nodes links None None None None (all_fail is_self_link links
    (λ k x at. false_from_ne_true (is_self_link x) (λ self. turns k x at (eqb-true x.from x.to self))))
    (all_fail (leaves_outlet nodes) links (λ k x at. ap (is_outlet_in nodes) (sym (tail_is links k x at))
    ∙ sound.outlets_end k (slice_get_within links k x at)))
    (find_none (lacks_river nodes links) 0 (length nodes) (λ v _ l. elim (cases_Bool (is_outlet_in nodes v)) [
      | inl outlet ↦
          and_left (not (is_outlet_in nodes v)) (not (has_river links v)) (not_from_true (is_outlet_in nodes v) outlet)
      | inr inner ↦
          and_right (not (is_outlet_in nodes v)) (not (has_river links v))
          (not_from_true (has_river links v) (found_river links v (sound.rivers v (omega arith) inner)))
    ])) (find_none (is_on_cycle nodes links) 0 (length nodes) (λ v _ l. sound.acyclic v (omega arith)))
  where
    turns : (k : ℕ) (x : Link) → slice_get links k ≡ Some x → x.from ≡ x.to → ⊥
    turns k x at same =
        let l = slice_get_within links k x at in
        let inside = (ends_in nodes links ends k l).0 in
        let back : head_in links k ≡ tail_in links k = head_is links k x at ∙ sym (tail_is links k x at ∙ same) in
        false≢true (sym (sound.acyclic (tail_in links k) inside)
        ∙ walk_within links 1 (length nodes) (tail_in links k) (tail_in links k) (omega arith)
        (subst (λ v. walks links 1 (tail_in links k) v ≡ true) back (walk_one links 0 k l)))
