-- The arcs of a month's network, and sums over them.
use Rattle.std.proofs.Common.{◌≡◌, ℕ, ◌+◌, ◌<◌, Bool, true, false, refl, sym, ◌∙◌, ap, arith, length, inl, inr}
use Rattle.std.proofs.lemmas.Bool.{cases_lt}
use Rattle.std.proofs.lemmas.Bool.Decides.{nat_tests}
use Rattle.std.specs.Prelude.{◌==◌, Option, Some, None, is_some, if◌then◌else◌, ◌-◌, unwrap_or, option_map}
use Rattle.finite_sums.specs.Sums.{total, total_where, when}
use Rattle.finite_sums.proofs.Totals.{total_append, total_counted, count_less, count_apart, index_counted, total_same}
use Rattle.finite_sums.proofs.Totals.{total_zero, total_pick}
use Rattle.water_model.specs.Basin.{tail_of, head_of, is_outlet, taking_node, taking_node_of_kind, instream_link}
use Rattle.water_model.specs.Basin.{link_of_kind, is_at, takes_at}
use Rattle.water_model.specs.Valid.{IsValidBasin, IsValidReservoir, HasValidSite}
use Rattle.water_model.specs.declared.types.Basin.{Basin}
use Rattle.water_model.specs.declared.types.RightKind.{RightKind}
use Rattle.water_model.specs.declared.types.RightKind.TheVariants.{Diversion, Instream, Zone}
use Rattle.water_model.proofs.Valid.{kind_is, KindIs, entry_holds}
use Rattle.circulation.specs.Network.{Network, inflow, outflow}
use Rattle.senior_hold.specs.MonthNetwork.{takes, taker_count, outlet_count, arc_count, take_arc, out_arc, HasBasinEnds}

-- a sum over a month's arcs
pub arcs_total : (b : Basin) (f : ℕ → ℕ) →
    total (arc_count b) f ≡ total (length b.links) f
    + (total_where (length b.rights) (λ r. takes b r) (λ r. f (take_arc b r))
    + total_where (length b.nodes) (λ n. is_outlet b n) (λ n. f (out_arc b n)))
arcs_total b f =
    omega (
      arith,
      total_append (length b.links) (taker_count b + outlet_count b) f,
      total_append (taker_count b) (outlet_count b) (λ k. f (length b.links + k)),
      total_counted (length b.rights) (length b.links) (λ r. takes b r) f,
      total_counted (length b.nodes) (taker_count b) (λ n. is_outlet b n) (λ k. f (length b.links + k)),
    )

pub take_arc_below : (b : Basin) (r : ℕ) → r < length b.rights → takes b r ≡ true →
    take_arc b r < length b.links + taker_count b
take_arc_below b r l h = omega (arith, count_less r (length b.rights) (λ r. takes b r) l h)

pub out_arc_below : (b : Basin) (n : ℕ) → n < length b.nodes → is_outlet b n ≡ true → out_arc b n < arc_count b
out_arc_below b n l h = omega (arith, count_less n (length b.nodes) (λ n. is_outlet b n) l h)

pub take_arc_apart : (b : Basin) (r s : ℕ) → takes b r ≡ true → takes b s ≡ true → take_arc b r ≡ take_arc b s → r ≡ s
take_arc_apart b r s h i e = count_apart r s (λ r. takes b r) h i (omega arith)

-- what an arc is
pub data IsArc (b : Basin) (a : ℕ) : Type 0 where
  is_link : a < length b.links → IsArc b a
  is_take : (r : ℕ) → r < length b.rights → takes b r ≡ true → take_arc b r ≡ a → IsArc b a
  is_out : (n : ℕ) → n < length b.nodes → is_outlet b n ≡ true → out_arc b n ≡ a → IsArc b a

pub arc_is : (b : Basin) (a : ℕ) → a < arc_count b → IsArc b a
arc_is b a l = elim (cases_lt a (length b.links)) [
  | inl link ↦ is_link link
  | inr above ↦ elim (cases_lt a (length b.links + taker_count b)) [
    | inl take ↦ (let c = index_counted (length b.rights) (a - length b.links) (λ r. takes b r) (omega arith) in
        let number = c.number in
        is_take c.place c.below c.passes (omega arith))
    | inr out ↦ (let c = index_counted (length b.nodes) (a - (length b.links + taker_count b)) (λ n. is_outlet b n)
        (omega arith) in
        let number = c.number in
        is_out c.place c.below c.passes (omega arith))
  ]
]

-- what a right is: it is on a link, or takes at a node
pub data IsKind (b : Basin) (r : ℕ) : Type 0 where
  on_link : (e : ℕ) → e < length b.links → instream_link b r ≡ Some e → taking_node b r ≡ None → IsKind b r
  at_node : (v : ℕ) → v < length b.nodes → instream_link b r ≡ None → taking_node b r ≡ Some v → IsKind b r

pub right_kind : (b : Basin) → IsValidBasin b → (r : ℕ) → r < length b.rights → IsKind b r
right_kind b valid r l = of_kind k.kind k.link k.node k.site
  where
    k : KindIs b r
    k = kind_is b valid r l

    of_kind : (kind : RightKind) → instream_link b r ≡ link_of_kind kind →
        taking_node b r ≡ taking_node_of_kind b kind → HasValidSite b kind → IsKind b r
    of_kind (Diversion node) i t h = at_node node h i t
    of_kind (Instream link) i t h = on_link link h i t
    of_kind (Zone reservoir level) i t h =
        let entry = entry_holds (λ v. IsValidReservoir b v) b.reservoirs reservoir valid.reservoirs h.0 in
        at_node entry.0.node entry.2.node i (t ∙ ap (λ o. unwrap_or (option_map (λ x. Some x.node) o) None) entry.1)

-- what each right is
abbrev pub AreKinds : Basin → Type 0
AreKinds b = (r : ℕ) → r < length b.rights → IsKind b r

when_none : (t : Bool) (x : ℕ) → t ≡ false → (if t then x else 0) ≡ 0
when_none t x h = rw h refl

not_itself : (m n : ℕ) → n < m → m == n ≡ false
not_itself m n l = grind (arith, nat_tests)

-- what the arcs that enter a node bring
pub node_inflow : (b : Basin) (w : Network) (g : ℕ → ℕ) (v : ℕ) → HasBasinEnds b w → v < length b.nodes →
    inflow w g v ≡ total_where (length b.links) (λ e. head_of b e == v) g
node_inflow b w g v ends l =
    omega (
      arith,
      ap (λ n. total n f) ends.arcs,
      arcs_total b f,
      total_same (length b.links) f (λ e. if head_of b e == v then g e else 0)
          (λ e k. ap (λ n. if n == v then g e else 0) (ends.link_to e k)),
      total_zero (length b.rights) (λ r. if takes b r then f (take_arc b r) else 0)
          (λ r k. none (takes b r) (take_arc b r) (ends.take_to r k)),
      total_zero (length b.nodes) (λ n. if is_outlet b n then f (out_arc b n) else 0)
          (λ n k. none (is_outlet b n) (out_arc b n) (ends.out_to n k)),
    )
  where
    f : ℕ → ℕ
    f a = if w.to a == v then g a else 0

    none : (t : Bool) (a : ℕ) → (t ≡ true → w.to a ≡ length b.nodes) → (if t then f a else 0) ≡ 0
    none false a h = refl
    none true a h = when_none (w.to a == v) (g a) (ap (λ n. n == v) (h refl) ∙ not_itself (length b.nodes) v l)

-- what the arcs that leave a node carry
pub node_outflow : (b : Basin) (w : Network) (g : ℕ → ℕ) (v : ℕ) → HasBasinEnds b w → v < length b.nodes →
    outflow w g v ≡ total_where (length b.links) (λ e. tail_of b e == v) g
    + total_where (length b.rights) (λ r. takes_at b r v) (λ r. when (takes b r) (g (take_arc b r)))
    + when (is_outlet b v) (g (out_arc b v))
node_outflow b w g v ends l =
    omega (
      arith,
      ap (λ n. total n f) ends.arcs,
      arcs_total b f,
      total_same (length b.links) f (λ e. if tail_of b e == v then g e else 0)
          (λ e k. ap (λ n. if n == v then g e else 0) (ends.link_from e k)),
      total_same (length b.rights) (λ r. if takes b r then f (take_arc b r) else 0)
          (λ r. if takes_at b r v then (if takes b r then g (take_arc b r) else 0) else 0)
          (λ r k. at_take (taking_node b r) (take_arc b r) (ends.take_from r k)),
      total_pick (length b.nodes) v (λ n. if is_outlet b n then f (out_arc b n) else 0) l
          (λ n k ne. other (is_outlet b n) n (out_arc b n) (ends.out_from n k) ne),
      here (is_outlet b v) (out_arc b v) (ends.out_from v l),
    )
  where
    f : ℕ → ℕ
    f a = if w.from a == v then g a else 0

    at_take : (o : Option ℕ) (a : ℕ) → (is_some o ≡ true → o ≡ Some (w.from a)) →
        (if is_some o then f a else 0) ≡ (if is_at o v then (if is_some o then g a else 0) else 0)
    at_take None a h = refl
    at_take (Some u) a h = let e : Some u ≡ Some (w.from a) = h refl in let same : u ≡ w.from a = cc in
        ap (λ n. if n == v then g a else 0) (sym same)

    differs : (n v : ℕ) → (n ≡ v → ⊥) → n == v ≡ false
    differs n v ne = grind (arith, nat_tests)

    other : (t : Bool) (n a : ℕ) → (t ≡ true → w.from a ≡ n) → (n ≡ v → ⊥) → (if t then f a else 0) ≡ 0
    other false n a h ne = refl
    other true n a h ne = when_none (w.from a == v) (g a) (ap (λ m. m == v) (h refl) ∙ differs n v ne)

    same_test : (v : ℕ) → v == v ≡ true
    same_test v = grind (arith, nat_tests)

    here : (t : Bool) (a : ℕ) → (t ≡ true → w.from a ≡ v) → (if t then f a else 0) ≡ (if t then g a else 0)
    here false a h = refl
    here true a h = ap (λ t. if t then g a else 0) (ap (λ m. m == v) (h refl) ∙ same_test v)
