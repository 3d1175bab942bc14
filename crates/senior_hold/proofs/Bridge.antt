-- A tight cut of a right's arc is a tight cut of the right, and the other way round.
use Rattle.std.proofs.Common.{◌≡◌, ℕ, ◌<◌, ◌≤◌, Bool, true, false, refl, sym, ◌∙◌, ap, subst, arith, List, length, inl}
use Rattle.std.proofs.Common.{inr}
use Rattle.std.proofs.lemmas.Bool.{cases_Bool, cases_lt}
use Rattle.std.proofs.lemmas.Bool.Decides.{nat_tests}
use Rattle.std.proofs.lemmas.List.FromFn.{get_or-map-range_with_len, length-map-range_with_len}
use Rattle.std.proofs.Math.ListN.{get_or-eq_default}
use Rattle.std.specs.Prelude.{◌==◌, slice_index, ◌&&◌, not, nat_lt, if◌then◌else◌, Option, Some, None, is_some}
use Rattle.finite_sums.specs.Sums.{total, total_where, when}
use Rattle.finite_sums.proofs.Totals.{total_same, total_zero}
use Rattle.water_model.specs.Basin.{tail_of, head_of, taking_node, instream_link, is_senior, is_on_link, is_at}
use Rattle.water_model.specs.Basin.{is_outlet}
use Rattle.water_model.specs.Cuts.{enters, leaves, takes_within, node_within, kept_on, cut_capacity, cut_kept}
use Rattle.water_model.specs.Cuts.{separates, IsCut, IsTight, IsReach}
use Rattle.water_text.specs.declared.month.Month.{Month}
use Rattle.water_model.specs.declared.types.Basin.{Basin}
use Rattle.water_model.proofs.Sets.{has_below, total_where_same}
use Rattle.water_model.proofs.Seniority.{not_senior_to_itself}
use Rattle.circulation.specs.Network.{Network, cut_in, cut_out, IsGreatestCut}
use Rattle.circulation.specs.Network as arc
use Rattle.senior_hold.specs.MonthNetwork.{takes, take_arc, out_arc, right_arc, arc_by_link, IsMonthNetwork}
use Rattle.senior_hold.specs.MonthNetwork.{KeepsForSeniors, list_of}
use Rattle.senior_hold.proofs.MonthArcs.{arcs_total, take_arc_apart, IsKind, on_link, at_node}
use Rattle.water_model.specs.Lookups.{has}
use Rattle.water_model.specs.Plans.{carry_of}

-- the outside node is in no set of nodes
pub outside_out : (cut : List Bool) (n : ℕ) → length cut ≤ n → has cut n ≡ false
outside_out cut n len = elim (cases_Bool (has cut n)) [
  | inl e ↦ absurd (let k = has_below cut n e in omega arith)
  | inr e ↦ e
]

not_in : (p q : Bool) → p ≡ false → p && q ≡ false
not_in p q h = grind (arith, nat_tests)

pub capacity_same : (b : Basin) (month : Month) (supply want : List ℕ) (w : Network) (cut : List Bool) →
    IsMonthNetwork b month supply want w → length cut ≡ length b.nodes →
    cut_in w (has cut) ≡ cut_capacity b (carry_of b month) supply cut
capacity_same b month supply want w cut net len =
    omega (
      arith,
      ap (λ n. total n entering) net.ends.arcs,
      arcs_total b entering,
      total_same (length b.links) entering (λ e. if enters b cut e then carry_of b month e else 0) links,
      total_zero (length b.rights) (λ r. if takes b r then entering (take_arc b r) else 0)
          (λ r l. none (takes b r) (take_arc b r) (net.ends.take_to r l)),
      total_zero (length b.nodes) (λ n. if is_outlet b n then entering (out_arc b n) else 0)
          (λ n l. none (is_outlet b n) (out_arc b n) (net.ends.out_to n l)),
      supplies,
    )
  where
    entering : ℕ → ℕ
    entering a = if arc.enters w (has cut) a then w.upper a else 0

    links : (e : ℕ) → e < length b.links → entering e ≡ (if enters b cut e then carry_of b month e else 0)
    links e l = rw (net.ends.link_to e l, net.ends.link_from e l, net.link_upper e l) refl

    none : (t : Bool) (a : ℕ) → (t ≡ true → w.to a ≡ length b.nodes) → (if t then entering a else 0) ≡ 0
    none false a h = refl
    none true a h = ap (λ t. if t then w.upper a else 0) (not_in (has cut (w.to a)) (not (has cut (w.from a)))
        (ap (has cut) (h refl) ∙ outside_out cut (length b.nodes) (omega arith)))

    supplies : total_where w.nodes (has cut) w.supply
        ≡ total_where (length b.nodes) (λ n. has cut n) (λ n. slice_index supply n)
    supplies = ap (λ k. total_where k (has cut) w.supply) net.ends.nodes
        ∙ total_where_same (length b.nodes) (λ n. has cut n) w.supply (λ n. slice_index supply n) net.supplies

-- what the arc of a right says of it
record Owns (b : Basin) (right a : ℕ) : Type 0 where
  link : (e : ℕ) → e < length b.links → e == a ≡ is_on_link b right e
  take : (r : ℕ) → takes b r ≡ true → take_arc b r == a ≡ true → r ≡ right

owns : (b : Basin) (right : ℕ) → IsKind b right → Owns b right (right_arc b right)
owns b right (on_link e l i t) =
    subst (Owns b right) (sym (ap (arc_by_link b right) i)) record {
      link = λ f k. swap_test f e ∙ sym (ap (λ o. is_at o f) i);
      take = λ r h s. absurd (apart (take_arc b r) e (length b.links) l (omega arith) s);
    }
  where
    swap_test : (x y : ℕ) → x == y ≡ y == x
    swap_test x y = grind (arith, nat_tests)

    apart : (x e n : ℕ) → e < n → n ≤ x → x == e ≡ true → ⊥
    apart x e n l m s = grind (arith, nat_tests)
owns b right (at_node v l i t) =
    subst (Owns b right) (sym (ap (arc_by_link b right) i)) record {
      link = λ f k. apart f (take_arc b right) (length b.links) k (omega arith) ∙ sym (ap (λ o. is_at o f) i);
      take = λ r h s. take_arc_apart b r right h (ap is_some t) (same (take_arc b r) (take_arc b right) s);
    }
  where
    apart : (f x n : ℕ) → f < n → n ≤ x → f == x ≡ false
    apart f x n l m = grind (arith, nat_tests)

    same : (x y : ℕ) → x == y ≡ true → x ≡ y
    same x y h = grind (arith, nat_tests)

pub kept_same : (b : Basin) (month : Month) (supply want delivered : List ℕ) (w : Network) (right : ℕ)
    (cut : List Bool) → IsMonthNetwork b month supply want w → KeepsForSeniors b delivered (λ s. is_senior b s right)
    w →
    IsKind b right → length cut ≡ length b.nodes → cut_out w (right_arc b right)
    (has cut) ≡ cut_kept b delivered right cut
kept_same b month supply want delivered w right cut net holds kind len =
    omega (
      arith,
      ap (λ n. total n leaving) net.ends.arcs,
      arcs_total b leaving,
      total_same (length b.links) leaving
          (λ e. if leaves b cut e && not (is_on_link b right e) then kept_on b delivered right e else 0) links,
      total_same (length b.rights) (λ r. if takes b r then leaving (take_arc b r) else 0)
          (λ s. if takes_within b cut s && is_senior b s right then slice_index delivered s else 0)
          (λ r l. at_take r (taking_node b r) (net.ends.take_from r l) (net.ends.take_to r l) (holds.on_takes r l)
          (own.take r)),
      total_zero (length b.nodes) (λ n. if is_outlet b n then leaving (out_arc b n) else 0)
          (λ n l. none (is_outlet b n) (out_arc b n) (holds.on_outs n l)),
    )
  where
    own : Owns b right (right_arc b right)
    own = owns b right kind

    leaving : ℕ → ℕ
    leaving a = if arc.leaves w (has cut) a && not (a == right_arc b right) then w.lower a else 0

    links : (e : ℕ) → e < length b.links →
        leaving e ≡ (if leaves b cut e && not (is_on_link b right e) then kept_on b delivered right e else 0)
    links e l = rw (net.ends.link_to e l, net.ends.link_from e l, own.link e l, holds.on_links e l) refl

    at_zero : (t : Bool) (x : ℕ) → x ≡ 0 → (if t then x else 0) ≡ 0
    at_zero true x e = e
    at_zero false x e = refl

    none : (t : Bool) (a : ℕ) → (t ≡ true → w.lower a ≡ 0) → (if t then leaving a else 0) ≡ 0
    none false a h = refl
    none true a h = at_zero (arc.leaves w (has cut) a && not (a == right_arc b right)) (w.lower a) (h refl)

    one : (t h a i s : Bool) (x y : ℕ) → h ≡ false → i ≡ t → y ≡ (if s then x else 0) → (a ≡ true → s ≡ false) →
        (if (t && not h) && not a then y else 0) ≡ (if i && s then x else 0)
    one t h a i s x y e f m n = grind (arith, nat_tests)

    at_take : (r : ℕ) (o : Option ℕ) → (is_some o ≡ true → o ≡ Some (w.from (take_arc b r))) →
        (is_some o ≡ true → w.to (take_arc b r) ≡ length b.nodes) →
        (is_some o ≡ true → w.lower (take_arc b r) ≡ when (is_senior b r right) (slice_index delivered r)) →
        (is_some o ≡ true → take_arc b r == right_arc b right ≡ true → r ≡ right) →
        (if is_some o then leaving (take_arc b r) else 0)
        ≡ (if node_within o cut && is_senior b r right then slice_index delivered r else 0)
    at_take r None f t h n = refl
    at_take r (Some u) f t h n =
        one (has cut (w.from (take_arc b r))) (has cut (w.to (take_arc b r))) (take_arc b r == right_arc b right)
        (has cut u) (is_senior b r right) (slice_index delivered r) (w.lower (take_arc b r))
        (ap (has cut) (t refl) ∙ outside_out cut (length b.nodes) (omega arith))
        (ap (λ o. node_within o cut) (f refl)) (h refl)
        (λ e. ap (λ s. is_senior b s right) (n refl e) ∙ not_senior_to_itself b right)

both : (p q : Bool) → p && q ≡ true → (p ≡ true) × (q ≡ true)
both p q h = grind (arith, nat_tests)

not_true : (p : Bool) → not p ≡ true → p ≡ false
not_true p h = grind (arith, nat_tests)

-- a cut of a right is a cut of its arc
pub right_cut : (b : Basin) (month : Month) (supply want : List ℕ) (w : Network) (right : ℕ) (cut : List Bool) →
    IsMonthNetwork b month supply want w → right < length b.rights → IsKind b right → IsCut b right cut →
    arc.IsCut w (right_arc b right) (has cut)
right_cut b month supply want w right cut net k (on_link e l i t) is =
    subst (λ a. arc.IsCut w a (has cut)) (sym (ap (arc_by_link b right) i)) record {
      basin = λ v h. outside_out cut v (let len = is.one_each in let n = net.ends.nodes in omega arith);
      tail = ap (has cut) (net.ends.link_from e l) ∙ parts.0;
      head = ap (has cut) (net.ends.link_to e l) ∙ not_true _ parts.1;
    }
  where
    apart : separates b (taking_node b right) (Some e) cut ≡ true
    apart = subst (λ o. separates b (taking_node b right) o cut ≡ true) i is.separates

    parts : (has cut (tail_of b e) ≡ true) × (not (has cut (head_of b e)) ≡ true)
    parts = both (has cut (tail_of b e)) (not (has cut (head_of b e)))
        (both (nat_lt e (length b.links)) (leaves b cut e) apart).1
right_cut b month supply want w right cut net k (at_node v l i t) is =
    subst (λ a. arc.IsCut w a (has cut)) (sym (ap (arc_by_link b right) i)) record {
      basin = λ v h. outside_out cut v (let len = is.one_each in let n = net.ends.nodes in omega arith);
      tail = sym (ap (λ o. node_within o cut) (net.ends.take_from right k (ap is_some t))) ∙ apart;
      head = ap (has cut) (net.ends.take_to right k (ap is_some t))
          ∙ outside_out cut (length b.nodes) (let len = is.one_each in omega arith);
    }
  where
    apart : separates b (taking_node b right) None cut ≡ true
    apart = subst (λ o. separates b (taking_node b right) o cut ≡ true) i is.separates

-- a cut of a right's arc is a cut of the right
pub arc_cut : (b : Basin) (month : Month) (supply want : List ℕ) (w : Network) (right : ℕ) (cut : List Bool) →
    IsMonthNetwork b month supply want w → right < length b.rights → IsKind b right → length cut ≡ length b.nodes →
    arc.IsCut w (right_arc b right) (has cut) → IsCut b right cut
arc_cut b month supply want w right cut net k kind len is = record { one_each = len; separates = apart kind }
  where
    two : (p q : Bool) → p ≡ true → q ≡ false → p && not q ≡ true
    two p q h i = grind (arith, nat_tests)

    all : (p q : Bool) → p ≡ true → q ≡ true → p && q ≡ true
    all p q h i = grind (arith, nat_tests)

    inside : (x y : ℕ) → x < y → nat_lt x y ≡ true
    inside x y h = grind (arith, nat_tests)

    apart : IsKind b right → separates b (taking_node b right) (instream_link b right) cut ≡ true
    apart (on_link e l i t) = subst (λ o. separates b (taking_node b right) o cut ≡ true) (sym i) (
        all (nat_lt e (length b.links)) (leaves b cut e) (inside e (length b.links) l)
        (two (has cut (tail_of b e)) (has cut (head_of b e))
        (ap (has cut) (sym (net.ends.link_from e l) ∙ sym (ap w.from (ap (arc_by_link b right) i))) ∙ is.tail)
        (ap (has cut) (sym (net.ends.link_to e l) ∙ sym (ap w.to (ap (arc_by_link b right) i))) ∙ is.head)))
    apart (at_node v l i t) = subst (λ o. separates b (taking_node b right) o cut ≡ true) (sym i)
        (ap (λ o. node_within o cut) (net.ends.take_from right k (ap is_some t))
        ∙ ap (λ a. has cut (w.from a)) (sym (ap (arc_by_link b right) i)) ∙ is.tail)

-- tight cuts of a right and of its arc are the same
pub arc_tight : (b : Basin) (month : Month) (supply want delivered : List ℕ) (w : Network) (g : ℕ → ℕ) (right : ℕ)
    (cut : List Bool) → IsMonthNetwork b month supply want w → KeepsForSeniors b delivered (λ s. is_senior b s right)
    w →
    right < length b.rights → IsKind b right → g (right_arc b right) ≡ slice_index delivered right →
    length cut ≡ length b.nodes → arc.IsTight w g (right_arc b right) (has cut) →
    IsTight b month supply delivered right cut
arc_tight b month supply want delivered w g right cut net holds k kind gets len tight = record {
  is_cut = arc_cut b month supply want w right cut net k kind len tight.cut;
  tight = (let e = tight.equal in
      omega (
        arith,
        capacity_same b month supply want w cut net len,
        kept_same b month supply want delivered w right cut net holds kind len,
      ));
}

pub right_tight : (b : Basin) (month : Month) (supply want delivered : List ℕ) (w : Network) (g : ℕ → ℕ) (right : ℕ)
    (cut : List Bool) → IsMonthNetwork b month supply want w → KeepsForSeniors b delivered (λ s. is_senior b s right)
    w →
    right < length b.rights → IsKind b right → g (right_arc b right) ≡ slice_index delivered right →
    IsTight b month supply delivered right cut → arc.IsTight w g (right_arc b right) (has cut)
right_tight b month supply want delivered w g right cut net holds k kind gets tight = record {
  cut = right_cut b month supply want w right cut net k kind tight.is_cut;
  equal = (let e = tight.tight in
      omega (
        arith,
        capacity_same b month supply want w cut net tight.is_cut.one_each,
        kept_same b month supply want delivered w right cut net holds kind tight.is_cut.one_each,
      ));
}

-- the greatest tight cut of a right's arc is the right's reach
pub greatest_reach : (b : Basin) (month : Month) (supply want delivered : List ℕ) (w : Network) (g : ℕ → ℕ) (right : ℕ)
    (cut : List Bool) → IsMonthNetwork b month supply want w → KeepsForSeniors b delivered (λ s. is_senior b s right)
    w →
    right < length b.rights → IsKind b right → g (right_arc b right) ≡ slice_index delivered right →
    length cut ≡ length b.nodes → IsGreatestCut w g (right_arc b right) (has cut) →
    IsReach b month supply delivered right cut
greatest_reach b month supply want delivered w g right cut net holds k kind gets len greatest = record {
  is_tight = arc_tight b month supply want delivered w g right cut net holds k kind gets len greatest.tight;
  contains = λ other tight n h.
      greatest.greatest (has other)
      (right_tight b month supply want delivered w g right other net holds k kind gets tight) n h;
}
