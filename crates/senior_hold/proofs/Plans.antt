-- The plan of a flow, and the flow of a plan.
use Rattle.std.proofs.Common.{◌≡◌, ℕ, ◌+◌, ◌<◌, ◌≤◌, Bool, true, false, refl, sym, ◌∙◌, ap, subst, arith, List, length}
use Rattle.std.proofs.lemmas.List.FromFn.{get_or-map-range_with_len, length-map-range_with_len}
use Rattle.std.specs.Prelude.{◌==◌, slice_index, Option, Some, None, is_some, min}
use Rattle.finite_sums.specs.Sums.{when}
use Rattle.water_model.specs.Basin.{tail_of, head_of, is_outlet, taking_node, takes_at}
use Rattle.water_text.specs.declared.month.Month.{Month}
use Rattle.water_model.specs.declared.types.Basin.{Basin}
use Rattle.water_model.specs.declared.types.Plan.{Plan}
use Rattle.water_model.proofs.Sets.{total_where_same}
use Rattle.circulation.specs.Network.{Network, IsFlow, inflow, outflow}
use Rattle.senior_hold.specs.MonthNetwork.{takes, take_arc, out_arc, right_arc, arc_by_link, arc_count, IsMonthNetwork}
use Rattle.senior_hold.specs.MonthNetwork.{plan_of, list_of}
use Rattle.senior_hold.proofs.MonthArcs.{IsKind, on_link, at_node, IsArc, is_link, is_take, is_out, arc_is}
use Rattle.senior_hold.proofs.MonthArcs.{take_arc_below, node_inflow, node_outflow}
use Rattle.water_model.specs.Plans.{IsPlan, delivery, delivery_by_link}
use Rattle.senior_hold.specs.Solved.{AreWants}
use Rattle.senior_hold.proofs.Swept.{delivered_by}

pub list_get : (n : ℕ) (f : ℕ → ℕ) (k : ℕ) → k < n → slice_index (list_of n f) k ≡ f k
list_get n f k l = get_or-map-range_with_len f 0 n k k 0 l (omega arith)

pub list_len : {X : Type 0} (n : ℕ) (f : ℕ → X) → length (list_of n f) ≡ n
list_len n f = length-map-range_with_len f 0 n

when_off : (t : Bool) (x : ℕ) → t ≡ false → when t x ≡ 0
when_off t x h = ap (λ t. when t x) h

when_le : (t : Bool) (x y : ℕ) → (t ≡ true → x ≤ y) → when t x ≤ y
when_le true x y h = h refl
when_le false x y h = omega arith

-- the plan of a flow is a plan of the month
pub plan_is : (b : Basin) (month : Month) (supply want : List ℕ) (w : Network) (g : ℕ → ℕ) →
    IsMonthNetwork b month supply want w → IsFlow w g → IsPlan b month supply want (plan_of b g)
plan_is b month supply want w g net flow = record {
  flow_len = list_len (length b.links) g;
  take_len = list_len (length b.rights) took;
  out_len = list_len (length b.nodes) gone;
  carries = λ e l. (let at = list_get (length b.links) g e l in let up = net.link_upper e l in
      let high = flow.high e (link_in e l) in omega arith);
  wants = λ r l. (let at = list_get (length b.rights) took r l in
      let le = when_le (takes b r) (g (take_arc b r)) (slice_index want r)
      (λ h. let up = net.take_upper r l h in let high = flow.high (take_arc b r) (take_in r l h) in omega arith) in
      omega arith);
  instream = λ r l h. list_get (length b.rights) took r l ∙ when_off (takes b r) (g (take_arc b r)) (ap is_some h);
  outlets = λ n l h. list_get (length b.nodes) gone n l ∙ when_off (is_outlet b n) (g (out_arc b n)) h;
  balance = λ v l. omega (
    arith,
    net.supplies v l,
    flow.balanced v (let n = net.ends.nodes in omega arith),
    node_inflow b w g v net.ends l,
    node_outflow b w g v net.ends l,
    total_where_same (length b.links) (λ e. head_of b e == v) (λ e. slice_index (list_of (length b.links) g) e) g
        (list_get (length b.links) g),
    total_where_same (length b.links) (λ e. tail_of b e == v) (λ e. slice_index (list_of (length b.links) g) e) g
        (list_get (length b.links) g),
    total_where_same (length b.rights) (λ r. takes_at b r v) (λ r. slice_index (list_of (length b.rights) took) r) took
        (list_get (length b.rights) took),
    list_get (length b.nodes) gone v l,
  );
}
  where
    took : ℕ → ℕ
    took r = when (takes b r) (g (take_arc b r))

    gone : ℕ → ℕ
    gone n = when (is_outlet b n) (g (out_arc b n))

    link_in : (e : ℕ) → e < length b.links → e < w.arcs
    link_in e l = let n = net.ends.arcs in omega arith

    take_in : (r : ℕ) → r < length b.rights → takes b r ≡ true → take_arc b r < w.arcs
    take_in r l h = let n = net.ends.arcs in omega (arith, take_arc_below b r l h)

pub right_arc_in : (b : Basin) (r : ℕ) → r < length b.rights → IsKind b r → right_arc b r < arc_count b
right_arc_in b r l (on_link e k i t) = let same = ap (arc_by_link b r) i in omega arith
right_arc_in b r l (at_node v k i t) = let same = ap (arc_by_link b r) i in
    omega (arith, take_arc_below b r l (ap is_some t))

-- a right's arc carries what the right wants
pub want_fits : (b : Basin) (month : Month) (supply want : List ℕ) (w : Network) (r : ℕ) →
    IsMonthNetwork b month supply want w → AreWants b month want → r < length b.rights → IsKind b r →
    slice_index want r ≤ w.upper (right_arc b r)
want_fits b month supply want w r net fit l (on_link e k i t) =
    let same : w.upper (right_arc b r) ≡ w.upper e = ap (λ o. w.upper (arc_by_link b r o)) i in
    omega (arith, net.link_upper e k, fit.instream r e l i)
want_fits b month supply want w r net fit l (at_node v k i t) =
    let same : w.upper (right_arc b r) ≡ w.upper (take_arc b r) = ap (λ o. w.upper (arc_by_link b r o)) i in
    omega (arith, net.take_upper r l (ap is_some t))

-- what the plan of a flow delivers
pub delivery_is : (b : Basin) (month : Month) (supply want : List ℕ) (w : Network) (g : ℕ → ℕ) (r : ℕ) →
    IsMonthNetwork b month supply want w → IsFlow w g → r < length b.rights → IsKind b r →
    delivery b want (plan_of b g) r ≡ delivered_by b want g r
delivery_is b month supply want w g r net flow l (on_link e k i t) =
    let one : delivery b want (plan_of b g) r ≡ min (slice_index want r) (slice_index (list_of (length b.links) g) e)
    = ap (λ o. delivery_by_link o (slice_index want r) (plan_of b g) r) i in
    let two : delivered_by b want g r ≡ min (slice_index want r) (g e) =
    ap (λ o. min (slice_index want r) (g (arc_by_link b r o))) i in
    let at = list_get (length b.links) g e k in
    omega arith
delivery_is b month supply want w g r net flow l (at_node v k i t) =
    let one : delivery b want (plan_of b g) r ≡ slice_index (plan_of b g).take r
    = ap (λ o. delivery_by_link o (slice_index want r) (plan_of b g) r) i in
    let two : delivered_by b want g r ≡ min (slice_index want r) (g (take_arc b r)) =
    ap (λ o. min (slice_index want r) (g (arc_by_link b r o))) i in
    let at : slice_index (plan_of b g).take r ≡ when (takes b r) (g (take_arc b r)) =
    list_get (length b.rights) (λ r. when (takes b r) (g (take_arc b r))) r l in
    let taken : when (takes b r) (g (take_arc b r)) ≡ g (take_arc b r) =
    ap (λ t. when t (g (take_arc b r))) (ap is_some t) in
    let up = net.take_upper r l (ap is_some t) in
    let high = flow.high (take_arc b r) (let n = net.ends.arcs in omega (arith, take_arc_below b r l (ap is_some t))) in
    omega arith

-- a flow that a plan gives its arcs
pub flow_is : (b : Basin) (month : Month) (supply want : List ℕ) (w : Network) (p : Plan) (g : ℕ → ℕ) →
    IsMonthNetwork b month supply want w → IsPlan b month supply want p → ((a : ℕ) → a < w.arcs → w.lower a ≡ 0) →
    ((e : ℕ) → e < length b.links → g e ≡ slice_index p.flow e) →
    ((r : ℕ) → r < length b.rights → takes b r ≡ true → g (take_arc b r) ≡ slice_index p.take r) →
    ((n : ℕ) → n < length b.nodes → is_outlet b n ≡ true → g (out_arc b n) ≡ slice_index p.out n) →
    ((n : ℕ) → n < length b.nodes → is_outlet b n ≡ true → slice_index p.out n ≤ w.upper (out_arc b n)) → IsFlow w g
flow_is b month supply want w p g net plan lowers links rights outs small = record {
  low = λ a l. (let e = lowers a l in omega arith);
  high = λ a l. high a (arc_is b a (let n = net.ends.arcs in omega arith));
  balanced = λ v l. balanced v (let n = net.ends.nodes in omega arith);
}
  where
    high : (a : ℕ) → IsArc b a → g a ≤ w.upper a
    high a (is_link l) = omega (arith, links a l, net.link_upper a l, plan.carries a l)
    high a (is_take r l h e) =
        subst (λ a. g a ≤ w.upper a) e (omega (arith, rights r l h, net.take_upper r l h, plan.wants r l))
    high a (is_out n l h e) = subst (λ a. g a ≤ w.upper a) e (omega (arith, outs n l h, small n l h))

    took : (r : ℕ) (o : Option ℕ) → ((is_some o ≡ true) → g (take_arc b r) ≡ slice_index p.take r) →
        (o ≡ None → slice_index p.take r ≡ 0) → when (is_some o) (g (take_arc b r)) ≡ slice_index p.take r
    took r None f z = sym (z refl)
    took r (Some v) f z = f refl

    gone : (v : ℕ) (t : Bool) → (t ≡ true → g (out_arc b v) ≡ slice_index p.out v) →
        (t ≡ false → slice_index p.out v ≡ 0) → when t (g (out_arc b v)) ≡ slice_index p.out v
    gone v true f z = f refl
    gone v false f z = sym (z refl)

    balanced : (v : ℕ) → v < length b.nodes → w.supply v + inflow w g v ≡ outflow w g v
    balanced v l = omega (
      arith,
      net.supplies v l,
      plan.balance v l,
      node_inflow b w g v net.ends l,
      node_outflow b w g v net.ends l,
      total_where_same (length b.links) (λ e. head_of b e == v) g (λ e. slice_index p.flow e) links,
      total_where_same (length b.links) (λ e. tail_of b e == v) g (λ e. slice_index p.flow e) links,
      total_where_same (length b.rights) (λ r. takes_at b r v) (λ r. when (takes b r) (g (take_arc b r)))
          (λ r. slice_index p.take r) (λ r k. took r (taking_node b r) (rights r k) (plan.instream r k)),
      gone v (is_outlet b v) (outs v l) (plan.outlets v l),
    )
