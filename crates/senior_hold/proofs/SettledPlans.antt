-- What is spilled runs down the rivers: the plan that this gives, and what it delivers.
use Rattle.std.proofs.Common.{◌≡◌, ℕ, ◌+◌, ◌<◌, ◌≤◌, ◌^◌, ◌⊎◌, Bool, true, false, refl, sym, ◌∙◌, ap, subst}
use Rattle.std.proofs.Common.{arith, List, length, replicate, inl, inr}
use Rattle.std.proofs.lemmas.Bool.{cases_lt}
use Rattle.std.proofs.lemmas.Bool.Decides.{nat_tests}
use Rattle.std.proofs.lemmas.List.{length-replicate}
use Rattle.std.proofs.lemmas.Grind.{same_number_lists}
use Rattle.std.specs.Prelude.{slice_index, ◌==◌, ◌&&◌, not, is_some, min, nat_lt, nat_le, if◌then◌else◌, Some, None}
use Rattle.finite_sums.specs.Sums.{total, total_where, when}
use Rattle.finite_sums.proofs.Totals.{total_le, term_le_total_where}
use Rattle.water_model.specs.Lookups.{has}
use Rattle.water_model.specs.Basin.{tail_of, head_of, instream_link, taking_node}
use Rattle.water_model.specs.Cuts.{enters, leaves, carry_into, cut_capacity, IsTight}
use Rattle.water_model.specs.CutSets.{CutSets}
use Rattle.duality.specs.Laws.{AreDeliveries}
use Rattle.water_model.specs.Plans.{IsPlan, delivery, delivery_by_link, carry_of, taken_at}
use Rattle.water_model.specs.RunOfRiver.{IsRunOfRiver, RunsNaturally}
use Rattle.water_model.specs.Valid.{IsValidBasin}
use Rattle.water_text.specs.declared.month.Month.{Month}
use Rattle.water_model.specs.declared.types.Basin.{Basin}
use Rattle.water_model.specs.declared.types.Plan.{Plan}
use Rattle.water_model.proofs.Valid.{ends}
use Rattle.water_model.proofs.Sets.{total_where_all, total_where_none_pass, has_all, total_where_same, total_where_add}
use Rattle.duality.proofs.CutBalance.{cut_balance}
use Rattle.duality.proofs.Duality.{cut_slack}
use Rattle.duality.proofs.Greatest.{cuts_make_plan_greatest}
use Rattle.river_net.specs.Net.{total_of}
use Rattle.river_net.proofs.RiverPlan.{river_balance, river_is_plan}
use Rattle.circulation.specs.Contents.{Contents, network, flow_of}
use Rattle.circulation.specs.Network.{Network, IsFlow}
use Rattle.rights_roll.specs.SeniorityOrder.{IsSeniorityOrder}
use Rattle.senior_hold.specs.MonthNetwork.{takes, take_arc, arc_by_link, list_of, plan_of, IsMonthNetwork}
use Rattle.senior_hold.specs.Solved.{IsMetOrReached, IsSolved}
use Rattle.senior_hold.specs.Spilled.{spilled, spills_of, IsSettledPlan, IsSpilledStart}
use Rattle.senior_hold.proofs.Swept.{delivered_by, deliveries_by}
use Rattle.senior_hold.proofs.MonthArcs.{IsKind, on_link, at_node, AreKinds, right_kind}
use Rattle.unreached_sets.proofs.Marks.{has_where, set_size}
use Rattle.senior_hold.proofs.Plans.{list_get, list_len, plan_is}
use Rattle.senior_hold.proofs.Rivers.{made, river_is}
use Rattle.senior_hold.proofs.Sweeps.{got, settled_stays}
use Rattle.senior_hold.proofs.Solves.{IsStanding}
use Rattle.senior_hold.proofs.SpilledArcs.{spilled_count}
use Rattle.water_model.proofs.Carries.{river_carry}
use Rattle.river_net.proofs.Ranks.{ranks}

-- a settled right is met or has a tight cut
pub met_or_tight : (b : Basin) (month : Month) (supply want d : List ℕ) (cuts : CutSets) (r : ℕ) →
    IsMetOrReached b month supply want d cuts r →
    (slice_index want r ≤ slice_index d r) ⊎ ((cut : List Bool) × IsTight b month supply d r cut)
met_or_tight b month supply want d cuts r (inl met) = inl met.0
met_or_tight b month supply want d cuts r (inr short) = inr (short.1.0, short.1.1.1.is_tight)

-- no more is spilled than is supplied
pub spills_most : (b : Basin) (month : Month) (supply want : List ℕ) (p : Plan) → IsValidBasin b →
    IsPlan (spilled b) month supply want p → total (length b.nodes) (λ v. slice_index p.out v) ≤ total (length b.nodes)
    (λ v. slice_index supply v)
spills_most b month supply want p valid plan =
    let n : ℕ = length b.nodes in
    let all : List Bool = replicate n true in
    let cut = cut_balance (spilled b) (carry_of b month) supply want p all plan
    (length-replicate n true ∙ sym (spilled_count b)) in
    let supplies = ap (λ k. total_where k (λ v. has all v) (λ v. slice_index supply v)) (spilled_count b)
    ∙ total_where_all n (λ v. has all v) (λ v. slice_index supply v) (has_all n) in
    let outs = ap (λ k. total_where k (λ v. has all v) (λ v. slice_index p.out v)) (spilled_count b)
    ∙ total_where_all n (λ v. has all v) (λ v. slice_index p.out v) (has_all n) in
    let ins = total_where_none_pass (length b.links) (λ e. enters b all e) (λ e. slice_index p.flow e) none_enters in
    omega (arith, cut, supplies, outs, ins)
  where
    both_in : (x y : Bool) → x ≡ true → y ≡ true → x && not y ≡ false
    both_in x y h i = grind (arith, nat_tests)

    none_enters : (e : ℕ) → e < length b.links → enters b (replicate (length b.nodes) true) e ≡ false
    none_enters e l = both_in (has (replicate (length b.nodes) true) (head_of b e))
        (has (replicate (length b.nodes) true) (tail_of b e))
        (has_all (length b.nodes) (head_of b e) (ends b valid e l).1)
        (has_all (length b.nodes) (tail_of b e) (ends b valid e l).0)

-- no link has more of both flows than all supply
both_small : (b : Basin) (month : Month) (supply want want' : List ℕ) (p q : Plan) → IsValidBasin b →
    IsPlan (spilled b) month supply want p → IsPlan b month p.out want' q → (e : ℕ) → e < length b.links →
    slice_index p.flow e + slice_index q.flow e ≤ total (length b.nodes) (λ v. slice_index supply v)
both_small b month supply want want' p q valid plan_p plan_q e l =
    let first = cut_balance (spilled b) (carry_of b month) supply want p cut plan_p (size ∙ sym (spilled_count b)) in
    let second = cut_balance b (carry_of b month) p.out want' q cut plan_q size in
    let supplies = ap (λ k. total_where k (λ v. has cut v) (λ v. slice_index supply v)) (spilled_count b) in
    let outs = ap (λ k. total_where k (λ v. has cut v) (λ v. slice_index p.out v)) (spilled_count b) in
    let ins = total_where_none_pass (length b.links) (λ x. enters b cut x) (λ x. slice_index p.flow x) no_entry in
    let ins2 = total_where_none_pass (length b.links) (λ x. enters b cut x) (λ x. slice_index q.flow x) no_entry in
    let one = term_le_total_where (length b.links) (λ x. leaves b cut x) (λ x. slice_index p.flow x) e l own in
    let two = term_le_total_where (length b.links) (λ x. leaves b cut x) (λ x. slice_index q.flow x) e l own in
    let some = total_le (length b.nodes) (λ v. if has cut v then slice_index supply v else 0)
    (λ v. slice_index supply v) (λ v k. at_most (has cut v) (slice_index supply v)) in
    omega (arith, first, second, supplies, outs, ins, ins2, one, two, some)
  where
    rank : ℕ → ℕ
    rank = (ranks b valid).rank

    up : ℕ → Bool
    up v = nat_lt v (length b.nodes) && nat_le (rank v) (rank (tail_of b e))

    cut : List Bool
    cut = list_of (length b.nodes) up

    size : length cut ≡ length b.nodes
    size = set_size (length b.nodes) up

    at : (v : ℕ) → has cut v ≡ up v
    at v = has_where (length b.nodes) up (λ v k. beyond v (length b.nodes) (nat_le (rank v) (rank (tail_of b e))) k) v
      where
        beyond : (v n : ℕ) (t : Bool) → n ≤ v → nat_lt v n && t ≡ false
        beyond v n t k = grind (arith, nat_tests)

    at_most : (t : Bool) (x : ℕ) → (if t then x else 0) ≤ x
    at_most true x = omega arith
    at_most false x = omega arith

    no_entry : (x : ℕ) → x < length b.links → enters b cut x ≡ false
    no_entry x k = runs_on (has cut (head_of b x)) (has cut (tail_of b x)) (tail_of b x) (head_of b x) (length b.nodes)
        (rank (tail_of b x)) (rank (head_of b x)) (rank (tail_of b e)) (at (head_of b x)) (at (tail_of b x))
        ((ranks b valid).forward.runs x k) (ends b valid x k).0
      where
        runs_on : (p q : Bool) (t h n r s m : ℕ) → p ≡ nat_lt h n && nat_le s m → q ≡ nat_lt t n && nat_le r m → r < s →
            t < n → p && not q ≡ false
        runs_on p q t h n r s m i j k l = grind (arith, nat_tests)

    own : leaves b cut e ≡ true
    own = goes (has cut (tail_of b e)) (has cut (head_of b e)) (tail_of b e) (head_of b e) (length b.nodes)
        (rank (tail_of b e)) (rank (head_of b e)) (at (tail_of b e)) (at (head_of b e))
        ((ranks b valid).forward.runs e l) (ends b valid e l).0
      where
        goes : (p q : Bool) (t h n r s : ℕ) → p ≡ nat_lt t n && nat_le r r → q ≡ nat_lt h n && nat_le s r → r < s →
            t < n → p && not q ≡ true
        goes p q t h n r s i j k l = grind (arith, nat_tests)

-- it is a plan of the month
pub settled_plan : {b : Basin} {month : Month} {supply want : List ℕ} {w : Network} {g : ℕ → ℕ} {p : Plan} →
    IsValidBasin b → IsMonthNetwork (spilled b) month supply want w → IsFlow w g →
    total (length b.nodes) (λ v. slice_index supply v) ≤ 10 ^ 15 → IsSettledPlan b g p → IsPlan b month supply want p
settled_plan {b} {month} {supply} {want} {w} {g} {p} valid net flow bounded s = record {
  flow_len = s.flow_len;
  take_len = ap length s.take ∙ list_len (length b.rights) took;
  out_len = s.natural.out_len;
  carries = carried;
  wants = λ r l. omega (arith, ap (λ (xs : List ℕ). slice_index xs r) s.take, before.wants r l);
  instream = λ r l h. ap (λ (xs : List ℕ). slice_index xs r) s.take ∙ before.instream r l h;
  outlets = λ v l h. s.natural.inner v l h;
  balance = λ v l. omega (
    arith,
    before.balance v (omega (arith, l, spilled_count b)),
    river_balance b.nodes b.links (spills_of b g) s.run p.out valid.network s.natural v l,
    total_where_same (length b.links) (λ e. head_of b e == v) (λ e. slice_index p.flow e)
        (λ e. slice_index (plan_of (spilled b) g).flow e + slice_index s.run e) parts,
    total_where_add (length b.links) (λ e. head_of b e == v) (λ e. slice_index (plan_of (spilled b) g).flow e)
        (λ e. slice_index s.run e),
    total_where_same (length b.links) (λ e. tail_of b e == v) (λ e. slice_index p.flow e)
        (λ e. slice_index (plan_of (spilled b) g).flow e + slice_index s.run e) parts,
    total_where_add (length b.links) (λ e. tail_of b e == v) (λ e. slice_index (plan_of (spilled b) g).flow e)
        (λ e. slice_index s.run e),
    ap (λ (xs : List ℕ). taken xs v) s.take,
  );
}
  where
    took : ℕ → ℕ
    took r = when (takes b r) (g (take_arc b r))

    taken : List ℕ → ℕ → ℕ
    taken xs v = taken_at b xs v

    before : IsPlan (spilled b) month supply want (plan_of (spilled b) g)
    before = plan_is (spilled b) month supply want w g net flow

    parts : (e : ℕ) → e < length b.links →
        slice_index p.flow e ≡ slice_index (plan_of (spilled b) g).flow e + slice_index s.run e
    parts e l = s.flow e l ∙ ap (λ x. x + slice_index s.run e) (sym (list_get (length b.links) g e l))

    runs : IsRunOfRiver b (spills_of b g) (made s.run (replicate (length b.rights) 0) p.out)
    runs = river_is b (spills_of b g) s.run (replicate (length b.rights) 0) p.out (length b.rights) refl refl
        (length-replicate {A = ℕ} (length b.rights) 0) s.natural

    most : total (length b.nodes) (λ v. slice_index (spills_of b g) v) ≤ 10 ^ 15
    most = let m = spills_most b month supply want (plan_of (spilled b) g) valid before in omega arith

    after : IsPlan b month (spills_of b g) want (made s.run (replicate (length b.rights) 0) p.out)
    after = river_is_plan b month (spills_of b g) want (made s.run (replicate (length b.rights) 0) p.out) valid most
        runs

    carried : (e : ℕ) → e < length b.links → slice_index p.flow e ≤ carry_of b month e
    carried e l = elim (cases_lt (carry_of b month e) (slice_index p.flow e)) [
      | inr fits ↦ fits
      | inl more ↦ absurd (omega (
        arith,
        more,
        parts e l,
        before.carries e l,
        s.natural.others e l (λ first. absurd (omega (
          arith,
          more,
          parts e l,
          both_small b month supply want want (plan_of (spilled b) g) (made s.run (replicate (length b.rights) 0) p.out)
              valid before after e l,
          river_carry b month e first.river,
        ))),
      ))
    ]

-- the spills are few
pub spills_bounded : {b : Basin} {month : Month} {supply want : List ℕ} {w : Network} {g : ℕ → ℕ} → IsValidBasin b →
    IsMonthNetwork (spilled b) month supply want w → IsFlow w g → total (length b.nodes)
    (λ v. slice_index supply v) < 10 ^ 15 → total_of (spills_of b g) < 10 ^ 15
spills_bounded {b} {month} {supply} {want} {w} {g} valid net flow bounded =
    let count : length (spills_of b g) ≡ length b.nodes = (plan_is (spilled b) month supply want w g net flow).out_len
    ∙ spilled_count b in
    omega (
      arith,
      bounded,
      ap (λ k. total k (λ v. slice_index (spills_of b g) v)) count,
      spills_most b month supply want (plan_of (spilled b) g) valid
          (plan_is (spilled b) month supply want w g net flow),
    )

-- cuts and reaches say nothing of outlets
capacity_is : (b : Basin) (month : Month) (supply : List ℕ) (cut : List Bool) →
    cut_capacity (spilled b) (carry_of b month) supply cut ≡ cut_capacity b (carry_of b month) supply cut
capacity_is b month supply cut =
    ap (λ k. total_where k (λ n. has cut n) (λ n. slice_index supply n) + carry_into b (carry_of b month) cut)
    (spilled_count b)

tight_down : (b : Basin) (month : Month) (supply d : List ℕ) (r : ℕ) (cut : List Bool) →
    IsTight (spilled b) month supply d r cut → IsTight b month supply d r cut
tight_down b month supply d r cut t = record {
  is_cut = record { one_each = t.is_cut.one_each ∙ spilled_count b; separates = t.is_cut.separates };
  tight = sym (capacity_is b month supply cut) ∙ t.tight;
}

tight_up : (b : Basin) (month : Month) (supply d : List ℕ) (r : ℕ) (cut : List Bool) → IsTight b month supply d r cut →
    IsTight (spilled b) month supply d r cut
tight_up b month supply d r cut t = record {
  is_cut = record { one_each = t.is_cut.one_each ∙ sym (spilled_count b); separates = t.is_cut.separates };
  tight = capacity_is b month supply cut ∙ t.tight;
}

pub settled_down : (b : Basin) (month : Month) (supply want d : List ℕ) (cuts : CutSets) (r : ℕ) →
    IsMetOrReached (spilled b) month supply want d cuts r → IsMetOrReached b month supply want d cuts r
settled_down b month supply want d cuts r (inl met) = inl met
settled_down b month supply want d cuts r (inr short) = inr (
  short.0,
  (
    short.1.0,
    (
      short.1.1.0,
      record {
        is_tight = tight_down b month supply d r short.1.0 short.1.1.1.is_tight;
        contains = λ other tight n h. short.1.1.1.contains other (tight_up b month supply d r other tight) n h;
      },
    ),
  ),
)

-- a plan that takes what a flow takes, and has no less on any link, delivers what the flow delivers, where each right
-- is settled by that
pub settled_delivers : (b : Basin) (month : Month) (supply want : List ℕ) (g : ℕ → ℕ) (p : Plan) (cuts : CutSets) →
    AreKinds b → IsPlan b month supply want p → IsSettledPlan b g p →
    ((r : ℕ) → r < length b.rights → IsMetOrReached b month supply want (deliveries_by b want g) cuts r) → (r : ℕ) →
    r < length b.rights → delivery b want p r ≡ delivered_by b want g r
settled_delivers b month supply want g p cuts kinds plan s settled r l =
    omega (arith, least r l (kinds r l), most (kinds r l) (settled r l))
  where
    took : (r : ℕ) → r < length b.rights → slice_index p.take r ≡ when (takes b r) (g (take_arc b r))
    took r l = ap (λ (xs : List ℕ). slice_index xs r) s.take
        ∙ list_get (length b.rights) (λ r. when (takes b r) (g (take_arc b r))) r l

    link_delivery : (r e : ℕ) → instream_link b r ≡ Some e → delivery b want p r ≡ min (slice_index want r)
        (slice_index p.flow e)
    link_delivery r e i = ap (λ o. delivery_by_link o (slice_index want r) p r) i

    link_delivered : (r e : ℕ) → instream_link b r ≡ Some e → delivered_by b want g r ≡ min (slice_index want r) (g e)
    link_delivered r e i = ap (λ o. min (slice_index want r) (g (arc_by_link b r o))) i

    node_delivery : (r v : ℕ) → r < length b.rights → instream_link b r ≡ None → taking_node b r ≡ Some v →
        delivery b want p r ≡ delivered_by b want g r
    node_delivery r v l i t =
        let one : delivery b want p r ≡ slice_index p.take r =
        ap (λ o. delivery_by_link o (slice_index want r) p r) i in
        let two : delivered_by b want g r ≡ min (slice_index want r) (g (take_arc b r)) =
        ap (λ o. min (slice_index want r) (g (arc_by_link b r o))) i in
        let taken : when (takes b r) (g (take_arc b r)) ≡ g (take_arc b r) =
        ap (λ t. when t (g (take_arc b r))) (ap is_some t) in
        omega (arith, one, two, taken, took r l, plan.wants r l)

    least : (r : ℕ) → r < length b.rights → IsKind b r → delivered_by b want g r ≤ delivery b want p r
    least r l (on_link e k i t) = omega (arith, link_delivery r e i, link_delivered r e i, s.flow e k)
    least r l (at_node v k i t) = omega (arith, node_delivery r v l i t)

    most : IsKind b r → IsMetOrReached b month supply want (deliveries_by b want g) cuts r →
        delivery b want p r ≤ delivered_by b want g r
    most (at_node v k i t) h = omega (arith, node_delivery r v l i t)
    most (on_link e k i t) (inl met) = let m = met.0 in omega (arith, link_delivery r e i, got b want g r l)
    most (on_link e k i t) (inr short) =
        let tight = short.1.1.1.is_tight in
        let equal = tight.tight in
        omega (
          arith,
          got b want g r l,
          cut_slack b (carry_of b month) supply (deliveries_by b want g) r short.1.0 supply want p l tight.is_cut plan
              (λ n m e. refl) (λ q m senior. omega (arith, got b want g q m, least q m (kinds q m))),
        )

-- when all are served the month is solved
pub sweep_solved : {b : Basin} {month : Month} {supply want order : List ℕ} {c : Contents} {cuts : CutSets}
    {p : Plan} → IsValidBasin b → IsSeniorityOrder b.rights order → total (length b.nodes)
    (λ v. slice_index supply v) ≤ 10 ^ 15 → IsStanding (spilled b) month supply want order (length b.rights) c cuts →
    IsSettledPlan b (flow_of c) p → (length b.rights ≡ 0 → IsSpilledStart b supply c) →
    IsSolved b month supply want p cuts
sweep_solved {b} {month} {supply} {want} {order} {c} {cuts} {p} valid o bounded now s start = record {
  greatest = cuts_make_plan_greatest b (carry_of b month) supply want d p plan
      (record { each = λ r l. got b want (flow_of c) r l ∙ sym (delivers r l) })
      (λ r l. met_or_tight b month supply want d cuts r (settled r l));
  settled = λ delivered are r l. settled_stays b month supply want d delivered cuts cuts r l (same delivered are r l)
      (λ q m senior. same delivered are q m) refl (settled r l);
  river = λ h. record {
    run = subst (λ (xs : List ℕ). RunsNaturally b.nodes b.links xs p.flow p.out) (start h).all
        (subst (λ (xs : List ℕ). RunsNaturally b.nodes b.links (spills_of b (flow_of c)) xs p.out) (sym (run_is h))
        s.natural);
    take_len = plan.take_len;
    takes = λ r l. absurd (omega arith);
  };
}
  where
    d : List ℕ
    d = deliveries_by b want (flow_of c)

    flow : IsFlow (network c) (flow_of c)
    flow = (now.swept o).flow

    plan : IsPlan b month supply want p
    plan = settled_plan valid now.net flow bounded s

    settled : (r : ℕ) → r < length b.rights → IsMetOrReached b month supply want d cuts r
    settled r l = settled_down b month supply want d cuts r ((now.swept o).settled r l (o.in_range r l))

    delivers : (r : ℕ) → r < length b.rights → delivery b want p r ≡ delivered_by b want (flow_of c) r
    delivers = settled_delivers b month supply want (flow_of c) p cuts (right_kind b valid) plan s settled

    same : (delivered : List ℕ) → AreDeliveries b want p delivered → (r : ℕ) → r < length b.rights →
        slice_index d r ≡ slice_index delivered r
    same delivered are r l = got b want (flow_of c) r l ∙ (sym (delivers r l) ∙ sym (are.each r l))

    run_is : length b.rights ≡ 0 → p.flow ≡ s.run
    run_is h = same_number_lists p.flow s.run (s.flow_len ∙ sym s.natural.flow_len)
        (λ e l. still h e (omega (arith, l, s.flow_len)))
      where
        still : length b.rights ≡ 0 → (e : ℕ) → e < length b.links → slice_index p.flow e ≡ slice_index s.run e
        still h e l = omega (arith, s.flow e l, (start h).still e l)
