-- A month that is begun with bounds and with the amounts of a plan.
use Rattle.std.proofs.Common.{◌≡◌, ℕ, ◌<◌, ◌≤◌, Bool, true, false, refl, sym, ◌∙◌, ap, subst, arith, List, length}
use Rattle.std.proofs.lemmas.List.{length-replicate, get_or-replicate}
use Rattle.std.proofs.lemmas.Grind.{same_number_lists}
use Rattle.std.specs.Prelude.{◌^◌, slice_index, None}
use Rattle.finite_sums.specs.Sums.{when}
use Rattle.water_model.specs.Basin.{is_outlet}
use Rattle.water_model.specs.CutSets.{CutSets, set_of}
use Rattle.water_model.specs.Plans.{IsPlan, carry_of}
use Rattle.water_model.specs.declared.types.Basin.{Basin}
use Rattle.water_model.specs.declared.types.Plan.{Plan}
use Rattle.water_model.specs.Valid.{IsValidBasin}
use Rattle.water_model.proofs.Carries.{carry_most}
use Rattle.water_text.specs.Months.{IsMonth}
use Rattle.water_text.specs.declared.month.Month.{Month}
use Rattle.circulation.specs.Contents.{Contents, network, month_contents, IsStart}
use Rattle.circulation.specs.Network.{IsFlow}
use Rattle.senior_hold.specs.Arcs.{AreAmounts, AreBounds}
use Rattle.senior_hold.specs.MonthNetwork.{out_arc, arc_count, HasBasinEnds, IsMonthNetwork, plan_of}
use Rattle.senior_hold.specs.Solved.{AreSupplies, AreWants, FitsCuts}
use Rattle.senior_hold.specs.Spilled.{spilled, spills_of, spill_most, IsBegun, IsSpilledStart}
use Rattle.senior_hold.specs.declared.sweep.Method.{Method}
use Rattle.senior_hold.proofs.MonthArcs.{IsArc, is_link, is_take, is_out, arc_is}
use Rattle.senior_hold.proofs.Plans.{list_get, list_len, flow_is}
use Rattle.senior_hold.proofs.Solves.{IsStanding, standing_first}
use Rattle.senior_hold.proofs.SpilledArcs.{spilled_count, spilled_outlet, spill_is}

begun_small : {most : ℕ → ℕ} (b : Basin) (month : Month) (want upper : List ℕ) →
    ((e : ℕ) → e < length b.links → carry_of b month e ≤ 10 ^ 15) →
    AreBounds b month want most (λ a. slice_index upper a) → ((n : ℕ) → n < length b.nodes → most n ≤ 10 ^ 15) →
    ((r : ℕ) → r < length b.rights → slice_index want r ≤ 10 ^ 9) → length upper ≡ arc_count b → (a : ℕ) →
    a < length upper → slice_index upper a ≤ 10 ^ 15
begun_small b month want upper carries are mosts limits len a l = of_arc a (arc_is b a (omega arith))
  where
    of_arc : (a : ℕ) → IsArc b a → slice_index upper a ≤ 10 ^ 15
    of_arc a (is_link k) = omega (arith, are.on_links a k, carries a k)
    of_arc a (is_take r k h e) =
        subst (λ a. slice_index upper a ≤ 10 ^ 15) e (omega (arith, are.on_takes r k h, limits r k))
    of_arc a (is_out n k h e) =
        subst (λ a. slice_index upper a ≤ 10 ^ 15) e (omega (arith, are.on_outs n k h, mosts n k))

begun_net : {most : ℕ → ℕ} (b : Basin) (month : Month) (supply want upper start : List ℕ) (c : Contents) →
    HasBasinEnds b (network c) → AreBounds b month want most (λ a. slice_index upper a) →
    IsMonthNetwork b month supply want (network (month_contents c supply upper start))
begun_net b month supply want upper start c ends are = record {
  ends = assumption (ends);
  link_upper = are.on_links;
  take_upper = are.on_takes;
  supplies = λ n l. refl;
}

begun_flow : {most : ℕ → ℕ} (b : Basin) (month : Month) (supply want upper start : List ℕ) (c : Contents)
    (p : Plan) → HasBasinEnds b (network c) → AreBounds b month want most (λ a. slice_index upper a) →
    IsPlan b month supply want p → AreAmounts b p (λ a. slice_index start a) →
    ((n : ℕ) → n < length b.nodes → slice_index p.out n ≤ most n) →
    IsFlow (network (month_contents c supply upper start)) (λ a. slice_index start a)
begun_flow b month supply want upper start c p ends are plan laid small =
    flow_is b month supply want (network (month_contents c supply upper start)) p (λ a. slice_index start a)
    (begun_net b month supply want upper start c ends are) plan
    (λ a l. get_or-replicate {A = ℕ} (length c.from) a 0 0 l) laid.on_links laid.on_takes laid.on_outs
    (λ n l h. omega (arith, small n l, are.on_outs n l h))

-- amounts with which a month may start: those of a plan that lets water out where nodes may spill it
pub record IsStartOf (b : Basin) (method : Method) (month : Month) (supply want start : List ℕ) : Type 0 where
  pub plan : Plan
  pub is_plan : IsPlan (spilled b) month supply want plan
  pub laid : AreAmounts (spilled b) plan (λ a. slice_index start a)
  pub fits : (n : ℕ) → n < length b.nodes → slice_index plan.out n ≤ spill_most b method n

-- no spill carries more than a river
spills_small : (b : Basin) (method : Method) (n : ℕ) → spill_most b method n ≤ 10 ^ 15
spills_small b Method.Tree n = omega arith
spills_small b Method.Searches n = of_node (is_outlet b n)
  where
    of_node : (t : Bool) → when t (10 ^ 15) ≤ 10 ^ 15
    of_node true = omega arith
    of_node false = omega arith

-- a month may start with them
pub begins : {b : Basin} {method : Method} {month : Month} {supply want upper start : List ℕ} (c : Contents) →
    IsValidBasin b → IsMonth month → HasBasinEnds (spilled b) (network c) → AreSupplies b supply →
    AreWants b month want → length upper ≡ arc_count (spilled b) → length start ≡ arc_count (spilled b) →
    AreBounds (spilled b) month want (spill_most b method) (λ a. slice_index upper a) →
    IsStartOf b method month supply want start → IsStart c supply upper start
begins {b} {method} {month} {supply} {want} {upper} {start} c valid is_month ends given wants uppers starts are s =
    let count = spilled_count b in
    record {
      supplies = given.count ∙ sym count ∙ sym ends.nodes;
      uppers = uppers ∙ sym ends.arcs;
      amounts = starts ∙ sym ends.arcs;
      small = λ a l. begun_small (spilled b) month want upper (λ e k. carry_most b month e valid is_month k) are
          (λ n k. spills_small b method n) wants.small uppers a (let n = ends.arcs in omega arith);
      flow = begun_flow (spilled b) month supply want upper start c s.plan ends are s.is_plan s.laid
          (λ n l. s.fits n (omega (arith, l, count)));
    }

-- and then it is begun
pub begun : {b : Basin} {method : Method} {month : Month} {supply want upper start : List ℕ} (c : Contents)
    {new : Contents} →
    HasBasinEnds (spilled b) (network c) →
    AreBounds (spilled b) month want (spill_most b method) (λ a. slice_index upper a) →
    IsStartOf b method month supply want start →
    new ≡ record (month_contents c supply upper start) { scratch = new.scratch } →
    IsBegun b method month supply want new
begun {b} {method} {month} {supply} {want} {upper} {start} c {new} ends are s is =
    let count = spilled_count b in
    let d : Contents = record c { scratch = new.scratch } in
    subst (λ (x : Contents). IsBegun b method month supply want x) (sym is) record {
      net = begun_net (spilled b) month supply want upper start d ends are;
      is_flow = begun_flow (spilled b) month supply want upper start d s.plan ends are s.is_plan s.laid
          (λ n l. s.fits n (omega (arith, l, count)));
      size = length-replicate {A = ℕ} (length c.from) 0 ∙ ends.arcs;
      free = λ a l. get_or-replicate {A = ℕ} (length c.from) a 0 0 (let n = ends.arcs in omega arith);
      spills = λ n l. ap (slice_index upper) (sym (spill_is b n (omega arith)))
          ∙ are.on_outs n (omega (arith, l, count)) (spilled_outlet b n l);
    }

-- what lies on the outlets is what the plan lets out
outs_same : (b : Basin) (p : Plan) (g : ℕ → ℕ) → length p.out ≡ length b.nodes →
    ((n : ℕ) → n < length b.nodes → is_outlet b n ≡ true) → AreAmounts b p g → (plan_of b g).out ≡ p.out
outs_same b p g size all laid =
    same_number_lists (plan_of b g).out p.out (list_len (length b.nodes) gone ∙ sym size)
    (λ n l. each n (let s = list_len (length b.nodes) gone in omega arith))
  where
    gone : ℕ → ℕ
    gone n = when (is_outlet b n) (g (out_arc b n))

    each : (n : ℕ) → n < length b.nodes → slice_index (plan_of b g).out n ≡ slice_index p.out n
    each n l = list_get (length b.nodes) gone n l
        ∙ (ap (λ t. when t (g (out_arc b n))) (all n l) ∙ laid.on_outs n l (all n l))

-- amounts of a plan without flows spill what it lets out
pub spilled_start : {b : Basin} {supply start : List ℕ} {c : Contents} {p : Plan} → length p.out ≡ length b.nodes →
    AreAmounts (spilled b) p (λ a. slice_index start a) → c.flow ≡ start →
    ((e : ℕ) → e < length b.links → slice_index p.flow e ≡ 0) → p.out ≡ supply → IsSpilledStart b supply c
spilled_start {b} {supply} {start} {c} {p} size laid is still all = record {
  still = λ e l. ap (λ (xs : List ℕ). slice_index xs e) is ∙ (laid.on_links e l ∙ still e l);
  all = ap (λ (xs : List ℕ). spills_of b (λ a. slice_index xs a)) is
      ∙ (outs_same (spilled b) p (λ a. slice_index start a) (size ∙ sym (spilled_count b))
      (λ n l. spilled_outlet b n (omega (arith, l, spilled_count b))) laid ∙ all);
}

-- a month stands so before any right is served
pub standing_begun : {b : Basin} {method : Method} {month : Month} {supply want order : List ℕ} {c : Contents}
    {cuts : CutSets} → IsBegun b method month supply want c → FitsCuts b cuts →
    ((r : ℕ) → r < length b.rights → set_of cuts r ≡ None) → IsStanding (spilled b) month supply want order 0 c cuts
standing_begun {b} {method} {month} {supply} {want} {order} {c} {cuts} start fits no_sets =
    standing_first (spilled b) month supply want order c cuts start.net start.is_flow start.size start.free
    (record { nodes = fits.nodes ∙ sym (spilled_count b); rights = fits.rights }) no_sets

-- bounds where the same may be spilled
pub bounds_most : (b : Basin) (month : Month) (want : List ℕ) (upper most most' : ℕ → ℕ) →
    ((n : ℕ) → n < length b.nodes → most n ≡ most' n) → AreBounds b month want most upper →
    AreBounds b month want most' upper
bounds_most b month want upper most most' same are = record {
  on_links = are.on_links;
  on_takes = are.on_takes;
  on_outs = λ n l h. are.on_outs n l h ∙ same n l;
}

-- the same bounds and amounts in another list
pub bounds_over : {b : Basin} {month : Month} {want xs ys : List ℕ} {most : ℕ → ℕ} → xs ≡ ys →
    AreBounds b month want most (λ a. slice_index ys a) → AreBounds b month want most (λ a. slice_index xs a)
bounds_over {b} {month} {want} {xs} {ys} {most} same are =
    subst (λ (zs : List ℕ). AreBounds b month want most (λ a. slice_index zs a)) (sym same) are

pub amounts_over : {b : Basin} {p : Plan} {xs ys : List ℕ} → xs ≡ ys → AreAmounts b p (λ a. slice_index ys a) →
    AreAmounts b p (λ a. slice_index xs a)
amounts_over {b} {p} {xs} {ys} same are = subst (λ (zs : List ℕ). AreAmounts b p (λ a. slice_index zs a)) (sym same) are
