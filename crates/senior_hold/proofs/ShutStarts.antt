-- A month that starts from a plan, over the network with a spill at each node of which only those of outlets carry
-- anything.
use Rattle.std.proofs.Common.{◌≡◌, ℕ, ◌+◌, ◌<◌, ◌≤◌, ◌^◌, Bool, true, false, sym, ◌∙◌, ap, subst, arith}
use Rattle.std.proofs.Common.{List, length, inl, inr}
use Rattle.std.proofs.lemmas.Bool.{cases_Bool, le-ltb, false≢true}
use Rattle.std.specs.Prelude.{slice_index, nat_lt}
use Rattle.finite_sums.specs.Sums.{total, count_where, when}
use Rattle.finite_sums.proofs.Totals.{total_append, total_le, total_most, term_le_total}
use Rattle.water_model.specs.Basin.{is_outlet}
use Rattle.water_model.specs.Plans.{IsPlan}
use Rattle.water_model.specs.Valid.{IsValidBasin}
use Rattle.water_model.specs.declared.types.Basin.{Basin}
use Rattle.water_model.specs.declared.types.Plan.{Plan}
use Rattle.water_text.specs.declared.month.Month.{Month}
use Rattle.circulation.specs.Contents.{Contents, network}
use Rattle.augment.specs.Raised.{open_arcs}
use Rattle.senior_hold.specs.Arcs.{AreAmounts}
use Rattle.senior_hold.specs.MonthNetwork.{taker_count, spill_arc, arc_count, HasBasinEnds}
use Rattle.senior_hold.specs.Solved.{AreSupplies}
use Rattle.senior_hold.specs.Spilled.{spilled, spill_most, SpillsAreOf}
use Rattle.senior_hold.specs.declared.sweep.Method.{Method}
use Rattle.senior_hold.proofs.Begins.{IsStartOf}
use Rattle.senior_hold.proofs.SettledPlans.{spills_most}
use Rattle.senior_hold.proofs.SpilledArcs.{spilled_count, spilled_outlet, spilled_arcs}

-- a plan of the basin is one where each node may let water out
plan_up : (b : Basin) (month : Month) (supply want : List ℕ) (p : Plan) → IsPlan b month supply want p →
    IsPlan (spilled b) month supply want p
plan_up b month supply want p plan = record {
  flow_len = plan.flow_len;
  take_len = plan.take_len;
  out_len = plan.out_len ∙ sym (spilled_count b);
  carries = plan.carries;
  wants = plan.wants;
  instream = plan.instream;
  outlets = λ v l h. absurd (false≢true (sym h ∙ spilled_outlet b v (omega (arith, l, spilled_count b))));
  balance = λ v l. plan.balance v (omega (arith, l, spilled_count b));
}

-- what is let out is no more than there may be
outs_fit : (b : Basin) (month : Month) (supply want : List ℕ) (p : Plan) → IsValidBasin b → AreSupplies b supply →
    IsPlan b month supply want p → (n : ℕ) → n < length b.nodes →
    slice_index p.out n ≤ spill_most b Method.Searches n
outs_fit b month supply want p valid given plan n l = elim (cases_Bool (is_outlet b n)) [
  | inl let_out ↦ omega (
    arith,
    term_le_total (length b.nodes) (λ v. slice_index p.out v) n l,
    spills_most b month supply want p valid (plan_up b month supply want p plan),
    given.small,
    ap (λ (t : Bool). when t (10 ^ 15)) let_out,
  )
  | inr shut ↦ omega (arith, plan.outlets n l shut)
]

-- a month may start from a plan
pub shut_starts : {b : Basin} {method : Method} {month : Month} {supply want start : List ℕ} {p : Plan} →
    method ≡ Method.Searches → IsValidBasin b → AreSupplies b supply → IsPlan b month supply want p →
    AreAmounts (spilled b) p (λ a. slice_index start a) → IsStartOf b method month supply want start
shut_starts {b} {method} {month} {supply} {want} {start} {p} is valid given plan laid = record {
  plan = p;
  is_plan = plan_up b month supply want p plan;
  laid = laid;
  fits = λ n l. subst (λ m. slice_index p.out n ≤ spill_most b m n) (sym is)
      (outs_fit b month supply want p valid given plan n l);
}

-- no more arcs may carry anything than the basin has links, takers and outlets
pub open_bounded : (b : Basin) (c : Contents) → HasBasinEnds (spilled b) (network c) →
    SpillsAreOf b Method.Searches c →
    open_arcs (network c) ≤ arc_count b
open_bounded b c ends outlets =
    let links = length b.links in
    let takers = taker_count b in
    let nodes = length b.nodes in
    let f : ℕ → ℕ = λ a. when (nat_lt 0 (slice_index c.upper a)) 1 in
    let all : open_arcs (network c) ≡ total (links + (takers + nodes)) f =
    ap (λ n. total n f) (ends.arcs ∙ spilled_arcs b) in
    let first = total_most links 1 f (λ k l. one (nat_lt 0 (slice_index c.upper k))) in
    let second = total_most takers 1 (λ k. f (links + k)) (λ k l. one (nat_lt 0 (slice_index c.upper (links + k)))) in
    let third : total nodes (λ n. f (spill_arc b n)) ≤ count_where nodes (λ n. is_outlet b n) =
    total_le nodes (λ n. f (spill_arc b n)) (λ n. when (is_outlet b n) 1)
    (λ n l. outlet (is_outlet b n) (slice_index c.upper (spill_arc b n)) (outlets n l)) in
    omega (
      arith,
      all,
      first,
      second,
      third,
      total_append links (takers + nodes) f,
      total_append takers nodes (λ k. f (links + k)),
    )
  where
    one : (t : Bool) → when t 1 ≤ 1
    one true = omega arith
    one false = omega arith

    outlet : (t : Bool) (x : ℕ) → x ≡ when t (10 ^ 15) → when (nat_lt 0 x) 1 ≤ when t 1
    outlet true x h = one (nat_lt 0 x)
    outlet false x h = omega (arith, ap (λ (t : Bool). when t 1) (le-ltb 0 x (omega arith)))
