-- No spill gets full, so that each turn loses at most one push of the budget.
use Rattle.std.proofs.Common.{◌≡◌, ℕ, ◌+◌, ◌-◌, ◌^◌, ◌<◌, ◌≤◌, sym, ◌∙◌, ap, arith, List, length}
use Rattle.std.specs.Prelude.{slice_index}
use Rattle.finite_sums.specs.Sums.{total, when}
use Rattle.finite_sums.proofs.Totals.{term_le_total}
use Rattle.water_model.specs.Basin.{is_outlet}
use Rattle.water_model.specs.Valid.{IsValidBasin}
use Rattle.water_text.specs.declared.month.Month.{Month}
use Rattle.water_model.specs.declared.types.Basin.{Basin}
use Rattle.river_net.specs.Net.{total_of}
use Rattle.circulation.specs.Contents.{Contents, network, flow_of}
use Rattle.circulation.proofs.Overs.{over_forward}
use Rattle.senior_hold.specs.MonthNetwork.{out_arc, spill_arc, IsMonthNetwork}
use Rattle.senior_hold.specs.Serving.{FillsExit}
use Rattle.senior_hold.specs.declared.serving.Claim.{Claim}
use Rattle.senior_hold.specs.Solved.{AreSupplies}
use Rattle.senior_hold.specs.declared.sweep.Method.{Method}
use Rattle.senior_hold.specs.Spilled.{spilled, spills_of, SpillsAreOf}
use Rattle.senior_hold.proofs.Plans.{list_get, list_len}
use Rattle.senior_hold.proofs.SettledPlans.{spills_bounded}
use Rattle.senior_hold.proofs.TreeServes.{raised_net}
use Rattle.senior_hold.proofs.Spilled.{spill_read}
use Rattle.senior_hold.proofs.SpilledArcs.{spilled_count}

-- one spill is at most all of them
spill_most : (b : Basin) (g : ℕ → ℕ) (n : ℕ) → n < length b.nodes → g (spill_arc b n) ≤ total_of (spills_of b g)
spill_most b g n l =
    let spilt = λ (v : ℕ). when (is_outlet (spilled b) v) (g (out_arc (spilled b) v)) in
    let count : length (spills_of b g) ≡ length b.nodes = list_len (length (spilled b).nodes) spilt ∙ spilled_count b in
    let is = list_get (length (spilled b).nodes) spilt n (omega (arith, l, spilled_count b)) ∙ spill_read b g n l in
    omega (
      arith,
      is,
      term_le_total (length (spills_of b g)) (λ k. slice_index (spills_of b g) k) n (omega (arith, l, count)),
    )

-- no raise fills a spill, which may have more than all supply
pub never_full : {b : Basin} {month : Month} {supply want : List ℕ} {c : Contents} {x : Claim} → FillsExit c x →
    IsValidBasin b → AreSupplies b supply → IsMonthNetwork (spilled b) month supply want (network c) →
    SpillsAreOf b Method.Tree c → spill_arc b 0 ≤ x.exit → x.exit < spill_arc b 0 + c.nodes → ⊥
never_full {b} {month} {supply} {want} {c} {x} fills valid supplies net wide above below =
    let d = fills.then in
    let node = x.exit - spill_arc b 0 in
    let inside : node < length b.nodes = omega (arith, spilled_count b, net.ends.nodes) in
    let is : spill_arc b node ≡ x.exit = omega arith in
    let now = raised_net fills.rest net in
    let small : total (length b.nodes) (λ v. slice_index supply v) < 10 ^ 15 = let bounded = supplies.small in
    omega arith in
    let bounded = spills_bounded valid now fills.kept.flow small in
    let most = spill_most b (flow_of d) node inside in
    let upper = ap (λ (d : Contents). slice_index d.upper x.exit) fills.rest.rest
    ∙ (ap (slice_index c.upper) (sym is) ∙ wide node inside) in
    let flow = ap (flow_of d) is in
    let room = (over_forward (network d) (flow_of d) x.exit).room in
    omega (arith, bounded, most, upper, flow, room, fills.full)
