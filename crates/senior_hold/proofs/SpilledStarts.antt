-- A month that starts with each node's supply on its spill: the spills are the last arcs.
use Rattle.std.proofs.Common.{◌≡◌, ℕ, ◌+◌, ◌-◌, ◌^◌, ◌<◌, ◌≤◌, List, ◌++◌, length, replicate, refl, ap, sym, subst}
use Rattle.std.proofs.Common.{arith, ◌∙◌}
use Rattle.std.specs.Prelude.{slice_index}
use Rattle.std.proofs.lemmas.Grind.{common_steps}
use Rattle.std.proofs.lemmas.List.{get_or-replicate}
use Rattle.water_model.specs.declared.types.Basin.{Basin}
use Rattle.water_model.specs.declared.types.Plan.{Plan}
use Rattle.finite_sums.proofs.Totals.{term_le_total}
use Rattle.water_text.specs.declared.month.Month.{Month}
use Rattle.water_model.specs.Plans.{IsPlan}
use Rattle.circulation.specs.Contents.{Contents, on_last}
use Rattle.circulation.specs.declared.Circulation.{Circulation}
use Rattle.circulation.proofs.Starts.{frame_arcs}
use Rattle.senior_hold.specs.Arcs.{AreAmounts}
use Rattle.senior_hold.specs.MonthNetwork.{taker_count, arc_count}
use Rattle.senior_hold.specs.Places.{HasArcs}
use Rattle.senior_hold.specs.Solved.{AreSupplies}
use Rattle.senior_hold.specs.Spilled.{spilled, spill_most, IsSpilledStart}
use Rattle.senior_hold.specs.declared.sweep.Method.{Method}
use Rattle.senior_hold.proofs.Begins.{IsStartOf, spilled_start}
use Rattle.senior_hold.proofs.Spilled.{spilled_plan}
use Rattle.senior_hold.proofs.MonthArcs.{take_arc_below}
use Rattle.senior_hold.proofs.SpilledArcs.{spilled_count, spilled_arcs, spill_is}

-- the amount of an arc that is none of the last, and of one that is
last_before : (arcs : ℕ) (xs : List ℕ) (a : ℕ) → a + length xs < arcs → slice_index (on_last arcs xs) a ≡ 0
last_before arcs xs a below = grind (arith, common_steps)

last_at : (arcs : ℕ) (xs : List ℕ) (k n : ℕ) → k + length xs ≡ arcs →
    slice_index (on_last arcs xs) (k + n) ≡ slice_index xs n
last_at arcs xs k n is = grind (arith, common_steps)

-- there are as many amounts as arcs
pub length-on_last : (arcs : ℕ) (xs : List ℕ) → length xs ≤ arcs → length (on_last arcs xs) ≡ arcs
length-on_last arcs xs bounded = grind (arith, common_steps)

-- and they are those given, where these are as many
pub last_all : {arcs : ℕ} {xs : List ℕ} → length xs ≡ arcs → on_last arcs xs ≡ xs
last_all {arcs} {xs} all =
    let none : arcs - length xs ≡ 0 = omega arith in ap (λ (n : ℕ). replicate {A = ℕ} n 0 ++ xs) none

-- the plan that lets all supply out where it comes in
abbrev pub spilled_of : Basin → List ℕ → Plan
spilled_of b supply = record {
  flow = replicate (length b.links) 0;
  take = replicate (length b.rights) 0;
  out = supply;
}

-- its amounts
pub spilled_laid : (b : Basin) (supply : List ℕ) (arcs : ℕ) → arcs ≡ arc_count (spilled b) →
    length supply ≡ length b.nodes →
    AreAmounts (spilled b) (spilled_of b supply) (λ a. slice_index (on_last arcs supply) a)
spilled_laid b supply arcs all count = record {
  on_links = λ e l. last_before arcs supply e (omega (arith, prefix, l))
      ∙ sym (get_or-replicate {A = ℕ} (length b.links) e 0 0 l);
  on_takes = λ r l h. last_before arcs supply _ (omega (arith, prefix, take_arc_below b r l h))
      ∙ sym (get_or-replicate {A = ℕ} (length b.rights) r 0 0 l);
  on_outs = λ n l h. ap (slice_index (on_last arcs supply))
      (spill_is b n (omega (arith, l, spilled_count b)) ∙ omega arith)
      ∙ last_at arcs supply (length b.links + taker_count b) n prefix;
}
  where
    prefix : length b.links + taker_count b + length supply ≡ arcs
    prefix = omega (arith, all, count, spilled_arcs b)

-- there are as many arcs as the basin has with a spill at each node
pub held_arcs : {b : Basin} {circ : Circulation} {fixed moving : List ℕ} → HasArcs b circ fixed moving →
    circ.arcs ≡ arc_count (spilled b)
held_arcs {b} {circ} {fixed} {moving} h = sym (frame_arcs circ h.contents fixed h.fixed) ∙ h.ends.arcs

pub supplies_bounded : {b : Basin} {supply : List ℕ} {arcs : ℕ} → arcs ≡ arc_count (spilled b) → AreSupplies b supply →
    length supply ≤ arcs
supplies_bounded {b} {supply} {arcs} all given = omega (arith, all, given.count, spilled_arcs b)

-- the plan is one of the month with a spill at each node
spilled_is : (b : Basin) (month : Month) (supply want : List ℕ) → AreSupplies b supply →
    IsPlan (spilled b) month supply want (spilled_of b supply)
spilled_is b month supply want given =
    spilled_plan b month supply want (replicate (length b.links) 0) (replicate (length b.rights) 0) supply
    (length b.links) (length b.rights) refl refl refl refl refl given.count

spilled_small : (b : Basin) (supply : List ℕ) → AreSupplies b supply → (n : ℕ) → n < length b.nodes →
    slice_index supply n ≤ 10 ^ 15
spilled_small b supply given n l =
    omega (arith, term_le_total (length b.nodes) (λ n. slice_index supply n) n l, given.small)

-- a month may start so
pub spilled_starts : {b : Basin} {method : Method} {month : Month} {supply want : List ℕ} {arcs : ℕ} →
    method ≡ Method.Tree → arcs ≡ arc_count (spilled b) → AreSupplies b supply →
    IsStartOf b method month supply want (on_last arcs supply)
spilled_starts {b} {method} {month} {supply} {want} {arcs} is all given = record {
  plan = spilled_of b supply;
  is_plan = spilled_is b month supply want given;
  laid = spilled_laid b supply arcs all given.count;
  fits = λ n l. subst (λ m. slice_index supply n ≤ spill_most b m n) (sym is) (spilled_small b supply given n l);
}

-- and starts with all supply spilled
pub spilled_begun : {b : Basin} {supply : List ℕ} {c : Contents} {arcs : ℕ} → arcs ≡ arc_count (spilled b) →
    AreSupplies b supply → c.flow ≡ on_last arcs supply → IsSpilledStart b supply c
spilled_begun {b} {supply} {c} {arcs} all given is =
    spilled_start given.count (spilled_laid b supply arcs all given.count) is
    (λ e l. get_or-replicate {A = ℕ} (length b.links) e 0 0 l) refl
