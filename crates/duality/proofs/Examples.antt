-- Worked numbers.
use Rattle.std.proofs.Common.{◌≡◌, ℕ, zero, suc, ◌+◌, ◌*◌, ◌<◌, ◌≤◌, true, false, refl, arith, [], ◌∷◌}
use Rattle.std.specs.Prelude.{pos, slice_index, slice_get, None, IsTrue}
use Rattle.finite_sums.specs.Sums.{total, greatest_where}
use Rattle.water_model.specs.Basin.{is_outlet, is_senior, taking_node}
use Rattle.water_model.specs.Plans.{inflow_to, outflow_from, taken_at, delivery, carry_of}
use Rattle.duality.specs.Parts.{times, in_parts, IsPlanInParts}
use Rattle.duality.specs.Alike.{HasSameSeniors, IsUpTo}
use Rattle.water_model.specs.Cuts.{cut_bound, kept_on}
use Rattle.water_text.specs.declared.month.Month.{Month}
use Rattle.water_model.specs.declared.types.Basin.{Basin}
use Rattle.water_model.specs.declared.types.Plan.{Plan}
use Rattle.water_model.proofs.Worked.{stream, old, new, fish}

abbrev january : Month
january = record { year = 1900; month = 1 }

-- two diversions: the junior at the top gets what the senior below leaves
abbrev two : Basin
two = stream 80 (old ∷ new 1920 ∷ [])

all_bound : cut_bound two january (80 ∷ 0 ∷ 0 ∷ []) (60 ∷ 20 ∷ []) 1
    (true ∷ true ∷ true ∷ []) ≡ pos 20
unfolding total greatest_where
all_bound = refl

top_mid_bound : cut_bound two january (80 ∷ 0 ∷ 0 ∷ []) (60 ∷ 20 ∷ []) 1
    (true ∷ true ∷ false ∷ []) ≡ pos 20
unfolding total greatest_where
top_mid_bound = refl

top_bound : cut_bound two january (80 ∷ 0 ∷ 0 ∷ []) (60 ∷ 20 ∷ []) 1
    (true ∷ false ∷ false ∷ []) ≡ pos 80
unfolding total greatest_where
top_bound = refl

balance_mid : inflow_to two (60 ∷ 0 ∷ []) 1 ≡ outflow_from two (60 ∷ 0 ∷ []) 1 + taken_at two (60 ∷ 20 ∷ []) 1
unfolding total
balance_mid = refl

-- with an instream right of 1880 that wants 30 on the first link
abbrev three : Basin
three = stream 80 (old ∷ new 1920 ∷ fish ∷ [])

kept_first : kept_on three (40 ∷ 0 ∷ 30 ∷ []) 1 0 ≡ 30
unfolding greatest_where
kept_first = refl

top_bound_kept : cut_bound three january (40 ∷ 0 ∷ 0 ∷ []) (40 ∷ 0 ∷ 30 ∷ []) 1
    (true ∷ false ∷ false ∷ []) ≡ pos 10
unfolding total greatest_where
top_bound_kept = refl

of_fish : delivery three (60 ∷ 50 ∷ 30 ∷ [])
    (record { flow = 40 ∷ 0 ∷ []; take = 40 ∷ 0 ∷ 0 ∷ []; out = 0 ∷ 0 ∷ 0 ∷ [] }) 2 ≡ 30
of_fish = refl

-- a plan in halves of a unit that is none in whole units: it leaves one half to the mouth
abbrev halves : Plan
halves = record { flow = 121 ∷ 1 ∷ []; take = 120 ∷ 39 ∷ []; out = 0 ∷ 0 ∷ 1 ∷ [] }

halves_are_plan : IsPlanInParts two 2 january (80 ∷ 0 ∷ 0 ∷ []) (60 ∷ 50 ∷ []) halves
unfolding total
halves_are_plan = record {
  flow_len = refl;
  take_len = refl;
  out_len = refl;
  carries = carries;
  wants = wants;
  instream = instream;
  outlets = outlets;
  balance = balance;
}
  where
    carries : (e : ℕ) → e < 2 → slice_index (121 ∷ 1 ∷ []) e ≤ 2 * carry_of two january e
    carries zero l = omega arith
    carries (suc zero) l = omega arith
    carries (suc (suc e)) l = absurd (omega arith)

    wants : (r : ℕ) → r < 2 → slice_index (120 ∷ 39 ∷ []) r ≤ slice_index (times 2 (60 ∷ 50 ∷ [])) r
    wants zero l = omega arith
    wants (suc zero) l = omega arith
    wants (suc (suc r)) l = absurd (omega arith)

    instream : (r : ℕ) → r < 2 → taking_node two r ≡ None → slice_index (120 ∷ 39 ∷ []) r ≡ 0
    instream zero l h = absurd (cc (h))
    instream (suc zero) l h = absurd (cc (h))
    instream (suc (suc r)) l h = absurd (omega arith)

    outlets : (n : ℕ) → n < 3 → is_outlet two n ≡ false → slice_index (0 ∷ 0 ∷ 1 ∷ []) n ≡ 0
    outlets zero l h = refl
    outlets (suc zero) l h = refl
    outlets (suc (suc zero)) l h = absurd (cc (h))
    outlets (suc (suc (suc n))) l h = absurd (omega arith)

    balance : (n : ℕ) → n < 3 →
        slice_index (times 2 (80 ∷ 0 ∷ 0 ∷ [])) n + inflow_to two (121 ∷ 1 ∷ []) n
        ≡ outflow_from two (121 ∷ 1 ∷ []) n + taken_at two (120 ∷ 39 ∷ []) n + slice_index (0 ∷ 0 ∷ 1 ∷ []) n
    balance zero l = refl
    balance (suc zero) l = refl
    balance (suc (suc zero)) l = refl
    balance (suc (suc (suc n))) l = absurd (omega arith)

-- what the month delivers, counted in halves
in_halves : in_parts 2 (record { flow = 60 ∷ 0 ∷ []; take = 60 ∷ 20 ∷ []; out = 0 ∷ 0 ∷ 0 ∷ [] })
    ≡ record { flow = 120 ∷ 0 ∷ []; take = 120 ∷ 40 ∷ []; out = 0 ∷ 0 ∷ 0 ∷ [] }
in_halves = refl

-- the old right has no senior, with the new one and without it
without_new : HasSameSeniors (stream 80 (old ∷ [])) two (λ s. s) 0
without_new = record { in_range = omega arith; same = same; no_other = no_other }
  where
    same : (s : ℕ) → s < 1 → IsUpTo (stream 80 (old ∷ [])) s 0 → slice_get (old ∷ new 1920 ∷ []) s
        ≡ slice_get (old ∷ []) s
    same zero l up = refl
    same (suc s) l up = absurd (omega arith)

    no_other : (u : ℕ) → u < 2 → IsTrue (is_senior two u 0) →
        (s : ℕ) × (s < 1) × IsTrue (is_senior (stream 80 (old ∷ [])) s 0) × (s ≡ u)
    no_other zero l h = absurd (cc (h))
    no_other (suc zero) l h = absurd (cc (h))
    no_other (suc (suc u)) l h = absurd (omega arith)
