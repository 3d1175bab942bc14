-- A list of points is an area table exactly where it has no fault.
use Rattle.std.proofs.Common.{◌≡◌, ℕ, ◌+◌, ◌<◌, ◌≤◌, List, [], ◌∷◌, Option, None, Some, IfNone, sym, inl, inr, nat_le}
use Rattle.std.proofs.Common.{nat_lt, true, false, arith, eqb, refl}
use Rattle.std.proofs.lemmas.Bool.{cases_Bool}
use Rattle.std.proofs.lemmas.Bool.Decides.{nat_tests}
use Rattle.water_model.specs.Valid.{IsAreaTable, RisesFrom}
use Rattle.water_model.specs.declared.types.AreaPoint.{AreaPoint}
use Rattle.reservoirs.specs.declared.TableRefused.{TableRefused}
use Rattle.reservoirs.specs.declared.TableRefused.TheVariants.{Empty, FirstNotZero, NotRising, AreaFalls, OutOfMemory}
use Rattle.reservoirs.specs.AreaFaults.{fault_after, table_fault, IsTableRefusal}

above : (s t : ℕ) → nat_le s t ≡ false → t < s
above s t e = grind (arith, nat_tests)

at_least : (s t : ℕ) → nat_lt s t ≡ false → t ≤ s
at_least s t e = grind (arith, nat_tests)

is_zero : (s : ℕ) → (eqb s 0) ≡ true → s ≡ 0
is_zero s e = grind (arith, nat_tests)

rises : (before : AreaPoint) (n : ℕ) (points : List AreaPoint) → fault_after before n points ≡ None →
    RisesFrom before points
rises before n [] e = tt
rises before n (p ∷ points) e =
    elim (cases_Bool (nat_le p.storage before.storage)) [
      | inl low ↦ (let h = rw low at e in cc)
      | inr high ↦ elim (cases_Bool (nat_lt p.area before.area)) [
        | inl falls ↦ (let h = rw (high, falls) at e in cc)
        | inr stays ↦ (above _ _ high, at_least _ _ stays, rises p (n + 1) points (rw (high, stays) at e))
      ]
    ]

pub is_table : (points : List AreaPoint) → table_fault points ≡ None → IsAreaTable points
is_table [] e = cc
is_table (p ∷ points) e =
    elim (cases_Bool (eqb p.storage 0)) [
      | inl begins ↦ (is_zero p.storage begins, rises p 1 points (rw begins at e))
      | inr other ↦ (let h = rw other at e in cc)
    ]

not_above : (s t : ℕ) → t < s → nat_le s t ≡ false
not_above s t l = grind (arith, nat_tests)

not_below : (s t : ℕ) → t ≤ s → nat_lt s t ≡ false
not_below s t l = grind (arith, nat_tests)

begins_at_zero : (s : ℕ) → s ≡ 0 → eqb s 0 ≡ true
begins_at_zero s e = grind (arith, nat_tests)

no_fault_after : (before : AreaPoint) (n : ℕ) (points : List AreaPoint) → RisesFrom before points →
    fault_after before n points ≡ None
no_fault_after before n [] h = refl
no_fault_after before n (p ∷ points) h =
    rw (not_above p.storage before.storage h.0, not_below p.area before.area h.1)
    (no_fault_after p (n + 1) points h.2)

-- and an area table has no fault
pub no_fault : (points : List AreaPoint) → IsAreaTable points → table_fault points ≡ None
no_fault [] h = absurd h
no_fault (p ∷ points) h = rw (begins_at_zero p.storage h.0) (no_fault_after p 1 points h.1)

-- want of memory is no fault of points
not_memory_after : (before : AreaPoint) (n : ℕ) (points : List AreaPoint) →
    fault_after before n points ≡ Some OutOfMemory → ⊥
not_memory_after before n [] h = cc
not_memory_after before n (p ∷ points) h =
    elim (cases_Bool (nat_le p.storage before.storage)) [
      | inl low ↦ (let found = rw low at h in cc)
      | inr high ↦ elim (cases_Bool (nat_lt p.area before.area)) [
        | inl falls ↦ (let found = rw (high, falls) at h in cc)
        | inr stays ↦ not_memory_after p (n + 1) points (rw (high, stays) at h)
      ]
    ]

pub not_memory : (points : List AreaPoint) → table_fault points ≡ Some OutOfMemory → ⊥
not_memory [] h = cc
not_memory (p ∷ points) h =
    elim (cases_Bool (eqb p.storage 0)) [
      | inl begins ↦ not_memory_after p 1 points (rw begins at h)
      | inr other ↦ (let found = rw other at h in cc)
    ]

-- so a refusal by the first fault is one
pub refused_by : (points : List AreaPoint) (e : TableRefused) → Some e ≡ table_fault points →
    IsTableRefusal e points
refused_by points Empty h = sym h
refused_by points FirstNotZero h = sym h
refused_by points (NotRising n) h = sym h
refused_by points (AreaFalls n) h = sym h
refused_by points OutOfMemory h = absurd (not_memory points (sym h))

-- where the first fault is none, they are an area table
pub sound_by : (points : List AreaPoint) (fault : Option TableRefused) → fault ≡ table_fault points →
    IfNone fault (IsAreaTable points)
sound_by points None e = is_table points (sym e)
sound_by points (Some found) e = tt
