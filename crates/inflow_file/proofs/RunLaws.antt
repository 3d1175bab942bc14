-- The months of a run.
use Rattle.inflow_file.proofs.Words.{◌≡◌, ℕ, ◌<◌, true, false, refl, ap, arith, length, get_or, inl, inr, None}
use Rattle.inflow_file.proofs.Words.{cases_Bool, and_parts, eqb-true, eq-eqb, and_from, list_any_none, list_any_at}
use Rattle.inflow_file.proofs.Words.{IsMonth, is_same_month, Month, Basin, is_in_run, months_of}
use Rattle.std.proofs.Common.{◌==◌}
use Rattle.std.proofs.lemmas.List.FromFn.{length-map-range_with_len, get_or-map-range_with_len}
use Rattle.water_model.specs.Hydrology.{index_in_run, month_number, run_month}
use Rattle.water_model.specs.Valid.{IsValidBasin}
use Rattle.water_model.proofs.RunMonths.{months_have_their_index, number_after}
use Rattle.water_text.proofs.MonthLaws.{same_month}

-- months are distinguished by year and month
pub same_month_is : (m n : Month) → is_same_month m n ≡ true → m ≡ n
same_month_is m n h =
    let tests = and_parts (m.year == n.year) (m.month == n.month) h in
    same_month m n (eqb-true m.year n.year tests.0) (eqb-true m.month n.month tests.1)

pub same_month_itself : (m : Month) → is_same_month m m ≡ true
same_month_itself m = and_from _ _ (eq-eqb m.year m.year refl) (eq-eqb m.month m.month refl)

-- the months of a run differ
pub same_index : (b : Basin) (i k : ℕ) → IsMonth b.first → run_month b i ≡ run_month b k → i ≡ k
same_index b i k h e = omega (arith, number_after b.first i h, number_after b.first k h, ap month_number e)

pub length-months : (b : Basin) → length (months_of b) ≡ b.months
length-months b = length-map-range_with_len (λ i. run_month b i) 0 b.months

pub month_there : (b : Basin) (i : ℕ) (d : Month) → i < b.months → get_or (months_of b) i d ≡ run_month b i
month_there b i d l = get_or-map-range_with_len (λ k. run_month b k) 0 b.months i i d l (omega arith)

-- a month of the run
pub month_in_run : (b : Basin) (i : ℕ) → i < b.months → is_in_run b (run_month b i) ≡ true
month_in_run b i l =
    list_any_at (λ n. is_same_month (run_month b i) n) (months_of b) i (run_month b i) (omega (arith, length-months b))
    (rw (month_there b i (run_month b i) l) (same_month_itself (run_month b i)))

-- a month without an index is before the run or after it
pub month_outside : (b : Basin) (m : Month) → IsValidBasin b → IsMonth m → index_in_run b m ≡ None →
    is_in_run b m ≡ false
month_outside b m valid month none = list_any_none (λ n. is_same_month m n) (months_of b) (λ i d l.
    let within : i < b.months = omega (arith, length-months b) in rw (month_there b i d within) (differs i within))
  where
    differs : (i : ℕ) → i < b.months → is_same_month m (run_month b i) ≡ false
    differs i l = elim (cases_Bool (is_same_month m (run_month b i))) [
      | inl same ↦
          let found = (months_have_their_index b m i valid month).1 (l, same_month_is m (run_month b i) same) in cc
      | inr other ↦ other
    ]
