-- The steps of a reader's position.
use Rattle.std.proofs.Common.{◌≡◌, ℕ, zero, suc, ◌+◌, ◌-◌, ◌<◌, ◌≤◌, Bool, true, false, refl, ap}
use Rattle.std.proofs.Common.{arith, [], ◌∷◌, ◌++◌, add-one, append_assoc}
use Rattle.std.specs.Prelude.{Some, None, IsTrue, ◌↔◌}
use Rattle.std.specs.List.{flat_map}
use Rattle.water_model.specs.Hydrology.{run_month}
use Rattle.water_model.specs.declared.types.Basin.{Basin}
use Rattle.water_model.specs.Indices.{numbers_from}
use Rattle.result_reader.specs.Form.{is_same_shape, fits, due_in_month, due_for_month}
use Rattle.result_reader.specs.Due.{opened, take_line}
use Rattle.result_reader.specs.Progress.{months_due}
use Rattle.result_lines.specs.declared.item.Item.{Item}
use Rattle.result_reader.specs.declared.shape.Shape.{Shape}
use Rattle.result_reader.specs.declared.shape.Shape.TheVariants as shape
use Rattle.result_reader.proofs.Steps.{same_shape_is, same_shape_itself, take_fits, take_stops}

pub same_result : (r : Bool) (a b : Shape) → (IsTrue r ↔ (a ≡ b)) → r ≡ is_same_shape a b
same_result r a b h = grind (arith, same_shape_itself, same_shape_is)

-- the first of what is due after some months
pub month_is_due : (b : Basin) (begun : ℕ) → begun < b.months →
    months_due b begun ≡ shape.Month (run_month b begun) ∷ (due_in_month b ++ months_due b (begun + 1))
unfolding numbers_from
month_is_due b begun l = by_count (b.months - begun) (omega arith)
  where
    by_count : (n : ℕ) → b.months - begun ≡ n →
        flat_map (due_for_month b) (numbers_from begun (b.months - begun)) ++ shape.Done b.months ∷ []
        ≡ shape.Month (run_month b begun) ∷ (due_in_month
        b ++ (flat_map (due_for_month b) (numbers_from (begun + 1) (b.months - (begun + 1))) ++ shape.Done
        b.months ∷ []))
    by_count zero e = absurd (omega arith)
    by_count (suc n) e =
        let rest : b.months - (begun + 1) ≡ n = omega arith in
        rw (e, rest, add-one begun) (ap (λ xs. shape.Month (run_month b begun) ∷ xs)
        (append_assoc (due_in_month b) (flat_map (due_for_month b) (numbers_from (suc begun) n))
        (shape.Done b.months ∷ [])))

pub done_is_due : (b : Basin) (begun : ℕ) → b.months ≤ begun → months_due b begun ≡ shape.Done b.months ∷ []
unfolding numbers_from
done_is_due b begun l = let none : b.months - begun ≡ 0 = omega arith in rw none refl

pub month_taken : (b : Basin) (begun : ℕ) (i : Item) → begun < b.months →
    fits b (shape.Month (run_month b begun)) i ≡ true →
    take_line b (months_due b begun) i ≡ Some (opened b i ++ (due_in_month b ++ months_due b (begun + 1)))
month_taken b begun i l f = grind (arith, month_is_due, take_fits)

pub month_refused : (b : Basin) (begun : ℕ) (i : Item) → begun < b.months →
    fits b (shape.Month (run_month b begun)) i ≡ false → take_line b (months_due b begun) i ≡ None
month_refused b begun i l f = grind (arith, month_is_due, take_stops)

pub done_taken : (b : Basin) (begun : ℕ) (i : Item) → b.months ≤ begun → fits b (shape.Done b.months) i ≡ true →
    take_line b (months_due b begun) i ≡ Some (opened b i ++ [])
done_taken b begun i l f = grind (arith, done_is_due, take_fits)

pub done_refused : (b : Basin) (begun : ℕ) (i : Item) → b.months ≤ begun → fits b (shape.Done b.months) i ≡ false →
    take_line b (months_due b begun) i ≡ None
done_refused b begun i l f = grind (arith, done_is_due, take_stops)

pub ruleset month_steps = (month_taken, month_refused, done_taken, done_refused)
