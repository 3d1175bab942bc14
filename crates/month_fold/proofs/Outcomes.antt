-- Runs of one basin and series have one outcome.
use Rattle.std.proofs.Common.{◌≡◌, ℕ, zero, suc, ◌<◌, Bool, refl, sym, ap, ◌∙◌, arith, List, [], ◌∷◌, length, inl}
use Rattle.std.proofs.Common.{inr}
use Rattle.std.specs.Prelude.{Option, Some, None, slice_index}
use Rattle.std.proofs.lemmas.Bool.{cases_lt}
use Rattle.water_model.specs.Cuts.{IsReach}
use Rattle.water_model.specs.History.{cut_of, HasReaches}
use Rattle.duality.specs.Laws.{HaveSameOutcome}
use Rattle.water_model.specs.Lookups.{of_entry}
use Rattle.water_model.specs.declared.types.Basin.{Basin}
use Rattle.water_model.specs.declared.types.MonthRecord.{MonthRecord}
use Rattle.duality.proofs.Greatest.{reach_unique}
use Rattle.duality.proofs.Outcome.{one_outcome}
use Rattle.month_fold.specs.Laws.{RunsHaveOneOutcome}

-- two lists of as many rights that have the same set of each
same_sets : (xs ys : List (Option (List Bool))) → length xs ≡ length ys →
    ((r : ℕ) → r < length xs → of_entry xs r (λ set. set) None ≡ of_entry ys r (λ set. set) None) → xs ≡ ys
same_sets [] [] e h = refl
same_sets [] (y ∷ ys) e h = absurd (omega arith)
same_sets (x ∷ xs) [] e h = absurd (omega arith)
same_sets (x ∷ xs) (y ∷ ys) e h =
    let first : x ≡ y = h zero (omega arith) in
    let others : xs ≡ ys = same_sets xs ys (omega arith) (λ r l. h (suc r) (omega arith)) in
    cc

-- the set of a right in two records of one outcome, each with the reaches as its sets
same_cut : (b : Basin) (m n : MonthRecord) → HaveSameOutcome m n → HasReaches b m → HasReaches b n → (r : ℕ) →
    r < length b.rights → cut_of m r ≡ cut_of n r
same_cut b m n same f g r l =
    let delivered = ap (λ ds. slice_index ds r) same.delivered in
    let want = ap (λ ws. slice_index ws r) same.want in
    elim (cases_lt (slice_index m.delivered r) (slice_index m.want r)) [
      | inl short ↦
          let one = f.short r l short in
          let other = g.short r l (omega (arith, delivered, want, short)) in
          one.1 ∙ (ap (λ cut. Some cut)
          (reach_unique b m.month m.supply m.delivered r one.0 other.0 one.2 (back other.0 other.2)) ∙ sym other.1)
      | inr met ↦ f.met r l met ∙ sym (g.met r l (omega (arith, delivered, want, met)))
    ]
  where
    back : (cut : List Bool) → IsReach b n.month n.supply n.delivered r cut →
        IsReach b m.month m.supply m.delivered r cut
    back cut h = rw (same.month, same.supply, same.delivered) h

pub runs_have_one_outcome : RunsHaveOneOutcome
runs_have_one_outcome b series records others valid f g reaches other_reaches len i m n at at' =
    let same = one_outcome b series records others valid f g len i m n at at' in
    let count : length m.cuts.sets ≡ length b.rights = (f.each i m at).after.fits.cuts in
    let other_count : length n.cuts.sets ≡ length b.rights = (g.each i n at').after.fits.cuts in (
      same,
      same_sets m.cuts.sets n.cuts.sets (count ∙ sym other_count)
          (λ r l. same_cut b m n same (reaches i m at) (other_reaches i n at') r (omega (arith, count))),
    )
