-- Ledgers of months in a row, and of one month.
use Rattle.std.proofs.Common.{◌≡◌, ℕ, suc, ◌+◌, ◌-◌, sym, ◌∙◌, ap, ap₂, arith, List, [], ◌∷◌, subst}
use Rattle.std.proofs.lemmas.Grind.{same_number_lists}
use Rattle.std.proofs.lemmas.List.Sums.{sum_by-cons}
use Rattle.std.specs.Prelude.{slice_index}
use Rattle.stored_water.proofs.Drawing.{draws_have_one_outcome}
use Rattle.stored_water.specs.DrawLaws.{MonthsHaveOneOutcome}
use Rattle.water_model.specs.Draws.{AreDrawn}
use Rattle.water_model.specs.declared.types.Basin.{Basin}
use Rattle.water_text.specs.declared.month.Month.{Month}
use Rattle.water_model.specs.Accounts.{IsLedger, Ledger, loss_of, spill_of, fill_of, left_of}
use Rattle.stored_water.specs.AccountLaws.{BooksBalanceOverMonths, CarriedIsOne, LedgerIsOne}

pub books_balance_over_months : BooksBalanceOverMonths
books_balance_over_months holding [] k row balanced = omega arith
books_balance_over_months holding (l ∷ ledgers) k row balanced =
    omega (
      arith,
      books_balance_over_months l.closing ledgers k row.1 (λ i d m. balanced (suc i) d (omega arith)),
      ap (λ (xs : List ℕ). slice_index xs k) row.0,
      balanced 0 l (omega arith),
      sum_by-cons (λ (m : Ledger). slice_index m.filled k) l ledgers,
      sum_by-cons (λ (m : Ledger). slice_index m.lost k) l ledgers,
      sum_by-cons (λ (m : Ledger). slice_index m.spilled k) l ledgers,
      sum_by-cons (λ (m : Ledger). slice_index m.drawn k) l ledgers,
    )

-- what comes before the first step doesn't hang on it
pub carried_is_one : CarriedIsOne
carried_is_one b opening evaporated number delivered amounts others draws l m one other same = (lost, spilled, carried)
  where
    lost : l.lost ≡ m.lost
    lost =
        same_number_lists l.lost m.lost (one.fits.lost ∙ sym other.fits.lost)
        (λ k h. one.lost k (omega (arith, one.fits.lost))
        ∙ (ap (λ (xs : List ℕ). loss_of b opening evaporated xs k) same
        ∙ sym (other.lost k (omega (arith, one.fits.lost)))))

    spilled : l.spilled ≡ m.spilled
    spilled =
        same_number_lists l.spilled m.spilled (one.fits.spilled ∙ sym other.fits.spilled)
        (λ k h. one.spilled k (omega (arith, one.fits.spilled))
        ∙ (ap₂ (λ (xs ys : List ℕ). spill_of b number xs ys k) same lost
        ∙ sym (other.spilled k (omega (arith, one.fits.spilled)))))

    carried : l.carried ≡ m.carried
    carried =
        same_number_lists l.carried m.carried (one.fits.carried ∙ sym other.fits.carried)
        (λ k h. one.carried k (omega (arith, one.fits.carried))
        ∙ (ap₂ (λ x y. x - y) (ap₂ (λ (xs ys : List ℕ). left_of xs ys k) same lost)
        (ap (λ (xs : List ℕ). slice_index xs k) spilled)
        ∙ sym (other.carried k (omega (arith, one.fits.carried)))))

-- nor what is filled on draws
filled_is_one : (b : Basin) (opening evaporated : List ℕ) (number : ℕ → ℕ) (delivered amounts others : List ℕ)
    (l m : Ledger) → IsLedger b opening evaporated number delivered amounts l →
    IsLedger b opening evaporated number delivered others m → l.opening ≡ m.opening → l.filled ≡ m.filled
filled_is_one b opening evaporated number delivered amounts others l m one other same =
    same_number_lists l.filled m.filled (one.fits.filled ∙ sym other.fits.filled)
    (λ k h. one.filled k (omega (arith, one.fits.filled))
    ∙ (ap (λ (xs : List ℕ). fill_of b delivered xs k)
    (carried_is_one b opening evaporated number delivered amounts delivered others l m one other same).2
    ∙ sym (other.filled k (omega (arith, one.fits.filled)))))

pub ledger_is_one : LedgerIsOne
ledger_is_one b opening evaporated number delivered amounts l m one other same = record {
  lost = before.0;
  spilled = before.1;
  carried = before.2;
  filled = filled;
  drawn = drawn;
  closing = same_number_lists l.closing m.closing (one.fits.closing ∙ sym other.fits.closing)
      (λ k h. one.closing k (omega (arith, one.fits.closing))
      ∙ (ap₂ (λ x y. x - y)
      (ap₂ ◌+◌ (ap (λ (xs : List ℕ). slice_index xs k) before.2) (ap (λ (xs : List ℕ). slice_index xs k) filled))
      (ap (λ (xs : List ℕ). slice_index xs k) drawn)
      ∙ sym (other.closing k (omega (arith, one.fits.closing)))));
}
  where
    before : (l.lost ≡ m.lost) × (l.spilled ≡ m.spilled) × (l.carried ≡ m.carried)
    before = carried_is_one b opening evaporated number delivered amounts delivered amounts l m one other same

    filled : l.filled ≡ m.filled
    filled = filled_is_one b opening evaporated number delivered amounts amounts l m one other same

    drawn : l.drawn ≡ m.drawn
    drawn =
        same_number_lists l.drawn m.drawn (one.fits.drawn ∙ sym other.fits.drawn)
        (λ k h. one.drawn k (omega (arith, one.fits.drawn)) ∙ sym (other.drawn k (omega (arith, one.fits.drawn))))

-- draws look at no more of a ledger than what is carried and filled
drawn_by_stock : (b : Basin) (month : Month) (held : ℕ → ℕ) (supply : List ℕ) (asked number : ℕ → ℕ)
    (delivered : List ℕ) (l m : Ledger) (amounts : List ℕ) → l.carried ≡ m.carried → l.filled ≡ m.filled →
    AreDrawn b month held supply asked number delivered m amounts →
    AreDrawn b month held supply asked number delivered l amounts
drawn_by_stock b month held supply asked number delivered l m amounts carried filled drawn = record {
  one_each = changed.one_each;
  each = λ j h from to is_from is_to taken takes.
      changed.each j h from to is_from is_to taken (record { one_each = takes.one_each; each = takes.each });
}
  where
    changed : AreDrawn b month held supply asked number delivered
        (record m { carried = l.carried; filled = l.filled }) amounts
    changed =
        subst
        (λ (xs : List ℕ). AreDrawn b month held supply asked number delivered
        (record m { carried = l.carried; filled = xs }) amounts)
        (sym filled)
        (subst
        (λ (xs : List ℕ). AreDrawn b month held supply asked number delivered (record m { carried = xs }) amounts)
        (sym carried) drawn)

pub months_have_one_outcome : MonthsHaveOneOutcome
months_have_one_outcome b month held supply opening evaporated asked number delivered amounts others l m sited one other
    same drawn also = (
      equal,
      ledger_is_one b opening evaporated number delivered amounts l m one
          (subst (λ (xs : List ℕ). IsLedger b opening evaporated number delivered xs m) (sym equal) other) same,
    )
  where
    equal : amounts ≡ others
    equal =
        draws_have_one_outcome b month held supply asked number delivered l amounts others sited drawn
        (drawn_by_stock b month held supply asked number delivered l m others
        (carried_is_one b opening evaporated number delivered amounts delivered others l m one other same).2
        (filled_is_one b opening evaporated number delivered amounts others l m one other same) also)
