-- The parts of what a check state keeps, at first and where one amount changes.
use Rattle.std.proofs.Common.{◌≡◌, ℕ, Bool, true, false, refl, ap, ◌∙◌, arith, List, length, take}
use Rattle.std.specs.Prelude.{Option, Some, None, ◌&&◌, not, slice_set}
use Rattle.std.proofs.Math.ListN.{length-set}
use Rattle.cut_cert.specs.Callers.{AreCallers}
use Rattle.month_terms.proofs.BlankRecords.{blank_fits}
use Rattle.month_terms.specs.Terms.{FitsRecord}
use Rattle.water_text.specs.Months.{IsMonth}
use Rattle.water_text.specs.declared.month.Month.{Month}
use Rattle.water_model.specs.Blank.{blank_month}
use Rattle.water_model.specs.CutSets.{CutSets}
use Rattle.water_model.specs.Entries.{count_in}
use Rattle.result_lines.specs.Quantities.{amounts_of, space_of, with_amounts}
use Rattle.water_model.specs.History.{calls, calling_right}
use Rattle.water_model.specs.Indices.{seniors_first}
use Rattle.result_lines.specs.declared.quantity.Quantity.{Quantity}
use Rattle.water_model.specs.declared.types.Basin.{Basin}
use Rattle.water_model.specs.declared.types.Series.{Series}
use Rattle.water_model.specs.declared.types.MonthRecord.{MonthRecord}
use Rattle.result_reader.specs.ReadSoFar.{with_supply}
use Rattle.cert_check.specs.Keeping.{AreAnswered, AreSettled, IsCalling, callers_of, is_supplied}
use Rattle.cert_check.specs.Shows.{IsRecordOf}

pub clash : {X : Type 0} → false ≡ true → X
clash e = cc

-- no right's nodes come
pub nobody : (b : Basin) (cuts : CutSets) → IsCalling b cuts None None
nobody b cuts = record { so_far = refl; held = λ r e. (let never : None ≡ Some r = e in cc) }

-- no right is passed, or answered

pub none_settled : (b : Basin) (m : MonthRecord) → AreSettled b m 0
none_settled b m = record { within = omega arith; each = refl }

pub none_answered : (b : Basin) (m : MonthRecord) {lines : ℕ} → lines ≡ 0 → AreAnswered b m 0 lines
none_answered b m e = record { within = omega arith; called = e }

-- nothing was read of a month but its index and its calendar month
pub blank_is : {b : Basin} {index other : ℕ} {month : Month} → IsMonth month → index ≡ other →
    IsRecordOf b (blank_month b index month) (blank_month b other month)
blank_is {b} {index} {other} {month} calendar same =
    record { fits = blank_fits b index month; calendar = calendar; shows = assumption (same, refl) }

-- each list of amounts has one for each entry
pub amounts_sized : {b : Basin} {m : MonthRecord} → FitsRecord b m → (q : Quantity) →
    length (amounts_of q m) ≡ count_in (space_of q) b
amounts_sized k q = grind arith

-- One amount changes.

abbrev pub with_amount : Quantity → ℕ → ℕ → MonthRecord → MonthRecord
with_amount q entry amount m = with_amounts q m (slice_set (amounts_of q m) entry amount)

-- a list keeps its length, and stays the one that was read
pub put_both : {A : Type 0} {xs now : List A} {n : ℕ} (position : ℕ) (x : A) → length xs ≡ n → xs ≡ now →
    (length (slice_set xs position x) ≡ n) × (slice_set xs position x ≡ slice_set now position x)
put_both {xs = xs} position x l e = (length-set xs position x ∙ l, ap (λ ys. slice_set ys position x) e)

pub record_with : {b : Basin} (q : Quantity) (entry amount : ℕ) {m now : MonthRecord} → IsRecordOf b m now →
    IsRecordOf b (with_amount q entry amount m) (with_amount q entry amount now)
record_with q entry amount k = grind (arith, put_both)

-- what no amount of an entry touches
pub record Stays (m n : MonthRecord) : Type 0 where
  pub month : n.month ≡ m.month
  pub want : n.want ≡ m.want
  pub take : n.plan.take ≡ m.plan.take
  pub delivered : n.delivered ≡ m.delivered
  pub cuts : n.cuts ≡ m.cuts

pub stays : (q : Quantity) (entry amount : ℕ) (m : MonthRecord) → Stays m (with_amount q entry amount m)
stays q entry amount m = grind arith

-- callers follow from deliveries, wants and sets
pub callers_same : (b : Basin) (m n : MonthRecord) → m.delivered ≡ n.delivered → m.want ≡ n.want →
    m.cuts.sets ≡ n.cuts.sets → (xs : List ℕ) → callers_of b m xs ≡ callers_of b n xs
unfolding calling_right calls
callers_same b m n d w s xs = rw (d, w, s) refl

-- what follows from these stays with them

pub callers_stay : {b : Basin} {m n : MonthRecord} {callers : List (Option ℕ)} → Stays m n → AreCallers b m callers →
    AreCallers b n callers
callers_stay s known = grind arith

pub settled_stay : {b : Basin} {m n : MonthRecord} {count : ℕ} → Stays m n → AreSettled b m count → AreSettled b n count
settled_stay s k =
    record { within = k.within; each = rw (s.delivered, s.want, s.cuts) k.each }

pub answered_stay : {b : Basin} {m n : MonthRecord} {count lines : ℕ} → Stays m n → AreAnswered b m count lines →
    AreAnswered b n count lines
answered_stay {b} {m} {n} {count} s k = grind (arith, callers_same, take, seniors_first)

-- the supply that is made stays so, unless it is made of the quantity
pub supply_stays : (b : Basin) (series : Series) (q : Quantity) (entry amount : ℕ) (m now : MonthRecord)
    (made : Bool) → (made ≡ true → m.supply ≡ (with_supply b series now).supply) → made && not (is_supplied q) ≡ true →
    (with_amount q entry amount m).supply ≡ (with_supply b series (with_amount q entry amount now)).supply
supply_stays b series q entry amount m now made h e = grind arith
