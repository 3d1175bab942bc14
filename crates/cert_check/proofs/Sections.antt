-- What the rows say of the lines of a month before its `out` lines.
use Rattle.std.proofs.Common.{◌≡◌, ℕ, false, refl, sym, ap, ◌∙◌, arith, List, map}
use Rattle.std.specs.Prelude.{None, ◌&&◌, not, ◌==◌, nat_lt, slice_index}
use Rattle.std.proofs.lemmas.Bool.Decides.{nat_tests}
use Rattle.std.proofs.lemmas.Bool.{or_from, or_parts}
use Rattle.water_text.specs.declared.month.Month.{Month}
use Rattle.water_model.specs.Basin.{instream_link}
use Rattle.water_model.specs.History.{opening_after}
use Rattle.water_model.specs.Hydrology.{in_year, evaporation, returned_at, used_of, want_of}
use Rattle.water_model.specs.Lookups.{of_entry}
use Rattle.water_model.specs.Plans.{carry_of}
use Rattle.result_lines.specs.declared.item.Item.TheVariants as line
use Rattle.result_lines.specs.declared.quantity.Quantity.TheVariants as quantity
use Rattle.water_model.specs.declared.types.Basin.{Basin}
use Rattle.water_model.specs.declared.types.Series.{Series}
use Rattle.water_model.specs.declared.types.MonthRecord.{MonthRecord}
use Rattle.result_reader.specs.ReadSoFar.{ReadSoFar}
use Rattle.cert_check.specs.Checking.{rows, amount_wrong}
use Rattle.cert_check.proofs.Rows.{NoneHolds, Section, early_good, is_same, same_is}
use Rattle.water_text.proofs.MonthLaws.{same_month}

-- what the rows of a section need of what was read
abbrev pub After : List MonthRecord → ReadSoFar → Type 0
After before t = (t.calling ≡ None) × (t.months ≡ before)

abbrev pub AfterAt : List MonthRecord → ℕ → ReadSoFar → Type 0
AfterAt before index t = (t.calling ≡ None) × (t.months ≡ before) × (t.now.index ≡ index)

abbrev pub Opened : ℕ → List ℕ → ReadSoFar → Type 0
Opened index opening t = (t.calling ≡ None) × (t.now.index ≡ index) × (t.now.opening ≡ opening)

abbrev pub InMonth : Month → ReadSoFar → Type 0
InMonth month t = (t.calling ≡ None) × (t.now.month ≡ month)

abbrev pub Flows : ℕ → List ℕ → List ℕ → ReadSoFar → Type 0
Flows index used flow t = (t.calling ≡ None) × (t.now.index ≡ index) × (t.now.used ≡ used) × (t.now.plan.flow ≡ flow)

-- An `open` line is refuted for its amount alone, and so are the lines after it.
pub openings : (b : Basin) (series : Series) (before : List MonthRecord) (a : ℕ → ℕ) → Section b series (After before)
    (λ x. a x ≡ slice_index (opening_after b before) x) (λ x. line.Amount quantity.Opening x (a x))
openings b series before a = record {
  makes = λ x t p g. early_good b series t (line.Amount quantity.Opening x (a x)) p.0 (λ r. refl) refl refl (
    same_is (g
        ∙ ap (λ ms. slice_index (opening_after b ms) x) (sym p.1)),
    tt,
  );
  reads = λ x t p n. is_same n.1.1.1.1.0
      ∙ ap (λ ms. slice_index (opening_after b ms) x) p.1;
  keeps = λ x t p. (refl, p.1);
}

-- `evap` lines
pub evaporations : (b : Basin) (series : Series) (index : ℕ) (opening : List ℕ) (a : ℕ → ℕ) →
    Section b series (Opened index opening) (λ x. a x ≡ of_entry b.reservoirs x
    (λ r. evaporation r.area (slice_index opening x) (slice_index r.rate (in_year b index))) 0)
    (λ x. line.Amount quantity.Evaporated x (a x))
evaporations b series index opening a = record {
  makes = λ x t p g. early_good b series t (line.Amount quantity.Evaporated x (a x)) p.0 (λ r. refl) refl refl (
    same_is
        (rw (p.1, p.2) g),
    tt,
  );
  reads = λ x t p n. (let e = is_same
      n.1.1.1.1.0 in rw (p.1, p.2) at e);
  keeps = λ x t p. (refl, p.1, p.2);
}

-- `return` lines
pub returns : (b : Basin) (series : Series) (before : List MonthRecord) (index : ℕ) (a : ℕ → ℕ) →
    Section b series (AfterAt before index) (λ x. a x ≡ returned_at b (map (λ m. m.delivered) before) x index)
    (λ x. line.Amount quantity.Returned x (a x))
returns b series before index a = record {
  makes = λ x t p g. early_good b series t (line.Amount quantity.Returned x (a x)) p.0 (λ r. refl) refl refl
      (same_is (rw (p.1, p.2) g), tt);
  reads = λ x t p n. (let e =
      is_same n.1.1.1.1.0 in rw (p.1, p.2) at e);
  keeps = λ x t p. (refl, p.1, p.2);
}

-- `used` lines
pub uses : (b : Basin) (series : Series) (before : List MonthRecord) (index : ℕ) (a : ℕ → ℕ) →
    Section b series (AfterAt before index) (λ x. a x ≡ used_of b (map (λ m. m.delivered) before) x index)
    (λ x. line.Amount quantity.Used x (a x))
uses b series before index a = record {
  makes = λ x t p g. early_good b series t (line.Amount quantity.Used x (a x)) p.0 (λ r. refl) refl refl
      (same_is (rw (p.1, p.2) g), tt);
  reads = λ x t p n. (let e =
      is_same n.1.1.1.1.0 in rw (p.1, p.2) at e);
  keeps = λ x t p. (refl, p.1, p.2);
}

-- `flow` lines
pub flows : (b : Basin) (series : Series) (month : Month) (a : ℕ → ℕ) → Section b series (InMonth month)
    (λ x. nat_lt (carry_of b month x) (a x) ≡ false) (λ x. line.Amount quantity.Flow x (a x))
flows b series month a = record {
  makes = λ x t p g. early_good b series t (line.Amount quantity.Flow x (a x)) p.0 (λ r. refl) refl refl
      (ap (λ m. nat_lt (carry_of b m x) (a x)) p.1 ∙ g, tt);
  reads = λ x t p n. ap (λ m. nat_lt (carry_of b m x) (a x)) (sym p.1) ∙ n.1.1.1.1.0;
  keeps = λ x t p. (refl, p.1);
}

-- `deliver` lines
pub deliveries : (b : Basin) (series : Series) (index : ℕ) (used flow : List ℕ) (a w : ℕ → ℕ) →
    Section b series (Flows index used flow) (λ x. (w x ≡ want_of b series x index (slice_index used x))
    × (amount_wrong (instream_link b x) flow (a x) (w x) ≡ false)) (λ x. line.Deliver x (a x) (w x))
deliveries b series index used flow a w = record {
  makes = λ x t p g. early_good b series t (line.Deliver x (a x) (w x)) p.0 (λ r. refl) refl refl (
    or_from (not (w x == want_of b series x t.now.index (slice_index t.now.used x)))
        (amount_wrong (instream_link b x) t.now.plan.flow (a x) (w x)) (same_is (rw (p.1, p.2) g.0))
        (ap (λ f. amount_wrong (instream_link b x) f (a x) (w x)) p.3 ∙ g.1),
    tt,
  );
  reads = λ x t p n. (let h = or_parts (not (w x == want_of b series x t.now.index (slice_index t.now.used x)))
      (amount_wrong (instream_link b x) t.now.plan.flow (a x) (w x)) n.1.1.1.1.0 in (
        is_same h.0
            ∙ rw (p.1, p.2) refl,
        ap (λ f. amount_wrong (instream_link b x) f (a x) (w x)) (sym p.3) ∙ h.1,
      ));
  keeps = λ x t p. (refl, p.1, p.2, p.3);
}

pub title_good : (b : Basin) (series : Series) (t : ReadSoFar) → t.calling ≡ None →
    NoneHolds (rows b series t (line.Title))
title_good b series t h = early_good b series t (line.Title) h (λ r. refl) refl refl tt

pub month_good : (b : Basin) (series : Series) (t : ReadSoFar) (month : Month) → t.calling ≡ None →
    NoneHolds (rows b series t (line.Month month))
month_good b series t month h = early_good b series t (line.Month month) h (λ r. refl) refl refl tt

pub last_good : (b : Basin) (series : Series) (t : ReadSoFar) (months : ℕ) → t.calling ≡ None →
    NoneHolds (rows b series t (line.Done months))
last_good b series t months h = early_good b series t (line.Done months) h (λ r. refl) refl refl tt

pub run_good : (b : Basin) (series : Series) (t : ReadSoFar) → t.calling ≡ None →
    NoneHolds (rows b series t (line.Run b.first b.months))
run_good b series t h = early_good b series t (line.Run b.first b.months) h (λ r. refl) refl refl
    (run_same b.first.year b.first.month b.months, tt)
  where
    run_same : (y m n : ℕ) → not (y == y && m == m && n == n) ≡ false
    run_same y m n = grind (arith, nat_tests)

pub head_is : (b : Basin) (series : Series) (t : ReadSoFar) {first : Month} {months : ℕ} →
    NoneHolds (rows b series t (line.Run first months)) → (first ≡ b.first) × (months ≡ b.months)
head_is b series t n = (let h = n.1.1.1.1.0 in grind (arith, nat_tests, same_month))
