-- What the lines of a month say stays within bounds.
use Rattle.std.proofs.Common.{◌≡◌, ℕ, zero, suc, ◌^◌, ◌<◌, ◌≤◌, Bool, true, false, refl, ap, ◌∙◌, arith, inl, inr}
use Rattle.std.proofs.Common.{List, [], ◌∷◌, length, map, fold}
use Rattle.std.specs.Prelude.{Option, Some, None, ◌||◌, ◌==◌, not, is_some, slice_index}
use Rattle.std.specs.Prelude.{slice_set, if◌then◌else◌}
use Rattle.std.specs.List.{list_all}
use Rattle.std.proofs.lemmas.Bool.{cases_lt, and_parts, eqb-true, ltb-false, or_parts, not-false}
use Rattle.std.proofs.lemmas.Bool.Decides.{nat_tests}
use Rattle.std.proofs.lemmas.Option.{slice_get_past}
use Rattle.water_model.specs.Basin.{instream_link, taking_node}
use Rattle.water_model.specs.History.{opening_after, cut_of}
use Rattle.water_model.specs.Hydrology.{run_month, in_year, evaporation, returned_at, want_of}
use Rattle.water_model.specs.Lookups.{of_entry}
use Rattle.water_model.specs.Plans.{carry_of}
use Rattle.water_model.specs.Valid.{IsValidBasin, IsSeriesOf}
use Rattle.result_lines.proofs.Quantities.{cuts_with}
use Rattle.result_lines.specs.declared.item.Item.{Item}
use Rattle.result_lines.specs.declared.item.Item.TheVariants as line
use Rattle.result_lines.specs.declared.quantity.Quantity.TheVariants as quantity
use Rattle.water_model.specs.declared.types.Basin.{Basin}
use Rattle.water_model.specs.declared.types.Series.{Series}
use Rattle.water_model.specs.declared.types.MonthRecord.{MonthRecord}
use Rattle.water_model.proofs.Histories.{IsMonth-run_month}
use Rattle.result_reader.specs.ReadSoFar.{ReadSoFar, read_item, with_member}
use Rattle.water_model.proofs.Wants.{want_most}
use Rattle.water_model.proofs.Carries.{carry_most}
use Rattle.cert_check.specs.Checking.{rows, amount_wrong}
use Rattle.cert_check.specs.Coming.{IsBounded, is_before_called}
use Rattle.water_model.proofs.SetEntries.{set_of_other, no_sets}
use Rattle.cert_check.proofs.Rows.{NoneHolds, AreGood, is_same}
use Rattle.water_model.proofs.Lists.{no_numbers}

-- a line within a month, but not its last
abbrev pub is_amid : Item → Bool
is_amid (line.Called r caller) = true
is_amid (line.Amount q entry amount) = true
is_amid other = is_before_called other

pub before_is_amid : (i : Item) → is_before_called i ≡ true → is_amid i ≡ true
before_is_amid i h = grind arith

-- what was read within a month
pub record InMonth (b : Basin) (before : List MonthRecord) (i : ℕ) (t : ReadSoFar) : Type 0 where
  pub months : t.months ≡ before
  pub index : t.now.index ≡ i
  pub month : t.now.month ≡ run_month b i
  pub bounded : IsBounded b before t.now

-- one number of a list changes

set_below : (xs : List ℕ) (i v : ℕ) (most : ℕ → ℕ) → ((k : ℕ) → slice_index xs k ≤ most k) → v ≤ most i → (k : ℕ) →
    slice_index (slice_set xs i v) k ≤ most k
set_below [] i v most h l k = h k
set_below (x ∷ xs) zero v most h l zero = l
set_below (x ∷ xs) zero v most h l (suc k) = h (suc k)
set_below (x ∷ xs) (suc i) v most h l zero = h zero
set_below (x ∷ xs) (suc i) v most h l (suc k) = set_below xs i v (λ j. most (suc j)) (λ j. h (suc j)) l k

set_above : (xs : List ℕ) (i v : ℕ) (least : ℕ → ℕ) → ((k : ℕ) → least k ≤ slice_index xs k) → least i ≤ v → (k : ℕ) →
    least k ≤ slice_index (slice_set xs i v) k
set_above [] i v least h l k = h k
set_above (x ∷ xs) zero v least h l zero = l
set_above (x ∷ xs) zero v least h l (suc k) = h (suc k)
set_above (x ∷ xs) (suc i) v least h l zero = h zero
set_above (x ∷ xs) (suc i) v least h l (suc k) = set_above xs i v (λ j. least (suc j)) (λ j. h (suc j)) l k

-- Bounds on what the rows allow.

evaporated_most : (b : Basin) (v storage position : ℕ) →
    of_entry b.reservoirs v (λ r. evaporation r.area storage (slice_index r.rate position)) 0 ≤ storage
evaporated_most b v storage position = grind arith

carried_most : {b : Basin} → IsValidBasin b → {i : ℕ} (e : ℕ) → i < b.months → carry_of b (run_month b i) e ≤ 10 ^ 15
carried_most {b} valid {i} e l = elim (cases_lt e (length b.links)) [
  | inl within ↦ carry_most b (run_month b i) e valid (IsMonth-run_month b i valid.run l) within
  | inr past ↦ rw (slice_get_past b.links e past) (omega arith)
]

wanted_most : {b : Basin} → IsValidBasin b → {series : Series} → IsSeriesOf b series → (i r used : ℕ) →
    want_of b series r i used ≤ 10 ^ 9
wanted_most {b} valid {series} fits i r used = elim (cases_lt r (length b.rights)) [
  | inl within ↦ want_most b series r i used valid fits within
  | inr past ↦ rw (slice_get_past b.rights r past) (omega arith)
]

amount_most : (link : Option ℕ) (flow : List ℕ) {amount want : ℕ} → amount_wrong link flow amount want ≡ false →
    amount ≤ want
amount_most link flow h = grind (arith, nat_tests)

taken_most : (p : Bool) {amount most : ℕ} → amount ≤ most → (if p then amount else 0) ≤ most
taken_most true h = h
taken_most false h = omega arith

both_fail : (p q : Bool) → not p || q ≡ false → (p ≡ true) × (q ≡ false)
both_fail p q h = let two = or_parts (not p) q h in (not-false p two.0, two.1)

-- one more line
pub in_month_more : {b : Basin} → IsValidBasin b → {series : Series} → IsSeriesOf b series →
    {before : List MonthRecord} {i : ℕ} → i ≡ length before → i < b.months → (t : ReadSoFar) (item : Item) →
    is_amid item ≡ true → NoneHolds (rows b series t item) → InMonth b before i t →
    InMonth b before i (read_item b series t item)
in_month_more valid fits at l t line.Title h n m = m
in_month_more valid fits at l t (line.Run first months) h n m = m
in_month_more valid fits at l t (line.Month month) h n m = (let never : false ≡ true = h in cc)
in_month_more {b} valid {series} fits {before} at l t (line.Amount quantity.Opening v amount) h n m =
    let is : amount ≡ slice_index (opening_after b before) v =
    is_same n.1.1.1.1.0
    ∙ ap (λ ms. slice_index (opening_after b ms) v) m.months in
    assumption (
      set_below t.now.opening v amount (λ k. slice_index (opening_after b before) k) m.bounded.opening
          (omega (arith, is)),
      set_above t.now.opening v amount (λ k. slice_index t.now.evaporated k) m.bounded.evaporated
          (omega (arith, is, m.bounded.evaporated v, m.bounded.opening v)),
    )
in_month_more {b} valid fits at l t (line.Amount quantity.Evaporated v amount) h n m =
    let is = is_same
    n.1.1.1.1.0 in
    assumption (set_below t.now.evaporated v amount (λ k. slice_index t.now.opening k) m.bounded.evaporated
    (omega (arith, is, evaporated_most b v (slice_index t.now.opening v) (in_year b t.now.index))))
in_month_more {b} valid {series} fits {before} at l t (line.Amount quantity.Returned k amount) h n m =
    let is = is_same n.1.1.1.1.0 in
    let same : returned_at b (map (λ m. m.delivered) t.months) k t.now.index ≡ returned_at b
    (map (λ m. m.delivered) before) k (length before) = rw (m.months, m.index, at) refl in
    assumption (set_below t.now.returned k amount
    (λ j. returned_at b (map (λ m. m.delivered) before) j (length before)) m.bounded.returned (omega (arith, is, same)))
in_month_more valid fits at l t (line.Amount quantity.Used r amount) h n m = assumption
in_month_more {b} valid {series} fits {before} {i} at l t (line.Amount quantity.Flow e amount) h n m =
    let most = ltb-false (carry_of b t.now.month e) amount n.1.1.1.1.0 in
    let same : carry_of b t.now.month e ≡ carry_of b (run_month b i) e = ap (λ k. carry_of b k e) m.month in
    assumption (set_below t.now.plan.flow e amount (λ k. 10 ^ 15) m.bounded.flow
    (omega (arith, most, same, carried_most valid e l)))
in_month_more {b} valid {series} fits at l t (line.Deliver r amount want) h n m =
    let two = both_fail (want == want_of b series r t.now.index (slice_index t.now.used r))
    (amount_wrong (instream_link b r) t.now.plan.flow amount want) n.1.1.1.1.0 in
    let is = eqb-true want (want_of b series r t.now.index (slice_index t.now.used r)) two.0 in
    let small : amount ≤ 10 ^ 9 =
    omega (
      arith,
      is,
      wanted_most valid fits t.now.index r (slice_index t.now.used r),
      amount_most (instream_link b r) t.now.plan.flow two.1,
    ) in
    assumption (
      set_below t.now.plan.take r (if is_some (taking_node b r) then amount else 0) (λ k. 10 ^ 9) m.bounded.take
          (taken_most (is_some (taking_node b r)) small),
      set_below t.now.delivered r amount (λ k. 10 ^ 9) m.bounded.delivered small,
    )
in_month_more valid fits at l t (line.Amount quantity.Outflow k amount) h n m = assumption
in_month_more valid fits at l t (line.Call r) h n m = assumption
in_month_more {b} valid {series} fits {before} {i} at l t (line.Member k) h n m = by_call t.calling
  where
    by_call : (o : Option ℕ) → InMonth b before i (with_member t o k)
    by_call None = m
    by_call (Some right) = assumption
in_month_more valid fits at l t (line.Called r caller) h n m = assumption
in_month_more valid fits at l t (line.Amount quantity.Closing v amount) h n m = assumption
in_month_more valid fits at l t line.End h n m = (let never : false ≡ true = h in cc)
in_month_more valid fits at l t (line.Done months) h n m = m

-- all lines of a month so far
pub in_month : {b : Basin} → IsValidBasin b → {series : Series} → IsSeriesOf b series →
    (before : List MonthRecord) (i : ℕ) → i ≡ length before → i < b.months → (xs : List Item) (t : ReadSoFar) →
    list_all is_amid xs ≡ true → AreGood b series t xs → InMonth b before i t →
    InMonth b before i (fold (read_item b series) t xs)
in_month valid fits before i at l [] t h g m = m
in_month {b} valid {series} fits before i at l (x ∷ xs) t h g m =
    let two = and_parts (is_amid x) (list_all is_amid xs) h in
    in_month valid fits before i at l xs (read_item b series t x) two.1 g.1
    (in_month_more valid fits at l t x two.0 g.0 m)

-- a month begins
pub month_begins : (b : Basin) (series : Series) {before : List MonthRecord} {i : ℕ} (t : ReadSoFar) →
    i ≡ length before → t.months ≡ before → InMonth b before i (read_item b series t (line.Month (run_month b i)))
month_begins b series t at months = grind (arith, nat_tests, no_numbers)

-- No `called` line so far.

uncalled_more : (b : Basin) (series : Series) (t : ReadSoFar) (item : Item) → is_before_called item ≡ true →
    (read_item b series t item).called ≡ t.called
uncalled_more b series t item h = grind arith

pub uncalled : (b : Basin) (series : Series) (xs : List Item) (t : ReadSoFar) → list_all is_before_called xs ≡ true →
    (fold (read_item b series) t xs).called ≡ t.called
uncalled b series [] t h = refl
uncalled b series (x ∷ xs) t h =
    let two = and_parts (is_before_called x) (list_all is_before_called xs) h in
    uncalled b series xs (read_item b series t x) two.1 ∙ uncalled_more b series t x two.0

-- A right that has no `call` so far has no set.

abbrev pub no_call : ℕ → Item → Bool
no_call r (line.Call s) = not (s == r)
no_call r other = true

pub record IsFree (r : ℕ) (t : ReadSoFar) : Type 0 where
  pub none : cut_of t.now r ≡ None
  pub other : t.calling ≡ Some r → ⊥

free_more : (b : Basin) (series : Series) {r : ℕ} {t : ReadSoFar} (item : Item) → no_call r item ≡ true → IsFree r t →
    IsFree r (read_item b series t item)
free_more b series item h f = grind (arith, nat_tests, no_sets, set_of_other, cuts_with)

pub free : (b : Basin) (series : Series) {r : ℕ} (xs : List Item) {t : ReadSoFar} → list_all (no_call r) xs ≡ true →
    IsFree r t → IsFree r (fold (read_item b series) t xs)
free b series [] h f = f
free b series {r} (x ∷ xs) {t} h f =
    let two = and_parts (no_call r x) (list_all (no_call r) xs) h in
    free b series xs two.1 (free_more b series x two.0 f)
