-- Where a gauge's amounts and a right's wants stand in a series.
use Rattle.std.proofs.Common.{◌≡◌, ℕ, ◌+◌, ◌*◌, ◌^◌, ◌<◌, ◌≤◌, Bool, true, false, refl, sym, ap, subst, ◌∙◌, arith}
use Rattle.std.proofs.Common.{List, [], ◌∷◌, length, get_or, inl, inr, filter}
use Rattle.std.specs.Prelude.{◌==◌, if◌then◌else◌, slice_get, slice_index, Some, unwrap_or, option_map, Result, Ok, Err}
use Rattle.std.specs.Prelude.{MatchResult}
use Rattle.std.specs.List.Sorted.{IsBinarySearchResult, IsStrictlyIncreasing}
use Rattle.std.specs.Ordering.{nat_cmp}
use Rattle.std.proofs.lemmas.Bool.{cases_lt, cases_Bool}
use Rattle.std.proofs.lemmas.Bool.Decides.{nat_tests}
use Rattle.std.proofs.lemmas.List.Kept.{AllPairs-from_increasing, IsStrictlyIncreasing-filter}
use Rattle.std.proofs.lemmas.List.Sorted.{searched}
use Rattle.std.proofs.lemmas.List.Sums.{position_or_len_is}
use Rattle.std.proofs.lemmas.Option.{get_or_from_slice_get}
use Rattle.std.proofs.Math.Nat.{mul-le-mul_right}
use Rattle.water_model.specs.Hydrology.{index_in, inflow_at, inflow_of_kind, in_year, table_at, number_of}
use Rattle.water_model.specs.Lookups.{of_entry}
use Rattle.water_model.specs.Indices.{numbers_from, indices_of}
use Rattle.water_model.specs.Valid.{IsValidBasin, IsSeriesOf, is_gauged, is_gauged_kind, is_in_series, is_series}
use Rattle.water_model.specs.declared.types.Basin.{Basin}
use Rattle.water_model.specs.declared.types.Inflow.TheVariants.{Gauged}
use Rattle.water_model.specs.declared.types.Series.{Series}
use Rattle.water_model.specs.declared.types.Node.{Node}
use Rattle.water_model.specs.declared.types.Right.{Right}
use Rattle.water_model.specs.declared.types.Want.TheVariants as wants
use Rattle.water_model.proofs.Order.{Has, numbers_from-get, numbers_from-has, length-numbers_from, has-filter}

-- the index of a number that stands at i and nowhere before, or of one that stands nowhere, where i is the length
pub index_is : (xs : List ℕ) (x i : ℕ) → i ≤ length xs → ((k : ℕ) → k < i → get_or xs k 0 ≡ x → ⊥) →
    (i < length xs → get_or xs i 0 ≡ x) → i ≡ index_in xs x
index_is xs x i within before here =
    sym (position_or_len_is (λ y. y == x) xs i 0 within (λ k l. let apart = before k l in grind (arith, nat_tests))
    (λ l. let is = here l in grind (arith, nat_tests)))

-- The gauges of a series rise, so that a binary search finds one.

rises : (from n : ℕ) → IsStrictlyIncreasing (numbers_from from n)
rises from n = λ k l. (let within : k + 1 < n = omega (arith, length-numbers_from from n) in
    let here = read k (omega arith) in let next = read (k + 1) within in omega arith)
  where
    read : (k : ℕ) → k < n → get_or (numbers_from from n) k 0 ≡ from + k
    read k l = get_or_from_slice_get (numbers_from from n) k (from + k) 0 (numbers_from-get from n k (from + k) l refl)

pub gauges_rise : (b : Basin) (series : Series) → IsSeriesOf b series → IsStrictlyIncreasing series.gauged
gauges_rise b series fits =
    subst IsStrictlyIncreasing (sym fits.gauged)
    (IsStrictlyIncreasing-filter (λ n. is_gauged b n) (indices_of b.nodes) (rises 0 (length b.nodes)))

pub wanted_rise : (b : Basin) (series : Series) → IsSeriesOf b series → IsStrictlyIncreasing series.wanted
wanted_rise b series fits =
    subst IsStrictlyIncreasing (sym fits.wanted)
    (IsStrictlyIncreasing-filter (λ r. is_in_series b r) (indices_of b.rights) (rises 0 (length b.rights)))

pub searched_index : (xs : List ℕ) (x : ℕ) (r : Result ℕ ℕ) → IsStrictlyIncreasing xs →
    IsBinarySearchResult (λ y. nat_cmp y x) xs r →
    MatchResult r (λ i. i ≡ index_in xs x) (λ i. length xs ≡ index_in xs x)
searched_index xs x r up h = by_result r (searched xs x r h no_less)
  where
    below : (i j : ℕ) → i < j → j < length xs → get_or xs i 0 < get_or xs j 0
    below i j l k = AllPairs-from_increasing xs up i j 0 l k

    no_less : (i j : ℕ) → i ≤ j → j < length xs → get_or xs i 0 ≤ get_or xs j 0
    no_less i j l k = elim (cases_lt i j) [
      | inl less ↦ let up_to = below i j less k in omega arith
      | inr same ↦ let is : i ≡ j = omega arith in let alike = ap (λ n. get_or xs n 0) is in omega arith
    ]

    by_result : (r : Result ℕ ℕ) → MatchResult r (λ i. (i < length xs) × (get_or xs i 0 ≡ x))
        (λ i. (i ≤ length xs) × ((k : ℕ) → k < i → get_or xs k 0 < x) ×
        ((k : ℕ) → i ≤ k → k < length xs → x < get_or xs k 0)) →
        MatchResult r (λ i. i ≡ index_in xs x) (λ i. length xs ≡ index_in xs x)
    by_result (Ok i) found =
        index_is xs x i (omega (arith, found.0)) (λ k l e. (let less = below k i l found.0 in omega (arith, found.1)))
        (λ l. found.1)
    by_result (Err i) missing = index_is xs x (length xs) (omega arith) (λ k l e. elim (cases_lt k i) [
      | inl before ↦ omega (arith, missing.1 k before)
      | inr after ↦ omega (arith, missing.2 k after l)
    ]) (λ l. absurd (omega arith))

-- a number that a list has stands within it
pub has_index : (xs : List ℕ) (x : ℕ) → Has xs x → index_in xs x < length xs
has_index [] x h = absurd h
has_index (y ∷ ys) x h = elim (cases_Bool (y == x)) [
  | inl e ↦ rw e (omega arith)
  | inr e ↦ elim h [
    | inl is ↦ absurd (let clash : y == x ≡ true = grind (arith, nat_tests) in cc)
    | inr rest ↦ rw e (omega (arith, has_index ys x rest))
  ]
]

-- a gauged node stands in the series
pub gauge_within : (b : Basin) (series : Series) (node : ℕ) → IsSeriesOf b series → node < length b.nodes →
    is_gauged b node ≡ true →
    index_in series.gauged node < length series.gauged
gauge_within b series node fits l gauged =
    has_index series.gauged node (rw fits.gauged (has-filter (λ n. is_gauged b n) (indices_of b.nodes) node
    (numbers_from-has 0 (length b.nodes) node node l (omega arith)) gauged))

-- the cell of a row and a column stands within the table
pub cell_within : (i m l p : ℕ) → i < m → p < l → i * l + p < m * l
cell_within i m l p h k = let below : (i + 1) * l ≤ m * l = mul-le-mul_right l (omega arith) in omega arith

pub filter_short : (p : ℕ → Bool) (xs : List ℕ) → length (filter p xs) ≤ length xs
filter_short p [] = omega arith
filter_short p (x ∷ xs) = elim (cases_Bool (p x)) [
  | inl e ↦ rw e (omega (arith, filter_short p xs))
  | inr e ↦ rw e (omega (arith, filter_short p xs))
]

-- a node whose entry is gauged is gauged
gauged_here : (b : Basin) (node : ℕ) (n : Node) → slice_get b.nodes node ≡ Some n → n.inflow ≡ Gauged →
    is_gauged b node ≡ true
gauged_here b node n at e = ap (λ o. unwrap_or (option_map (λ m. is_gauged_kind m.inflow) o) false) at
    ∙ ap is_gauged_kind e

-- the index of a cell in a table that has a row for each month and a column for each of some numbers
pub record HasCell (numbers cells : List ℕ) (number index : ℕ) : Type 0 where
  pub within : index * length numbers + index_in numbers number < length cells
  pub small : index * length numbers + index_in numbers number < 2 ^ 64

has_cell : (b : Basin) (numbers cells : List ℕ) (number index n : ℕ) (p : ℕ → Bool) → IsValidBasin b →
    numbers ≡ filter p (numbers_from 0 n) → n ≤ 2000 → length cells ≡ b.months * length numbers → index < b.months →
    index_in numbers number < length numbers → HasCell numbers cells number index
has_cell b numbers cells number index n p valid are few size k within =
    let cell = cell_within index b.months (length numbers) (index_in numbers number) k within in
    let bounded : length numbers ≤ 2000 =
    omega (arith, ap length are, filter_short p (numbers_from 0 n), length-numbers_from 0 n) in
    let most : b.months * length numbers ≤ 1200 * length numbers =
    mul-le-mul_right (length numbers) valid.run.months.1 in
    record { within = rw size cell; small = omega arith }

-- that of the amount of a gauged node in a month
pub inflow_cell : {b : Basin} {series : Series} {node index : ℕ} {n : Node} → IsValidBasin b → IsSeriesOf b series →
    node < length b.nodes → index < b.months → slice_get b.nodes node ≡ Some n → n.inflow ≡ Gauged →
    HasCell series.gauged series.amount node index
inflow_cell {b} {series} {node} {index} {n} valid fits l k at e =
    has_cell b series.gauged series.amount node index (length b.nodes) (λ m. is_gauged b m) valid fits.gauged
    (omega (arith, valid.bounded.nodes)) fits.amounts k (gauge_within b series node fits l (gauged_here b node n at e))

-- what stands there is the inflow
pub cell_is_inflow : (b : Basin) (series : Series) (node index : ℕ) (n : Node) (x : ℕ) →
    slice_get b.nodes node ≡ Some n → n.inflow ≡ Gauged →
    slice_get series.amount (index * length series.gauged + index_in series.gauged node) ≡ Some x →
    x ≡ inflow_at b series node index
cell_is_inflow b series node index n x at e cell =
    sym (get_or_from_slice_get series.amount (index * length series.gauged + index_in series.gauged node) x 0 cell)
    ∙ sym (ap (λ o. unwrap_or (option_map (λ m. inflow_of_kind b series node index m.inflow) o) 0) at
    ∙ ap (inflow_of_kind b series node index) e)

-- a right in the series has its wants there
pub wanted_within : (b : Basin) (series : Series) (right : ℕ) → IsSeriesOf b series → right < length b.rights →
    is_in_series b right ≡ true →
    index_in series.wanted right < length series.wanted
wanted_within b series right fits l e =
    has_index series.wanted right (rw fits.wanted (has-filter (λ r. is_in_series b r) (indices_of b.rights) right
    (numbers_from-has 0 (length b.rights) right right l (omega arith)) e))

-- the index of the want of a right in a month
pub want_cell : {b : Basin} {series : Series} {right index : ℕ} {r : Right} → IsValidBasin b → IsSeriesOf b series →
    right < length b.rights → index < b.months → slice_get b.rights right ≡ Some r → r.want ≡ wants.Series →
    HasCell series.wanted series.want right index
want_cell {b} {series} {right} {index} {r} valid fits l k at e =
    has_cell b series.wanted series.want right index (length b.rights) (λ x. is_in_series b x) valid fits.wanted
    (omega (arith, valid.bounded.rights)) fits.wants k (wanted_within b series right fits l
    (ap (λ o. unwrap_or (option_map (λ (x : Right). is_series x.want) o) false) at ∙ ap is_series e))

-- what stands there is the right's number
pub want_is_number : (b : Basin) (series : Series) (right index : ℕ) (r : Right) (x : ℕ) →
    slice_get b.rights right ≡ Some r → r.want ≡ wants.Series →
    slice_get series.want (index * length series.wanted + index_in series.wanted right) ≡ Some x →
    x ≡ of_entry b.rights right (λ y. number_of b series right index y.want) 0
want_is_number b series right index r x at e cell =
    sym (get_or_from_slice_get series.want (index * length series.wanted + index_in series.wanted right) x 0 cell)
    ∙ sym (ap (λ o. unwrap_or (option_map (λ y. number_of b series right index y.want) o) 0) at
    ∙ ap (number_of b series right index) e)
