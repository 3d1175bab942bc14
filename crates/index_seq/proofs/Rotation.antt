-- A series that begins in another year.
use Rattle.std.proofs.Common.{◌≡◌, ℕ, ◌+◌, ◌-◌, ◌*◌, ◌%◌, ◌<◌, ◌≤◌, ◌^◌, refl, sym, ap, ◌∙◌, arith, List}
use Rattle.std.proofs.Common.{◌++◌, length, take, drop, get_or, inl, inr, length-append}
use Rattle.std.specs.Prelude.{All}
use Rattle.std.proofs.Math.ListN.{get_or-append}
use Rattle.std.proofs.Math.Nat.{mod-eq_of_lt, add-mod_left, mul-le-mul, mul-le-mul_right, add-mul}
use Rattle.std.proofs.lemmas.Bool.{cases_lt}
use Rattle.std.proofs.lemmas.List.{get_or-append_right, get_or-drop, get_or-take, length-drop, length-take}
use Rattle.std.proofs.lemmas.List.Elements.{All-append, All-drop, All-take}
use Rattle.water_model.specs.Indices.{indices_of}
use Rattle.water_model.specs.Valid.{IsValidBasin, IsSeriesOf, is_gauged}
use Rattle.water_model.proofs.Order.{length-numbers_from}
use Rattle.water_model.specs.declared.types.Basin.{Basin}
use Rattle.water_model.specs.declared.types.Series.{Series}
use Rattle.index_seq.specs.Traces.{years_of, begun_after, IsBegunAfter, IsRotationOf}
use Rattle.water_model.proofs.Gauges.{filter_short}

-- an amount of the part that comes first, and of the part that comes last
early : (xs : List ℕ) (at k : ℕ) → at + k < length xs → get_or (drop at xs ++ take at xs) k 0 ≡ get_or xs (at + k) 0
early xs at k l = get_or-append (drop at xs) (take at xs) 0 k (omega (arith, length-drop at xs)) ∙ get_or-drop at xs k 0

late : (xs : List ℕ) (at k : ℕ) → at ≤ length xs → length xs ≤ at + k → k < length xs →
    get_or (drop at xs ++ take at xs) k 0 ≡ get_or xs (at + k - length xs) 0
late xs at k h l u =
    get_or-append_right (drop at xs) (take at xs) (length xs - at) k 0 (length-drop at xs) (omega arith)
    ∙ (get_or-take at xs (k - (length xs - at)) 0 (omega arith)
    ∙ ap (λ j. get_or xs j 0) (same (length xs) h l))
  where
    same : (n : ℕ) → at ≤ n → n ≤ at + k → k - (n - at) ≡ at + k - n
    same n p q = omega arith

-- the row of a table of n columns that comes `shift` rows after row i, counted on from the first row past the last
row_further : (xs : List ℕ) (rows n shift i column : ℕ) → length xs ≡ rows * n → shift ≤ rows → i < rows → column < n →
    get_or (drop (shift * n) xs ++ take (shift * n) xs) (i * n + column) 0 ≡ get_or xs ((i + shift) % rows * n + column)
    0
row_further xs rows n shift i column count low inside col = elim (cases_lt (i + shift) rows) [
  | inl before ↦
      let most : (i + shift + 1) * n ≤ rows * n = mul-le-mul_right n (omega arith) in
      let one : (i + shift + 1) * n ≡ (i + shift) * n + n = next (i + shift) n in
      let both : (i + shift) * n ≡ i * n + shift * n = add-mul i shift n in
      early xs (shift * n) (i * n + column) (omega (arith, count))
      ∙ (ap (λ k. get_or xs k 0) (let is : shift * n + (i * n + column) ≡ (i + shift) * n + column = omega arith in is)
      ∙ ap (λ r. get_or xs (r * n + column) 0) (sym (mod-eq_of_lt before)))
  | inr past ↦
      let k : ℕ = i + shift - rows in
      let most : (i + 1) * n ≤ rows * n = mul-le-mul_right n (omega arith) in
      let one : (i + 1) * n ≡ i * n + n = next i n in
      let prefix : shift * n ≤ rows * n = mul-le-mul_right n low in
      let whole : (i + shift) * n ≡ i * n + shift * n = add-mul i shift n in
      let parts : (rows + k) * n ≡ rows * n + k * n = add-mul rows k n in
      let sum : i + shift ≡ rows + k = omega arith in
      let over : (i + shift) * n ≡ (rows + k) * n = ap (λ r. r * n) sum in
      late xs (shift * n) (i * n + column) (omega (arith, count)) (omega (arith, count)) (omega (arith, count))
      ∙ (ap (λ j. get_or xs j 0) (let is : shift * n + (i * n + column) - length xs ≡ k * n + column =
      omega (arith, count) in is)
      ∙ ap (λ r. get_or xs (r * n + column) 0) (sym (wraps k sum)))
]
  where
    next : (x n : ℕ) → (x + 1) * n ≡ x * n + n
    next x n = add-mul x 1 n ∙ omega arith

    wraps : (k : ℕ) → i + shift ≡ rows + k → (i + shift) % rows ≡ k
    wraps k sum =
        let less : k < rows = omega arith in
        ap (λ m. m % rows) sum ∙ (add-mod_left rows k ∙ mod-eq_of_lt less)

-- what is begun some years later has the amounts of as many years later
pub begun_is : (b : Basin) (series : Series) (years : ℕ) → IsSeriesOf b series → years < years_of b →
    IsBegunAfter b series years (begun_after series years)
begun_is b series years fits h = record {
  gauged = refl;
  amount = λ i gauge l g. row_further series.amount b.months (length series.gauged) (12 * years) i gauge fits.amounts
      (omega arith) l g;
  wanted = refl;
  want = refl;
}

-- and is a series of the basin
pub begun_fits : (b : Basin) (series : Series) (years : ℕ) → IsSeriesOf b series → years < years_of b →
    IsSeriesOf b (begun_after series years)
begun_fits b series years fits h =
    assumption (
      parted series.amount (12 * years * length series.gauged) ∙ fits.amounts,
      all_parted (λ n. n ≤ 10 ^ 9) series.amount (12 * years * length series.gauged) fits.small_amounts,
    )
  where
    parted : (xs : List ℕ) (at : ℕ) → length (drop at xs ++ take at xs) ≡ length xs
    parted xs at = omega (arith, length-append (drop at xs) (take at xs), length-drop at xs, length-take at xs)

    all_parted : (P : ℕ → Type 0) (xs : List ℕ) (at : ℕ) → All P xs → All P (drop at xs ++ take at xs)
    all_parted P xs at h = All-append P (drop at xs) (take at xs) (All-drop P at xs h) (All-take P at xs h)

-- an equal series differs in nothing
pub turn_of_same : (series begun : Series) → begun ≡ series → IsRotationOf series begun
turn_of_same series begun e = rw e record { rest = refl; count = refl }

-- gauges are nodes, so the index is small
pub small_place : (b : Basin) (series : Series) (years : ℕ) → IsValidBasin b → IsSeriesOf b series →
    years < years_of b → 12 * years * length series.gauged ≤ 1200 * 2000
small_place b series years valid fits h =
    let gauges : length series.gauged ≤ 2000 =
    omega (
      arith,
      ap length fits.gauged,
      filter_short (λ n. is_gauged b n) (indices_of b.nodes),
      length-numbers_from 0 (length b.nodes),
      valid.bounded.nodes,
    ) in
    let shift : 12 * years ≤ 1200 = omega (arith, valid.run.months.1) in
    mul-le-mul shift gauges
