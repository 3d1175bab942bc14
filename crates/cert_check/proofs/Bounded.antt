-- The supply of a month is the list of what is supplied to each node.
use Rattle.std.proofs.Common.{◌≡◌, ℕ, ◌+◌, ◌-◌, ◌*◌, ◌^◌, ◌<◌, ◌≤◌, ap, ◌∙◌, arith, List, [], length, map}
use Rattle.std.specs.Prelude.{slice_index, All}
use Rattle.std.proofs.lemmas.List.{get_or_default, length-map}
use Rattle.finite_sums.specs.Sums.{total}
use Rattle.finite_sums.proofs.Totals.{total_le, total_same, total_where_le, term_le_total}
use Rattle.water_model.specs.Basin.{is_at, node_of_reservoir}
use Rattle.water_model.specs.History.{IsPartialHistory, opening_after}
use Rattle.water_model.specs.Hydrology.{inflow_at, returned_at, stored_at}
use Rattle.water_model.specs.Valid.{IsValidBasin, IsSeriesOf}
use Rattle.water_model.specs.declared.types.Basin.{Basin}
use Rattle.water_model.specs.declared.types.Series.{Series}
use Rattle.water_model.specs.declared.types.MonthRecord.{MonthRecord}
use Rattle.month_terms.proofs.Amounts.{supply_small}
use Rattle.result_reader.specs.ReadSoFar.{ReadSoFar, with_supply}
use Rattle.cert_check.specs.Coming.{IsWithinMonth}
use Rattle.cert_check.specs.Shows.{Shows}
use Rattle.std.proofs.lemmas.Grind.{same_number_lists}
use Rattle.water_model.specs.Indices.{indices_of}
use Rattle.water_model.proofs.Order.{length-numbers_from}
use Rattle.cert_check.proofs.Follows.{map_at}

pub length-supply : (b : Basin) (series : Series) (m : MonthRecord) →
    length (with_supply b series m).supply ≡ length b.nodes
length-supply b series m = length-map (indices_of b.nodes)
    (λ n. inflow_at b series n m.index + slice_index m.returned n + stored_at b m.opening m.evaporated n)
    ∙ length-numbers_from 0 (length b.nodes)

pub supply_at : (b : Basin) (series : Series) (m : MonthRecord) {n : ℕ} → n < length b.nodes →
    slice_index (with_supply b series m).supply n ≡ inflow_at b series n m.index + slice_index m.returned n + stored_at
    b m.opening m.evaporated n
supply_at b series m {n} l =
    map_at (λ k. inflow_at b series k m.index + slice_index m.returned k + stored_at b m.opening m.evaporated k) 0
    (length b.nodes) n l
    ∙ ap (λ k. inflow_at b series k m.index + slice_index m.returned k + stored_at b m.opening m.evaporated k)
    (zero_more n)
  where
    zero_more : (n : ℕ) → 0 + n ≡ n
    zero_more n = omega arith

pub supply_is : (b : Basin) (series : Series) (m : MonthRecord) {supply : List ℕ} → length supply ≡ length b.nodes →
    ((n : ℕ) → n < length b.nodes → slice_index supply n ≡ inflow_at b series n m.index + slice_index m.returned n +
    stored_at b m.opening m.evaporated n) → supply ≡ (with_supply b series m).supply
supply_is b series m {supply} len each = grind (arith, same_number_lists, with_supply, length-supply, supply_at)

-- What a month under way supplies is less than a river can carry.

-- what was read to be stored is within what the months before left
stored_most : (b : Basin) (opening opens evaporated : List ℕ) (n : ℕ) →
    ((v : ℕ) → slice_index opening v ≤ slice_index opens v) → stored_at b opening evaporated n ≤ stored_at b opens [] n
stored_most b opening opens evaporated n h =
    total_where_le (length b.reservoirs) (λ v. is_at (node_of_reservoir b v) n) (λ v. is_at (node_of_reservoir b v) n)
    (λ v. slice_index opening v - slice_index evaporated v) (λ v. slice_index opens v - slice_index [] v)
    (λ v l e. (e, less (slice_index opening v) (slice_index evaporated v) (slice_index opens v) (h v)))
  where
    less : (x y z : ℕ) → x ≤ z → x - y ≤ z - 0
    less x y z k = omega arith

pub read_small : {b : Basin} {series : Series} {t : ReadSoFar} → IsValidBasin b → IsSeriesOf b series →
    IsPartialHistory b series t.months → IsWithinMonth b series t → total (length b.nodes)
    (λ n. inflow_at b series n t.now.index + slice_index t.now.returned n + stored_at b t.now.opening
    t.now.evaporated n) ≤ 36 * 10 ^ 12
read_small {b} {series} {t} valid fits partial way =
    let all = supply_small b series t.months [] t.now.index valid fits partial in
    let each =
    total_le (length b.nodes)
    (λ n. inflow_at b series n t.now.index + slice_index t.now.returned n + stored_at b t.now.opening
    t.now.evaporated n)
    (λ n. inflow_at b series n t.now.index + returned_at b (map (λ m. m.delivered) t.months) n t.now.index + stored_at b
    (opening_after b t.months) [] n) (λ n l. term n) in
    omega (arith, all, each)
  where
    term : (n : ℕ) →
        inflow_at b series n t.now.index + slice_index t.now.returned n + stored_at b t.now.opening t.now.evaporated n
        ≤ inflow_at b series n t.now.index + returned_at b (map (λ m. m.delivered) t.months) n t.now.index + stored_at b
        (opening_after b t.months) [] n
    term n =
        let same : returned_at b (map (λ m. m.delivered) t.months) n t.now.index ≡ returned_at b
        (map (λ m. m.delivered) t.months) n (length t.months) =
        ap (returned_at b (map (λ m. m.delivered) t.months) n) way.index in
        omega (
          arith,
          way.bounded.returned n,
          same,
          stored_most b t.now.opening (opening_after b t.months)
              t.now.evaporated n way.bounded.opening,
        )

-- so is what a record shows
pub shown_small : {b : Basin} {series : Series} {m : MonthRecord} {t : ReadSoFar} → IsValidBasin b →
    IsSeriesOf b series → IsPartialHistory b series t.months → IsWithinMonth b series t → Shows m t.now →
    total (length b.nodes)
    (λ n. inflow_at b series n m.index + slice_index m.returned n + stored_at b m.opening m.evaporated n) ≤ 36 * 10 ^ 12
shown_small valid fits partial way s =
    rw (s.index, s.returned, s.opening, s.evaporated) (read_small valid fits partial way)

pub node_small : {b : Basin} {series : Series} {m : MonthRecord} {t : ReadSoFar} {n : ℕ} → IsValidBasin b →
    IsSeriesOf b series → IsPartialHistory b series t.months → IsWithinMonth b series t → Shows m t.now →
    n < length b.nodes →
    inflow_at b series n m.index + slice_index m.returned n + stored_at b m.opening m.evaporated n ≤ 36 * 10 ^ 12
node_small {b} {series} {m} {t} {n} valid fits partial way s l =
    let one =
    term_le_total (length b.nodes)
    (λ k. inflow_at b series k m.index + slice_index m.returned k + stored_at b m.opening m.evaporated k) n l in
    omega (arith, one, shown_small valid fits partial way s)

-- the supply that was read
pub supplies_small : {b : Basin} {series : Series} {t : ReadSoFar} {supply : List ℕ} → IsValidBasin b →
    IsSeriesOf b series → IsPartialHistory b series t.months → IsWithinMonth b series t →
    supply ≡ (with_supply b series t.now).supply → total (length b.nodes) (λ n. slice_index supply n) ≤ 36 * 10 ^ 12
supplies_small {b} {series} {t} {supply} valid fits partial way is =
    let same =
    total_same (length b.nodes) (λ n. slice_index supply n)
    (λ n. inflow_at b series n t.now.index + slice_index t.now.returned n + stored_at b t.now.opening
    t.now.evaporated n)
    (λ n l. ap (λ xs. slice_index xs n) is ∙ supply_at b series t.now l) in
    omega (arith, same, read_small valid fits partial way)

-- numbers that are all at most one
pub all_most : (xs : List ℕ) {most : ℕ} → ((k : ℕ) → slice_index xs k ≤ most) → All (λ n. n ≤ most) xs
all_most xs h = λ k d l. rw (get_or_default xs k d 0 l) (h k)
