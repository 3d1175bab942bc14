-- What flows in, comes back and is stored in a month is less than a river can carry.
use Rattle.std.proofs.Common.{◌≡◌, ℕ, zero, suc, ◌+◌, ◌-◌, ◌*◌, ◌/◌, ◌^◌, ◌<◌, ◌≤◌, Bool, true, false, refl, sym, ◌∙◌}
use Rattle.std.proofs.Common.{ap, arith, List, length}
use Rattle.std.specs.Prelude.{◌==◌, slice_index, slice_get, Option, Some, None, if◌then◌else◌, unwrap_or, option_map}
use Rattle.std.specs.Prelude.{nat_lt}
use Rattle.std.proofs.lemmas.Bool.Decides.{nat_tests}
use Rattle.std.proofs.Math.Nat.{mul-le-mul_right}
use Rattle.finite_sums.specs.Sums.{total, total_where}
use Rattle.finite_sums.proofs.Totals.{total_le, total_same, total_zero, total_exchange, total_at, total_grows}
use Rattle.finite_sums.proofs.Totals.{total_more, total_most}
use Rattle.water_model.specs.Basin.{is_at, node_of_reservoir}
use Rattle.water_model.specs.Lookups.{of_entry}
use Rattle.water_model.specs.Hydrology.{inflow_at, inflow_of_kind, in_year, returned_by, returned_at, delivered_in}
use Rattle.water_model.specs.Hydrology.{delivered_before, stored_at}
use Rattle.water_model.specs.Rights.{parts_in}
use Rattle.water_model.specs.Valid.{IsValidBasin, IsValidNode, IsValidInflow, IsValidReturn, IsSeriesOf}
use Rattle.water_model.specs.declared.types.Basin.{Basin}
use Rattle.water_model.specs.declared.types.Inflow.{Inflow}
use Rattle.water_model.specs.declared.types.Inflow.TheVariants.{Monthly, Gauged}
use Rattle.water_model.specs.declared.types.Series.{Series}
use Rattle.water_model.specs.declared.types.ReturnRow.{ReturnRow}
use Rattle.water_model.specs.declared.types.Right.{Right}
use Rattle.water_model.specs.declared.types.RightKind.{RightKind}
use Rattle.water_model.specs.declared.types.RightKind.TheVariants.{Diversion, Instream, Zone}
use Rattle.water_model.specs.History.{is_zone_of, is_zone_of_kind}
use Rattle.water_model.proofs.Valid.{entry_holds}
use Rattle.water_model.proofs.Wants.{entry_most}

-- no inflow is more than 10^9
pub inflow_most : (b : Basin) (series : Series) (n i : ℕ) → IsValidBasin b → IsSeriesOf b series → n < length b.nodes →
    inflow_at b series n i ≤ 10 ^ 9
inflow_most b series n i valid fits l =
    let entry = entry_holds IsValidNode b.nodes n valid.nodes l in
    let at : inflow_at b series n i ≡ inflow_of_kind b series n i entry.0.inflow =
    ap (λ o. unwrap_or (option_map (λ x. inflow_of_kind b series n i x.inflow) o) 0) entry.1 in
    rw at (by_kind entry.0.inflow entry.2.inflow)
  where
    by_kind : (kind : Inflow) → IsValidInflow kind → inflow_of_kind b series n i kind ≤ 10 ^ 9
    by_kind (Monthly amounts) is = entry_most amounts (10 ^ 9) (in_year b i) is.each
    by_kind Gauged is = entry_most series.amount (10 ^ 9) _ fits.small_amounts

-- the sum of what stands at one index is at most that, and is that where the index is one of the n
at_one : (n : ℕ) (key : Option ℕ) (x : ℕ) → total n (λ v. if is_at key v then x else 0) ≤ x
at_one n None x = omega (arith, total_zero n (λ v. 0) (λ k l. refl))
at_one n (Some k) x = omega (arith, total_at n k x, at_most (nat_lt k n))
  where
    at_most : (t : Bool) → (if t then x else 0) ≤ x
    at_most true = omega arith
    at_most false = omega arith

at_one_inside : (n k x : ℕ) → k < n → total n (λ v. if k == v then x else 0) ≡ x
at_one_inside n k x l = total_at n k x ∙ inside k n x l
  where
    inside : (k n x : ℕ) → k < n → (if nat_lt k n then x else 0) ≡ x
    inside k n x l = grind (arith, nat_tests)

-- what is spread over indices by a key sums to no more than the whole
pub spread : (n m : ℕ) (key : ℕ → Option ℕ) (f : ℕ → ℕ) →
    total n (λ v. total m (λ e. if is_at (key e) v then f e else 0)) ≤ total m f
spread n m key f =
    rw (total_exchange n m (λ v e. if is_at (key e) v then f e else 0))
    (total_le m (λ e. total n (λ v. if is_at (key e) v then f e else 0)) f (λ e l. at_one n (key e) (f e)))

-- and to the whole where each key is one of the indices
pub spread_whole : (n m : ℕ) (key : ℕ → ℕ) (f : ℕ → ℕ) → ((e : ℕ) → e < m → key e < n) →
    total n (λ v. total m (λ e. if key e == v then f e else 0)) ≡ total m f
spread_whole n m key f h =
    total_exchange n m (λ v e. if key e == v then f e else 0)
    ∙ total_same m (λ e. total n (λ v. if key e == v then f e else 0)) f (λ e l. at_one_inside n (key e) (f e) (h e l))

-- what flows in at all nodes
pub inflows_small : (b : Basin) (series : Series) (i : ℕ) → IsValidBasin b → IsSeriesOf b series →
    total (length b.nodes) (λ n. inflow_at b series n i) ≤ 2 * 10 ^ 12
inflows_small b series i valid fits =
    let most =
    total_most (length b.nodes) (10 ^ 9) (λ n. inflow_at b series n i)
    (λ n l. inflow_most b series n i valid fits l) in
    omega (arith, most, valid.bounded.nodes)

-- what a month's delivery brings by a row is at most the part of it
one_month : (row : ReturnRow) (deliveries : List (List ℕ)) (i : ℕ) →
    ((j : ℕ) → delivered_in deliveries row.right j ≤ 10 ^ 9) →
    returned_by row deliveries i ≤ row.part * 10 ^ 5
one_month row deliveries i small =
    brings row.part (delivered_before deliveries row.right (i + 1 - row.lag))
    (delivered_before deliveries row.right (i - row.lag)) (one_more (i + 1 - row.lag) (i - row.lag) (omega arith))
  where
    one_more : (m n : ℕ) → m ≤ n + 1 →
        delivered_before deliveries row.right m ≤ delivered_before deliveries row.right n + 10 ^ 9
    one_more m n l =
        omega (
          arith,
          total_grows m (n + 1) (λ k. delivered_in deliveries row.right k) l,
          total_more n (λ k. delivered_in deliveries row.right k),
          small n,
        )

    quotient : (x y c : ℕ) → y ≤ x + 10000 * c → y / 10000 - x / 10000 ≤ c
    quotient x y c h = omega arith

    times : (p x y : ℕ) → y ≤ x + 10 ^ 9 → p * y ≤ p * x + 10000 * (p * 10 ^ 5)
    times p x y h = let more : y * p ≤ (x + 10 ^ 9) * p = mul-le-mul_right p h in omega arith

    brings : (p y x : ℕ) → y ≤ x + 10 ^ 9 → p * y / 10000 - p * x / 10000 ≤ p * 10 ^ 5
    brings p y x h = quotient (p * x) (p * y) (p * 10 ^ 5) (times p x y h)

-- the parts of all rows
parts_small : (b : Basin) → IsValidBasin b →
    total (length b.returns) (λ k. of_entry b.returns k (λ row. row.part) 0) ≤ 2 * 10 ^ 7
parts_small b valid =
    let whole = spread_whole (length b.rights) (length b.returns) (λ k. of_entry b.returns k (λ row. row.right) 0)
    (λ k. of_entry b.returns k (λ row. row.part) 0) rows_within in
    let by_right =
    total_same (length b.rights)
    (λ r. total (length b.returns)
    (λ k. if of_entry b.returns k (λ row. row.right) 0 == r then of_entry b.returns k (λ row. row.part) 0 else 0))
    (λ r. parts_in b.returns r)
    (λ r l. total_same (length b.returns) _ _ (λ k m. same_part r (slice_get b.returns k))) in
    let most =
    total_most (length b.rights) (10 ^ 4) (λ r. parts_in b.returns r)
    (λ r l. omega (arith, valid.roll.parts r l)) in
    omega (arith, whole, by_right, most, valid.bounded.rights)
  where
    rows_within : (k : ℕ) → k < length b.returns → of_entry b.returns k (λ row. row.right) 0 < length b.rights
    rows_within k l =
        let entry = entry_holds (λ row. IsValidReturn b row) b.returns k valid.returns l in
        let at : of_entry b.returns k (λ row. row.right) 0 ≡ entry.0.right =
        ap (λ o. unwrap_or (option_map (λ row. row.right) o) 0) entry.1 in
        rw at entry.2.right

    same_part : (r : ℕ) (o : Option ReturnRow) →
        (if unwrap_or (option_map (λ row. row.right) o) 0 == r then unwrap_or (option_map (λ row. row.part) o) 0 else 0)
        ≡ unwrap_or (option_map (λ row. if row.right == r then row.part else 0) o) 0
    same_part r None = nothing (0 == r)
      where
        zero_is : ℕ
        zero_is = 0

        nothing : (t : Bool) → (if t then zero_is else 0) ≡ zero_is
        nothing true = refl
        nothing false = refl
    same_part r (Some row) = refl

scaled : (n : ℕ) (f : ℕ → ℕ) → total n (λ k. f k * 10 ^ 5) ≡ total n f * 10 ^ 5
unfolding total
scaled zero f = refl
scaled (suc n) f = omega (arith, scaled n f)

-- what comes back to all nodes in a month
pub returns_small : (b : Basin) (deliveries : List (List ℕ)) (i : ℕ) → IsValidBasin b →
    ((r j : ℕ) → delivered_in deliveries r j ≤ 10 ^ 9) →
    total (length b.nodes) (λ n. returned_at b deliveries n i) ≤ 2 * 10 ^ 12
returns_small b deliveries i valid small =
    let by_node = total_same (length b.nodes) (λ n. returned_at b deliveries n i)
    (λ n. total (length b.returns)
    (λ k. if is_at (row_node (slice_get b.returns k)) n then brought (slice_get b.returns k) else 0))
    (λ n l. total_same (length b.returns) _ _ (λ k m. same_row n (slice_get b.returns k))) in
    let within =
    spread (length b.nodes) (length b.returns) (λ k. row_node (slice_get b.returns k))
    (λ k. brought (slice_get b.returns k)) in
    let each =
    total_le (length b.returns) (λ k. brought (slice_get b.returns k))
    (λ k. of_entry b.returns k (λ row. row.part) 0 * 10 ^ 5) (λ k l. by_part (slice_get b.returns k)) in
    omega (
      arith,
      by_node,
      within,
      each,
      scaled (length b.returns) (λ k. of_entry b.returns k (λ row. row.part) 0),
      parts_small b valid,
    )
  where
    row_node : Option ReturnRow → Option ℕ
    row_node None = None
    row_node (Some row) = Some row.node

    brought : Option ReturnRow → ℕ
    brought None = 0
    brought (Some row) = returned_by row deliveries i

    same_row : (n : ℕ) (o : Option ReturnRow) →
        unwrap_or (option_map (λ row. if row.node == n then returned_by row deliveries i else 0) o) 0
        ≡ (if is_at (row_node o) n then brought o else 0)
    same_row n None = refl
    same_row n (Some row) = refl

    by_part : (o : Option ReturnRow) → brought o ≤ unwrap_or (option_map (λ row. row.part) o) 0 * 10 ^ 5
    by_part None = omega arith
    by_part (Some row) = one_month row deliveries i (small row.right)

-- a sum over indices of which at most one passes is at most the bound of each amount
apart_most : (m x : ℕ) (p : ℕ → Bool) (f : ℕ → ℕ) → ((i j : ℕ) → i < j → j < m → p i ≡ true → p j ≡ true → ⊥) →
    ((k : ℕ) → k < m → f k ≤ x) →
    total_where m p f ≤ x
unfolding total
apart_most zero x p f apart small = omega arith
apart_most (suc m) x p f apart small =
    by_last (p m) refl (apart_most m x p f (λ i j l k. apart i j l (omega arith)) (λ k l. small k (omega arith)))
  where
    none_before : p m ≡ true → (k : ℕ) → k < m → (if p k then f k else 0) ≡ 0
    none_before e k l = by_test (p k) refl
      where
        by_test : (t : Bool) → p k ≡ t → (if t then f k else 0) ≡ 0
        by_test true h = absurd (apart k m l (omega arith) h e)
        by_test false h = refl

    by_last : (t : Bool) → p m ≡ t → total m (λ k. if p k then f k else 0) ≤ x →
        total m (λ k. if p k then f k else 0) + (if t then f m else 0) ≤ x
    by_last true e before =
        omega (arith, total_zero m (λ k. if p k then f k else 0) (none_before e), small m (omega arith))
    by_last false e before = omega arith

-- what the reservoirs hold in the first month
pub first_stored : (b : Basin) (opening evaporated : List ℕ) → IsValidBasin b →
    ((v : ℕ) → v < length b.reservoirs → slice_index opening v ≤ 16 * 10 ^ 9) →
    total (length b.nodes) (λ n. stored_at b opening evaporated n) ≤ 32 * 10 ^ 12
first_stored b opening evaporated valid small =
    let most = total_most (length b.nodes) (16 * 10 ^ 9) (λ n. stored_at b opening evaporated n)
    (λ n l. apart_most (length b.reservoirs) (16 * 10 ^ 9) (λ v. is_at (node_of_reservoir b v) n)
    (λ v. slice_index opening v - slice_index evaporated v)
    (λ i j l k one other. valid.names.reservoirs i j l k
    (same_index (node_of_reservoir b i) (node_of_reservoir b j) n one other))
    (λ v l. omega (arith, small v l))) in
    omega (arith, most, valid.bounded.nodes)
  where
    same_index : (o q : Option ℕ) (n : ℕ) → is_at o n ≡ true → is_at q n ≡ true → o ≡ q
    same_index None q n h k = cc
    same_index (Some i) None n h k = cc
    same_index (Some i) (Some j) n h k = ap Some (is_same i n h ∙ sym (is_same j n k))
      where
        is_same : (x y : ℕ) → x == y ≡ true → x ≡ y
        is_same x y h = grind (arith, nat_tests)

-- and in each later month: no more than all zones took
pub later_stored : (b : Basin) (opening evaporated take : List ℕ) → IsValidBasin b →
    ((v : ℕ) → v < length b.reservoirs →
    slice_index opening v ≡ total_where (length b.rights) (λ r. is_zone_of b r v) (λ r. slice_index take r)) →
    ((r : ℕ) → r < length b.rights → slice_index take r ≤ 10 ^ 9) →
    total (length b.nodes) (λ n. stored_at b opening evaporated n) ≤ 2 * 10 ^ 12
later_stored b opening evaporated take valid closed small =
    let at_nodes =
    spread (length b.nodes) (length b.reservoirs) (λ v. node_of_reservoir b v)
    (λ v. slice_index opening v - slice_index evaporated v) in
    let less =
    total_le (length b.reservoirs) (λ v. slice_index opening v - slice_index evaporated v)
    (λ v. slice_index opening v) (λ v l. omega arith) in
    let by_zone =
    total_same (length b.reservoirs) (λ v. slice_index opening v)
    (λ v. total (length b.rights)
    (λ r. if is_at (zone_index (slice_get b.rights r)) v then slice_index take r else 0))
    (λ v l. closed v l
    ∙ total_same (length b.rights) _ _ (λ r k. same_zone v (slice_get b.rights r) (slice_index take r))) in
    let at_zones =
    spread (length b.reservoirs) (length b.rights) (λ r. zone_index (slice_get b.rights r))
    (λ r. slice_index take r) in
    let most = total_most (length b.rights) (10 ^ 9) (λ r. slice_index take r) small in
    omega (arith, at_nodes, less, by_zone, at_zones, most, valid.bounded.rights)
  where
    index_of_kind : RightKind → Option ℕ
    index_of_kind (Diversion node) = None
    index_of_kind (Instream link) = None
    index_of_kind (Zone at level) = Some at

    zone_index : Option Right → Option ℕ
    zone_index None = None
    zone_index (Some right) = index_of_kind right.kind

    same_kind : (v : ℕ) (kind : RightKind) → is_zone_of_kind kind v ≡ is_at (index_of_kind kind) v
    same_kind v (Diversion node) = refl
    same_kind v (Instream link) = refl
    same_kind v (Zone at level) = refl

    same_zone : (v : ℕ) (o : Option Right) (x : ℕ) →
        (if unwrap_or (option_map (λ r. is_zone_of_kind r.kind v) o) false then x else 0)
        ≡ (if is_at (zone_index o) v then x else 0)
    same_zone v None x = refl
    same_zone v (Some right) x = ap (λ t. if t then x else 0) (same_kind v right.kind)
