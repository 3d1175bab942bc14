-- The rows of what is on its way, and the indices of nodes.
use Rattle.std.proofs.Common.{◌≡◌, ◌∙◌, ℕ, ◌+◌, ◌-◌, ◌*◌, ◌%◌, ◌^◌, ◌<◌, ◌≤◌, List, [], ◌∷◌, length, get_or, set, map}
use Rattle.std.proofs.Common.{refl, sym, ap, subst, arith}
use Rattle.std.specs.Prelude.{All, min, if◌then◌else◌, ◌==◌, option_map, unwrap_or, slice_get, Some}
use Rattle.std.proofs.lemmas.Bool.Decides.{nat_tests}
use Rattle.std.proofs.lemmas.Grind.{common_steps}
use Rattle.std.proofs.lemmas.List.{length-map, get_or-map}
use Rattle.std.proofs.lemmas.List.Elements.{All-map}
use Rattle.std.proofs.lemmas.Option.{slice_get_read, slice_get-map}
use Rattle.std.proofs.Math.Seq.{drop-nil}
use Rattle.finite_sums.specs.Sums.{total}
use Rattle.finite_sums.proofs.Totals.{total_grows, total_more, total_same, total_zero}
use Rattle.water_model.specs.Hydrology.{delivered_before, delivered_in, returned_by}
use Rattle.water_model.specs.Lookups.{of_entry}
use Rattle.water_model.specs.declared.types.ReturnRow.{ReturnRow}
use Rattle.water_model.proofs.Valid.{entry_holds}
use Rattle.lag_returns.specs.ReturnFlows.{HasRoomFor, arriving, brought, brought_to, fresh}
use Rattle.lag_returns.specs.Lags.{InTransit, IsInTransit, LagsStandFor, IsLagged, return_rows, arrivals_at}
use Rattle.lag_returns.proofs.Arrivals.{arriving_is}

-- what holds of each row
pub of_row : (P : ReturnRow → Type 0) (lags : List InTransit) → All P (return_rows lags) → All (λ w. P w.row) lags
of_row P lags h k d l = subst P (get_or-map (λ w. w.row) lags k d d.row l) (h k d.row (rw length-map l))

pub row_at : (P : ReturnRow → Type 0) (lags : List InTransit) (i : ℕ) {w : InTransit} → All P (return_rows lags) →
    i < length lags → w ≡ get_or lags i w → P w.row
row_at P lags i {w} h l read = subst (λ x. P x.row) (sym read) (of_row P lags h i w l)

pub lagged_fresh : (rows : List ReturnRow) → All IsLagged rows → All (λ w. IsLagged w.row) (map fresh rows)
lagged_fresh rows h = All-map (λ w. IsLagged w.row) fresh rows h

rows_of_fresh : (rows : List ReturnRow) → return_rows (map fresh rows) ≡ rows
rows_of_fresh [] = refl
rows_of_fresh (row ∷ rows) = ap (λ xs. row ∷ xs) (rows_of_fresh rows)

-- before the first month nothing is on its way
fresh_waits : (row : ReturnRow) → IsInTransit [] (fresh row)
fresh_waits row = record {
  waiting = sym (drop-nil (0 - row.lag));
  remainder =
      sym (no_parts row.part (delivered_before [] row.right (0 - row.lag))
      (total_zero (0 - row.lag) (λ k. delivered_in [] row.right k) (λ k h. refl)));
}
  where
    no_parts : (p d : ℕ) → d ≡ 0 → (p * d) % 10000 ≡ 0
    no_parts p d e = rw e (omega arith)

pub stands_fresh : (rows : List ReturnRow) → LagsStandFor (map fresh rows) rows []
stands_fresh rows = record {
  of_rows = rows_of_fresh rows;
  each = All-map (IsInTransit []) fresh rows (λ k d l. fresh_waits _);
}

-- an index at which something is added
index_after : (xs : List ℕ) (k n a : ℕ) → k < length xs →
    get_or (set xs k (get_or xs k 0 + a)) n 0 ≡ get_or xs n 0 + (if k == n then a else 0)
index_after xs k n a l = grind (arith, common_steps, nat_tests)

-- once one more row has come
pub one_row_more : (lags : List InTransit) (i : ℕ) {w : InTransit} (into : List ℕ) (n before : ℕ) → i < length lags →
    w ≡ get_or lags i w → w.row.node < length into →
    get_or into n 0 ≡ before + total i (λ k. of_entry lags k (brought_to n) 0) →
    get_or (set into w.row.node (get_or into w.row.node 0 + arriving w)) n 0 ≡ before + total (i + 1)
    (λ k. of_entry lags k (brought_to n) 0)
one_row_more lags i {w} into n before l read node h =
    omega (
      arith,
      index_after into w.row.node n (arriving w) node,
      total_more i (λ k. of_entry lags k (brought_to n) 0),
      ap (λ o. unwrap_or (option_map (brought_to n) o) 0) (slice_get_read lags _ i w refl l read),
    )

pub one_row_little : (w : InTransit) (into : List ℕ) (n : ℕ) → w.row.node < length into → arriving w ≤ 10 ^ 9 →
    get_or (set into w.row.node (get_or into w.row.node 0 + arriving w)) n 0 ≤ get_or into n 0 + 10 ^ 9
one_row_little w into n node little =
    at_most w.row.node n (arriving w) _ (get_or into n 0) little (index_after into w.row.node n (arriving w) node)
  where
    at_most : (k n a x y : ℕ) → a ≤ 10 ^ 9 → x ≡ y + (if k == n then a else 0) → x ≤ y + 10 ^ 9
    at_most k n a x y l e = grind (arith, nat_tests)

-- a row has room at its node while the rows before it have brought what they bring, at most 10^9 each
pub room_at : (lags : List InTransit) (i : ℕ) {w : InTransit} (into now : List ℕ) → i < length lags →
    w ≡ get_or lags i w → w.row.node < length into → HasRoomFor lags into →
    get_or now w.row.node 0 ≡ get_or into w.row.node 0 + total i (λ k. of_entry lags k (brought_to w.row.node) 0) →
    get_or now w.row.node 0 ≤ get_or into w.row.node 0 + 10 ^ 9 * i →
    get_or now w.row.node 0 + min (arriving w) (10 ^ 9) < 2 ^ 64
room_at lags i {w} into now l read node room added little =
    omega (
      arith,
      room w.row.node node,
      added,
      little,
      total_more i (λ k. of_entry lags k (brought_to w.row.node) 0),
      total_grows (i + 1) (length lags) (λ k. of_entry lags k (brought_to w.row.node) 0) (omega arith),
      ap (λ o. unwrap_or (option_map (brought_to w.row.node) o) 0) (slice_get_read lags _ i w refl l read),
      own w.row.node (arriving w),
    )
  where
    own : (n a : ℕ) → (if n == n then a else 0) ≡ a
    own n a = grind (arith, nat_tests)

-- what the rows bring is what the sums over all months say
pub arrivals : {lags : List InTransit} {rows : List ReturnRow} {deliveries : List (List ℕ)} (node : ℕ) →
    LagsStandFor lags rows deliveries → brought lags node ≡ arrivals_at rows deliveries node
arrivals {lags} {rows} {deliveries} node h =
    total_same (length lags) (λ k. of_entry lags k (brought_to node) 0) (λ k. of_entry (return_rows lags) k brings 0)
    (λ k l. entry k (entry_holds (IsInTransit deliveries) lags k h.each l))
    ∙ ap (λ n. total n (λ k. of_entry (return_rows lags) k brings 0)) (sym (length-map lags (λ w. w.row)))
    ∙ ap (λ xs. arrivals_at xs deliveries node) h.of_rows
  where
    brings : ReturnRow → ℕ
    brings row = if row.node == node then returned_by row deliveries (length deliveries) else 0

    entry : (k : ℕ) → (w : InTransit) × (slice_get lags k ≡ Some w) × IsInTransit deliveries w →
        of_entry lags k (brought_to node) 0 ≡ of_entry (return_rows lags) k brings 0
    entry k found =
        rw (slice_get-map (λ w. w.row) lags k, found.1)
        (ap (λ a. if found.0.row.node == node then a else 0) (arriving_is found.2))
