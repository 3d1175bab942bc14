-- What a row keeps after one more month.
use Rattle.std.proofs.Common.{◌≡◌, ◌∙◌, ℕ, ◌+◌, ◌-◌, ◌*◌, ◌%◌, ◌<◌, ◌≤◌, List, [], ◌∷◌, ◌++◌, length, get_or, map, take}
use Rattle.std.proofs.Common.{drop, refl, sym, ap, arith}
use Rattle.std.specs.Prelude.{slice_index, All, Vec, option_map, unwrap_or}
use Rattle.std.specs.Vec.{with_items}
use Rattle.std.proofs.lemmas.List.{with_items_is, length-map, length-drop, length-append, map-append, drop-append-le}
use Rattle.std.proofs.lemmas.List.{drop-drop}
use Rattle.std.proofs.lemmas.Grind.{common_steps}
use Rattle.std.proofs.lemmas.List.Elements.{All-map}
use Rattle.std.proofs.Math.Nat.{mul-add}
use Rattle.circular_buffer.specs.Buffer.{keep_last}
use Rattle.circular_buffer.proofs.Places.{slice_get-append_left}
use Rattle.finite_sums.proofs.Totals.{total_same}
use Rattle.water_model.specs.Hydrology.{delivered_in, delivered_before}
use Rattle.lag_returns.specs.ReturnFlows.{due, after_month, emptied, fresh}
use Rattle.lag_returns.specs.Lags.{InTransit, IsInTransit, LagsStandFor, IsLagged, return_rows, delivered_to}
use Rattle.lag_returns.proofs.Arrivals.{IsDue, is_due, remainder}
use Rattle.water_model.specs.declared.types.ReturnRow.{ReturnRow}

-- earlier months stay as they were
earlier : (deliveries : List (List ℕ)) (delivered : List ℕ) (right m : ℕ) → m ≤ length deliveries →
    delivered_before (deliveries ++ delivered ∷ []) right m ≡ delivered_before deliveries right m
earlier deliveries delivered right m l =
    total_same m (λ k. delivered_in (deliveries ++ delivered ∷ []) right k) (λ k. delivered_in deliveries right k)
    (λ k h. ap (λ o. unwrap_or (option_map (λ d. slice_index d right) o) 0)
    (slice_get-append_left deliveries (delivered ∷ []) k (omega arith)))

-- the last n of a list and one more are those of its own last n and that one
last_of_more : {X : Type 0} (n : ℕ) (xs : List X) (x : X) →
    keep_last n (keep_last n xs ++ x ∷ []) ≡ keep_last n (xs ++ x ∷ [])
last_of_more {X = X} n xs x =
    ap (drop (length (keep_last n xs ++ x ∷ []) - n)) (sym (drop-append-le (length xs - n) xs (x ∷ []) (omega arith)))
    ∙ drop-drop (length (keep_last n xs ++ x ∷ []) - n) (length xs - n) (xs ++ x ∷ []) ∙ ap (λ k. drop k (xs ++ x ∷ []))
    (omega (
      arith,
      length-append (keep_last n xs) (x ∷ []),
      length-drop (length xs - n) xs,
      length-append xs (x ∷ []),
    ))

in_transit_after : {deliveries : List (List ℕ)} (delivered : List ℕ) {w : InTransit} → 1 ≤ w.row.lag →
    IsInTransit deliveries w → IsInTransit (deliveries ++ delivered ∷ []) (after_month delivered w)
in_transit_after {deliveries} delivered {w} lag h = record { waiting = waiting; remainder = by (is_due h) }
  where
    more : length (deliveries ++ delivered ∷ []) ≡ length deliveries + 1
    more = length-append deliveries (delivered ∷ [])

    waiting : keep_last w.row.lag (w.waiting ++ slice_index delivered w.row.right ∷ [])
        ≡ keep_last w.row.lag (delivered_to (deliveries ++ delivered ∷ []) w.row.right)
    waiting =
        ap (λ xs. keep_last w.row.lag (xs ++ slice_index delivered w.row.right ∷ [])) h.waiting
        ∙ last_of_more w.row.lag (delivered_to deliveries w.row.right) (slice_index delivered w.row.right)
        ∙ ap (keep_last w.row.lag) (sym (map-append (λ d. slice_index d w.row.right) deliveries (delivered ∷ [])))

    before : delivered_before (deliveries ++ delivered ∷ []) w.row.right
        (length (deliveries ++ delivered ∷ []) - w.row.lag)
        ≡ delivered_before deliveries w.row.right (length deliveries + 1 - w.row.lag)
    before =
        earlier deliveries delivered w.row.right (length (deliveries ++ delivered ∷ []) - w.row.lag)
        (omega (arith, more)) ∙ ap (λ n. delivered_before deliveries w.row.right (n - w.row.lag)) more

    by : (amount : ℕ) × IsDue deliveries w amount → due w % 10000
        ≡ (w.row.part * delivered_before (deliveries ++ delivered ∷ []) w.row.right
        (length (deliveries ++ delivered ∷ []) - w.row.lag)) % 10000
    by found = rw (before, found.1.parts, remainder, found.1.more, mul-add) refl

pub rows_after : (delivered : List ℕ) (lags : List InTransit) →
    return_rows (map (after_month delivered) lags) ≡ return_rows lags
rows_after delivered [] = refl
rows_after delivered (w ∷ lags) = ap (λ rows. w.row ∷ rows) (rows_after delivered lags)

pub stands_after : {deliveries : List (List ℕ)} (delivered : List ℕ) {rows : List ReturnRow} {lags : List InTransit} →
    All (λ w. IsLagged w.row) lags → LagsStandFor lags rows deliveries →
    LagsStandFor (map (after_month delivered) lags) rows (deliveries ++ delivered ∷ [])
stands_after {deliveries} delivered {rows} {lags} lagged h = record {
  of_rows = rows_after delivered lags ∙ h.of_rows;
  each = All-map (IsInTransit (deliveries ++ delivered ∷ [])) (after_month delivered) lags
      (λ k d l. in_transit_after delivered (lagged k d l).lag.0 (h.each k d l));
}

pub lagged_after : (delivered : List ℕ) (lags : List InTransit) → All (λ w. IsLagged w.row) lags →
    All (λ w. IsLagged w.row) (map (after_month delivered) lags)
lagged_after delivered lags h = All-map (λ w. IsLagged w.row) (after_month delivered) lags h

-- the next row that wasn't changed yet
pub unchanged : {X : Type 0} (f : X → X) (now before : List X) (i : ℕ) (d : X) → i < length before →
    now ≡ map f (take i before) ++ drop i before → get_or now i d ≡ get_or before i d
unchanged {X = X} f now before i d l e = grind (arith, common_steps)

-- the list after its elements were written as a slice
pub written : {X Z : Type 0} (f : X → X) (v : Vec X Z) {now seen : List X} → now ≡ map f seen → seen ≡ v.items →
    length seen ≡ v.len → (with_items v now).items ≡ map f v.items
written f v {now} {seen} e same len = with_items_is v now (ap length e ∙ length-map seen f ∙ len) ∙ e ∙ ap (map f) same

-- rows with nothing on their way any more are those before the first month
pub emptied_are : (lags : List InTransit) → map emptied lags ≡ map fresh (return_rows lags)
emptied_are [] = refl
emptied_are (w ∷ lags) = ap (λ ws. fresh w.row ∷ ws) (emptied_are lags)
