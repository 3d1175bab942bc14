-- A list grows month by month.
use Rattle.std.proofs.Common.{◌≡◌, ℕ, sym, ap, subst, ◌∙◌, List, [], ◌∷◌, ◌++◌, append_assoc, append-nil, inl, inr}
use Rattle.std.specs.Prelude.{◌⊎◌, length, slice_get, Some, None}
use Rattle.std.specs.List.{flat_map}
use Rattle.std.proofs.lemmas.Grind.{flat_map-append}
use Rattle.std.proofs.lemmas.List.{map-append}
use Rattle.water_model.specs.declared.types.Basin.{Basin}
use Rattle.water_model.proofs.Histories.{at_end}
use Rattle.call_list.specs.Found.{IsFoundIn}
use Rattle.call_list.specs.Lists.{head_bytes, month_bytes}
use Rattle.call_list.specs.Whole.{MonthFound, AreFoundIn, records_of, begun_bytes}

-- the lines of a month
abbrev lines_of : Basin → MonthFound → List ℕ
lines_of b e = month_bytes b e.month e.found

-- before the first month stands the first line
pub begun_none : (b : Basin) → begun_bytes b [] ≡ head_bytes b
begun_none b = append-nil (head_bytes b)

pub begun_more : (b : Basin) (months : List MonthFound) (e : MonthFound) →
    begun_bytes b (months ++ e ∷ []) ≡ begun_bytes b months ++ month_bytes b e.month e.found
begun_more b months e =
    ap (λ lines. head_bytes b ++ lines)
    (flat_map-append (lines_of b) months (e ∷ []) ∙ ap (λ lines. flat_map (lines_of b) months ++ lines)
    (append-nil (lines_of b e)))
    ∙ sym (append_assoc (head_bytes b) (flat_map (lines_of b) months) (lines_of b e))

pub records_more : (months : List MonthFound) (e : MonthFound) →
    records_of (months ++ e ∷ []) ≡ records_of months ++ e.month ∷ []
records_more months e = map-append (λ (k : MonthFound). k.month) months (e ∷ [])

pub nothing_found : (b : Basin) → AreFoundIn b []
nothing_found b = record { each = λ i e at. none i e at }
  where
    none : (i : ℕ) (e : MonthFound) → slice_get [] i ≡ Some e → IsFoundIn b e.month e.found
    none i e at = let never : None ≡ Some e = at in cc

pub found_more : (b : Basin) (months : List MonthFound) (e : MonthFound) → AreFoundIn b months →
    IsFoundIn b e.month e.found → AreFoundIn b (months ++ e ∷ [])
found_more b months e are is = record { each = λ i k at. by_index i k (at_end months e k i at) }
  where
    by_index : (i : ℕ) (k : MonthFound) → (slice_get months i ≡ Some k) ⊎ ((i ≡ length months) × (e ≡ k)) →
        IsFoundIn b k.month k.found
    by_index i k (inl within) = are.each i k within
    by_index i k (inr last) = subst (λ (x : MonthFound). IsFoundIn b x.month x.found) last.1 is
