-- Partial histories grow record by record.
use Rattle.std.proofs.Common.{◌≡◌, ℕ, zero, suc, ◌+◌, ◌-◌, ◌<◌, ◌≤◌, refl, sym, ◌∙◌, ap, subst, arith, List, [], ◌∷◌}
use Rattle.std.proofs.Common.{◌++◌, length, map, take, inl, inr, length-append}
use Rattle.std.specs.Prelude.{slice_get, slice_index, Some, None, ◌⊎◌, unwrap_or, option_map}
use Rattle.std.proofs.lemmas.List.{take-append-le}
use Rattle.std.proofs.Math.Seq.{take-length}
use Rattle.std.proofs.lemmas.Option.{slice_get_within}
use Rattle.water_text.specs.Months.{IsMonth}
use Rattle.water_model.specs.History.{IsPartialHistory, IsHistory, Follows, IsNextMonth, opening_after}
use Rattle.water_model.specs.Hydrology.{run_month, inflow_at, stored_at, want_of}
use Rattle.water_model.specs.Valid.{IsValidRun}
use Rattle.water_model.specs.declared.types.Basin.{Basin}
use Rattle.water_model.specs.declared.types.Series.{Series}
use Rattle.water_model.specs.declared.types.MonthRecord.{MonthRecord}
use Rattle.water_model.proofs.Lists.{get_after}

-- an element of a list with one more at its end is one of the list, or the last
pub at_end : {X : Type 0} (xs : List X) (y x : X) (i : ℕ) → slice_get (xs ++ y ∷ []) i ≡ Some x →
    (slice_get xs i ≡ Some x) ⊎ ((i ≡ length xs) × (y ≡ x))
at_end [] y x zero h = inr (refl, cc)
at_end [] y x (suc i) h = let none : None ≡ Some x = h in cc
at_end (z ∷ zs) y x zero h = inl h
at_end (z ∷ zs) y x (suc i) h =
    elim (at_end zs y x i h) [ inl within ↦ inl within | inr last ↦ inr (ap suc last.0, last.1) ]

pub nothing_is_partial : (b : Basin) (series : Series) → IsPartialHistory b series []
nothing_is_partial b series = record { within = omega arith; each = λ i m h. absurd (cc (h)) }

-- a record that follows a partial history makes a longer one
pub one_month_more : (b : Basin) (series : Series) (records : List MonthRecord) (m : MonthRecord) →
    IsPartialHistory b series records →
    length records < b.months → Follows b series records m → IsPartialHistory b series (records ++ m ∷ [])
one_month_more b series records m partial left follows = record {
  within = omega (arith, length-append records (m ∷ []));
  each = λ i n h. by_index i n (at_end records m n i h);
}
  where
    prefix : (i : ℕ) → i ≤ length records → take i (records ++ m ∷ []) ≡ take i records
    prefix i h = take-append-le i records (m ∷ []) h

    by_index : (i : ℕ) (n : MonthRecord) → (slice_get records i ≡ Some n) ⊎ ((i ≡ length records) × (m ≡ n)) →
        Follows b series (take i (records ++ m ∷ [])) n
    by_index i n (inl within) =
        let below : i < length records = slice_get_within records i n within in
        subst (λ (before : List MonthRecord). Follows b series before n) (sym (prefix i (omega arith)))
        (partial.each i n within)
    by_index i n (inr last) =
        let whole : take i (records ++ m ∷ []) ≡ records =
        ap (λ k. take k (records ++ m ∷ [])) last.0 ∙ prefix (length records) (omega arith) ∙ take-length records in
        subst (λ (before : List MonthRecord). Follows b series before n) (sym whole)
        (subst (Follows b series records) last.1 follows)

-- the last record of a partial history follows those before it
pub last_follows : (b : Basin) (series : Series) (before : List MonthRecord) (m : MonthRecord) →
    IsPartialHistory b series (before ++ m ∷ []) → Follows b series before m
last_follows b series before m partial =
    subst (λ (rs : List MonthRecord). Follows b series rs m)
    (take-append-le (length before) before (m ∷ []) (omega arith) ∙ take-length before)
    (partial.each (length before) m (get_after before [] m))

-- a record that follows others with one series also follows them with another that gives the same in its month
pub follows_alike : (b : Basin) (series other : Series) (before : List MonthRecord) (m : MonthRecord) →
    ((n : ℕ) → n < length b.nodes → inflow_at b series n m.index ≡ inflow_at b other n m.index) →
    ((r used : ℕ) → r < length b.rights → want_of b series r m.index used ≡ want_of b other r m.index used) →
    Follows b series before m → Follows b other before m
follows_alike b series other before m inflows wants f = assumption (after)
  where
    supply : (n : ℕ) → n < length b.nodes → slice_index m.supply n
        ≡ inflow_at b other n m.index + slice_index m.returned n + stored_at b m.opening m.evaporated n
    supply n l = f.after.supply n l
        ∙ ap (λ x. x + slice_index m.returned n + stored_at b m.opening m.evaporated n) (inflows n l)

    want : (r : ℕ) → r < length b.rights → slice_index m.want r ≡ want_of b other r m.index (slice_index m.used r)
    want r l = f.after.want r l ∙ wants r (slice_index m.used r) l

    after : IsNextMonth b other before m
    after = assumption (f.after, supply, want)

-- the closing of the last record is what the next month opens with
pub opens_with_last : (b : Basin) (records : List MonthRecord) (m : MonthRecord) →
    opening_after b (records ++ m ∷ []) ≡ m.closing
opens_with_last b records m =
    let position : length (records ++ m ∷ []) - 1 ≡ length records = omega (arith, length-append records (m ∷ [])) in
    let at : slice_get (records ++ m ∷ []) (length (records ++ m ∷ []) - 1) ≡ Some m =
    ap (slice_get (records ++ m ∷ [])) position ∙ get_after records [] m in
    ap (λ o. unwrap_or (option_map (λ k. k.closing) o) (map (λ v. v.opening) b.reservoirs)) at

-- a partial history of all months is a history
pub all_months : (b : Basin) (series : Series) (records : List MonthRecord) → IsPartialHistory b series records →
    length records ≡ b.months → IsHistory b series records
all_months b series records partial whole = record { partial = partial; whole = whole }

-- the months of a run can be spelled
pub IsMonth-run_month : (b : Basin) (i : ℕ) → IsValidRun b → i < b.months → IsMonth (run_month b i)
IsMonth-run_month b i run l = record {
  year = (omega (arith, run.first.year), omega (arith, run.ends, run.first.month));
  month = (omega arith, omega arith);
}
