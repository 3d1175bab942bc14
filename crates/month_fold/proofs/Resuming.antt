-- What the months of a partial history leave for a run to go on from.
use Rattle.std.proofs.Common.{◌≡◌, ℕ, zero, suc, ◌+◌, ◌-◌, ◌^◌, ◌<◌, ◌≤◌, refl, sym, ◌∙◌, ap, subst, arith, List, []}
use Rattle.std.proofs.Common.{◌∷◌, ◌++◌, length, get_or, map, take, length-take}
use Rattle.std.specs.Prelude.{All, replicate, slice_get, slice_index, Option, Some, None, option_map, unwrap_or}
use Rattle.std.proofs.lemmas.List.{length-map, length-replicate, map-append, take_more}
use Rattle.std.proofs.lemmas.Option.{slice_get-map, slice_get-get_or, slice_get_within}
use Rattle.water_model.specs.History.{IsPartialHistory, opening_after, HaveReaches}
use Rattle.water_model.specs.Hydrology.{delivered_in, used_of}
use Rattle.water_model.proofs.Valid.{entry_at}
use Rattle.water_model.specs.Valid.{IsValidBasin, IsSeriesOf}
use Rattle.water_model.specs.declared.types.Basin.{Basin}
use Rattle.water_model.specs.declared.types.Series.{Series}
use Rattle.water_model.specs.declared.types.MonthRecord.{MonthRecord}
use Rattle.month_terms.specs.Terms.{HasUsed}
use Rattle.month_fold.specs.Uses.{HasDeliveries, StateUse}
use Rattle.month_fold.specs.Runs.{RunView, WentThrough}
use Rattle.month_terms.proofs.Amounts.{deliveries_small as all_small}
use Rattle.month_terms.proofs.WaterYears.{nothing_used, used_most}
use Rattle.month_fold.proofs.Following.{deliveries_small}
use Rattle.water_model.proofs.Lists.{no_numbers}

-- what each month delivered
pub have_deliveries : {X : Type 0} (f : X → MonthRecord) (b : Basin) (series : Series) (xs : List X) → IsValidBasin b →
    IsSeriesOf b series → IsPartialHistory b series (map f xs) → All (λ x. HasDeliveries b (f x)) xs
have_deliveries f b series xs valid fits partial = λ k d l.
    let follows =
    partial.each k (f (get_or xs k d)) (slice_get-map f xs k ∙ ap (option_map f) (slice_get-get_or xs k d l)) in
    record {
      count = follows.after.fits.delivered;
      small = deliveries_small b series (take k (map f xs)) (f (get_or xs k d)) valid fits follows;
    }

-- what was used

delivered_prefix : (records : List MonthRecord) (i r j : ℕ) →
    delivered_in (map (λ k. k.delivered) (take i records)) r j ≤ delivered_in (map (λ k. k.delivered) records) r j
delivered_prefix [] zero r j = omega arith
delivered_prefix [] (suc i) r j = omega arith
delivered_prefix (m ∷ ms) zero r j = omega arith
delivered_prefix (m ∷ ms) (suc i) r zero = omega arith
delivered_prefix (m ∷ ms) (suc i) r (suc j) = delivered_prefix ms i r j

pub state_use : (b : Basin) (series : Series) (records : List MonthRecord) → IsValidBasin b → IsSeriesOf b series →
    IsPartialHistory b series records → StateUse b records
state_use b series records valid fits partial i m at =
    let follows = partial.each i m at in
    let within = slice_get_within records i m at in
    let count = length-take i records in
    record {
      index = follows.after.index;
      within = omega (arith, follows.after.index, partial.within);
      delivered =
          record {
            count = follows.after.fits.delivered;
            small =
                deliveries_small b series (take i records) m valid fits follows;
          };
      used = record {
        count = follows.after.fits.used;
        each = λ r l. follows.after.used r l ∙ ap (used_of b (map (λ k. k.delivered) (take i records)) r)
            (omega (arith, follows.after.index, length-map (take i records) (λ (k : MonthRecord). k.delivered)));
      };
      little = λ r l. omega (
        arith,
        follows.after.used r l,
        used_most b (map (λ k. k.delivered) (take i records)) r m.index (10 ^ 9) (small r),
        follows.after.index,
        partial.within,
        valid.run.months.1,
      );
    }
  where
    small : (r j : ℕ) → delivered_in (map (λ k. k.delivered) (take i records)) r j ≤ 10 ^ 9
    small r j = omega (arith, delivered_prefix records i r j, all_small b series records valid fits partial r j)

-- all months are those before the last, and the last
whole : (ys : List MonthRecord) (i : ℕ) (y : MonthRecord) → slice_get ys i ≡ Some y → i + 1 ≡ length ys →
    map (λ m. m.delivered) ys ≡ map (λ m. m.delivered) (take i ys) ++ y.delivered ∷ []
whole [] i y e l = absurd (cc)
whole (z ∷ []) zero y e l = ap (λ o. (unwrap_or o y).delivered ∷ []) e
whole (z ∷ w ∷ ys) zero y e l = absurd (omega arith)
whole (z ∷ ys) (suc i) y e l = ap (λ ds. z.delivered ∷ ds) (whole ys i y e (omega arith))

-- the last of some months, as a record
pub last_at : {X : Type 0} (f : X → MonthRecord) (xs : List X) (x : X) (m : MonthRecord) → m ≡ f x →
    Some x ≡ slice_get xs (length xs - 1) →
    slice_get (map f xs) (length (map f xs) - 1) ≡ Some m
last_at f xs x m same at =
    ap (λ n. slice_get (map f xs) (n - 1)) (length-map xs f)
    ∙ (slice_get-map f xs (length xs - 1) ∙ (ap (option_map f) (sym at) ∙ ap (λ (k : MonthRecord). Some k) (sym same)))

pub used_by_last : (b : Basin) (records : List MonthRecord) (m : MonthRecord) (used : List ℕ) → StateUse b records →
    slice_get records (length records - 1) ≡ Some m →
    ((deliveries : List (List ℕ)) → length deliveries ≡ m.index → HasUsed b deliveries m.used →
    HasUsed b (deliveries ++ m.delivered ∷ []) used) →
    HasUsed b (map (λ k. k.delivered) records) used
used_by_last b records m used tell at next =
    let own = tell (length records - 1) m at in
    let within = slice_get_within records (length records - 1) m at in
    subst (λ ds. HasUsed b ds used) (sym (whole records (length records - 1) m at (omega arith)))
    (next (map (λ k. k.delivered) (take (length records - 1) records))
    (length-map (take (length records - 1) records) (λ (k : MonthRecord). k.delivered) ∙ sym own.index) own.used)

-- where there is no last month there is none
empty_of : {X : Type 0} (xs : List X) → None ≡ slice_get xs (length xs - 1) → xs ≡ []
empty_of [] none = refl
empty_of (x ∷ xs) none =
    let there = entry_at (x ∷ xs) (length (x ∷ xs) - 1) (omega arith) in
    let never : None ≡ Some there.0 = none ∙ there.1 in absurd (cc)

pub used_by_zeros : {X : Type 0} (f : X → MonthRecord) (b : Basin) (xs : List X) (used : List ℕ) →
    None ≡ slice_get xs (length xs - 1) → used ≡ replicate (length b.rights) 0 →
    HasUsed b (map (λ k. k.delivered) (map f xs)) used
used_by_zeros f b xs used none zeros =
    rw (empty_of xs none) (nothing_used b used (ap length zeros ∙ length-replicate (length b.rights) 0)
    (λ r. ap (λ ys. slice_index ys r) zeros ∙ no_numbers (length b.rights) r))

-- what a run keeps is little
pub used_little : (run : RunView) (records : List MonthRecord) → WentThrough run records →
    (r : ℕ) → r < length run.basin.rights → slice_index run.used r ≤ 10 ^ 15
used_little run records went r l = omega (
  arith,
  went.used.each r l,
  used_most run.basin (map (λ k. k.delivered) records) r (length (map (λ (k : MonthRecord). k.delivered) records))
      (10 ^ 9)
      (all_small run.basin run.series records went.valid went.fits went.partial r),
  length-map records (λ (k : MonthRecord). k.delivered),
  went.partial.within,
  went.valid.run.months.1,
)

-- what is stored
pub stored_count : (b : Basin) (series : Series) (records : List MonthRecord) → IsPartialHistory b series records →
    length (opening_after b records) ≡ length b.reservoirs
stored_count b series records partial = by_last (slice_get records (length records - 1)) refl
  where
    by_last : (o : Option MonthRecord) → slice_get records (length records - 1) ≡ o →
        length (unwrap_or (option_map (λ m. m.closing) o) (map (λ v. v.opening) b.reservoirs)) ≡ length b.reservoirs
    by_last None e = length-map b.reservoirs (λ v. v.opening)
    by_last (Some m) e = (partial.each (length records - 1) m e).after.fits.closing

-- after the last of some months it is what that one left
pub stored_by_last : {X : Type 0} (f : X → MonthRecord) (b : Basin) (xs : List X) (x : X) (m : MonthRecord) → m ≡ f x →
    Some x ≡ slice_get xs (length xs - 1) → opening_after b (map f xs) ≡ m.closing
stored_by_last f b xs x m same at =
    ap (λ o. unwrap_or (option_map (λ k. k.closing) o) (map (λ v. v.opening) b.reservoirs)) (last_at f xs x m same at)

-- and after none what the basin file says
pub stored_by_none : {X : Type 0} (f : X → MonthRecord) (b : Basin) (xs : List X) →
    None ≡ slice_get xs (length xs - 1) → opening_after b (map f xs) ≡ map (λ v. v.opening) b.reservoirs
stored_by_none f b xs none = rw (empty_of xs none) refl

-- the deliveries of some months and one more
pub deliveries_more : {X : Type 0} (f : X → MonthRecord) (xs : List X) (i : ℕ) (x : X) (delivered : List ℕ) →
    i < length xs → x ≡ get_or xs i x →
    delivered ≡ (f x).delivered →
    map (λ m. m.delivered) (map f (take (i + 1) xs)) ≡ map (λ m. m.delivered) (map f (take i xs)) ++ delivered ∷ []
deliveries_more f xs i x delivered l is e =
    rw (take_more xs i x l, map-append, map-append, e)
    (ap (λ y. map (λ m. m.delivered) (map f (take i xs)) ++ (f y).delivered ∷ []) (sym is))

-- before the first month nothing was used
pub none_state : (b : Basin) → StateUse b []
none_state b i m at = let none : None ≡ Some m = at in cc

pub none_reach : (b : Basin) → HaveReaches b []
none_reach b i m at = let none : None ≡ Some m = at in cc
