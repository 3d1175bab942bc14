-- What a calendar says of a month of a run, and lists that are written at some indices.
use Rattle.std.proofs.Common.{◌≡◌, ℕ, zero, suc, ◌+◌, ◌*◌, ◌<◌, ◌≤◌, Bool, true, false, refl, sym, ap, ◌∙◌, arith}
use Rattle.std.proofs.Common.{◌⊎◌, List, [], ◌∷◌, ◌++◌, append-nil, length, get_or, map, inl, inr, filter}
use Rattle.std.specs.Prelude.{◌≢◌, slice_index, slice_get, slice_set, Option, Some, None, unwrap_or, option_map}
use Rattle.std.specs.Prelude.{if◌then◌else◌, is_some, min}
use Rattle.std.proofs.lemmas.Bool.{cases_order, cases_Bool}
use Rattle.std.proofs.lemmas.Grind.{common_steps, get_or-set_at}
use Rattle.std.proofs.lemmas.List.Elements.{filter-append}
use Rattle.std.proofs.lemmas.List.Kept.{AllPairs-from_increasing}
use Rattle.std.proofs.lemmas.Option.{get_or_from_slice_get, slice_get-map, slice_get_within}
use Rattle.std.proofs.Math.Nat.{mul-le-mul_right}
use Rattle.water_model.specs.Basin.{instream_link, link_of_kind}
use Rattle.water_model.specs.Hydrology.{inflow_at, inflow_of_kind, in_year, run_month, table_at, index_in, number_of}
use Rattle.water_model.specs.Hydrology.{want_of, want_by_volume, volume_of, cap_by_link}
use Rattle.water_model.specs.Indices.{numbers_from}
use Rattle.water_model.specs.Lookups.{of_entry}
use Rattle.water_model.specs.Plans.{delivery, delivery_by_link}
use Rattle.water_model.specs.Valid.{IsValidBasin, IsSeriesOf, HasValidSite, is_gauged, is_gauged_kind, is_series}
use Rattle.water_model.specs.declared.types.Basin.{Basin}
use Rattle.water_model.specs.declared.types.Inflow.{Inflow}
use Rattle.water_model.specs.declared.types.Inflow.TheVariants.{Monthly, Gauged}
use Rattle.water_model.specs.declared.types.Series.{Series}
use Rattle.water_model.specs.declared.types.Plan.{Plan}
use Rattle.water_model.specs.declared.types.Right.{Right}
use Rattle.water_model.specs.declared.types.RightKind.{RightKind}
use Rattle.water_model.specs.declared.types.RightKind.TheVariants.{Diversion, Instream, Zone}
use Rattle.water_model.specs.declared.types.Want.{Want}
use Rattle.water_model.specs.declared.types.Want.TheVariants as wants
use Rattle.water_model.proofs.Gauges.{cell_within, filter_short, gauges_rise, index_is}
use Rattle.water_model.proofs.Lists.{get_after, get_before, numbers_more}
use Rattle.water_model.proofs.Order.{Has, has-filter, filter-has, length-numbers_from, numbers_from-has}
use Rattle.water_model.proofs.Order.{numbers_from-below}
use Rattle.water_model.proofs.Valid.{entry_at, kind_is}
use Rattle.month_terms.specs.Calendars.{IsCalendarMonth, ListInstream, monthly_inflow, monthly_want, wants_otherwise}
use Rattle.month_terms.specs.declared.calendar.CalendarMonth.{CalendarMonth}
use Rattle.month_terms.specs.declared.calendar.InstreamPlace.{InstreamPlace}

-- The numbers below n that pass a test.

stands : (xs : List ℕ) (x : ℕ) → Has xs x → (k : ℕ) × (k < length xs) × (get_or xs k 0 ≡ x)
stands [] x h = absurd h
stands (y ∷ ys) x (inl is) = (0, omega arith, sym is)
stands (y ∷ ys) x (inr rest) = let at = stands ys x rest in (suc at.0, omega (arith, at.1), at.2)

has_at : (xs : List ℕ) (k : ℕ) → k < length xs → Has xs (get_or xs k 0)
has_at [] k l = absurd (omega arith)
has_at (y ∷ ys) zero l = inl refl
has_at (y ∷ ys) (suc k) l = inr (has_at ys k (omega arith))

pub listed : (p : ℕ → Bool) (n x : ℕ) → x < n → p x ≡ true →
    (k : ℕ) × (k < length (filter p (numbers_from 0 n))) × (get_or (filter p (numbers_from 0 n)) k 0 ≡ x)
listed p n x l e =
    stands (filter p (numbers_from 0 n)) x
    (has-filter p (numbers_from 0 n) x (numbers_from-has 0 n x x l (omega arith)) e)

pub passes : (p : ℕ → Bool) (n k : ℕ) → k < length (filter p (numbers_from 0 n)) →
    (p (get_or (filter p (numbers_from 0 n)) k 0) ≡ true) × (get_or (filter p (numbers_from 0 n)) k 0 < n)
passes p n k l =
    let is = filter-has p (numbers_from 0 n) (get_or (filter p (numbers_from 0 n)) k 0)
    (has_at (filter p (numbers_from 0 n)) k l) in
    let below = numbers_from-below 0 n (get_or (filter p (numbers_from 0 n)) k 0) is.0 in
    (is.1, omega (arith, below.1))

counted : (n : ℕ) → numbers_from 0 (n + 1) ≡ numbers_from 0 n ++ n ∷ []
counted n =
    let next : n + 1 ≡ suc n = omega arith in
    let same : 0 + n ≡ n = omega arith in
    ap (λ k. numbers_from 0 k) next ∙ (numbers_more 0 n ∙ ap (λ k. numbers_from 0 n ++ k ∷ []) same)

pub one_passes : (p : ℕ → Bool) (n : ℕ) → p n ≡ true →
    filter p (numbers_from 0 (n + 1)) ≡ filter p (numbers_from 0 n) ++ n ∷ []
one_passes p n e =
    ap (λ xs. filter p xs) (counted n) ∙ (filter-append p (numbers_from 0 n) (n ∷ [])
    ∙ ap (λ t. filter p (numbers_from 0 n) ++ (if t then n ∷ [] else [])) e)

pub one_fails : (p : ℕ → Bool) (n : ℕ) → p n ≡ false →
    filter p (numbers_from 0 (n + 1)) ≡ filter p (numbers_from 0 n)
one_fails p n e =
    ap (λ xs. filter p xs) (counted n) ∙ (filter-append p (numbers_from 0 n) (n ∷ [])
    ∙ (ap (λ t. filter p (numbers_from 0 n) ++ (if t then n ∷ [] else [])) e
    ∙ append-nil (filter p (numbers_from 0 n))))

-- A list that is written at one index after the other of some keys.

-- no key from i on is this number
abbrev pub NoneFrom : List ℕ → ℕ → ℕ → Type 0
NoneFrom keys i r = (k : ℕ) → i ≤ k → k < length keys → get_or keys k 0 ≡ r → ⊥

pub written : (xs : List ℕ) (at x r : ℕ) (f : ℕ → ℕ) → at < length xs → x ≡ f at →
    (r ≢ at → slice_index xs r ≡ f r) → slice_index (slice_set xs at x) r ≡ f r
written xs at x r f l is other = elim (cases_order r at) [
  | inl same ↦ get_or-set_at xs at r x 0 same l ∙ (is ∙ ap f (sym same))
  | inr differ ↦ (let apart : r ≢ at = λ same. elim differ [ inl a ↦ omega arith | inr a ↦ omega arith ] in
      let before = other apart in grind (arith, common_steps))
]

pub key_more : (keys xs : List ℕ) (i at x n : ℕ) (f : ℕ → ℕ) → slice_get keys i ≡ Some at → at < length xs →
    x ≡ f at → ((r : ℕ) → r < n → NoneFrom keys i r → slice_index xs r ≡ f r) →
    (r : ℕ) → r < n → NoneFrom keys (i + 1) r → slice_index (slice_set xs at x) r ≡ f r
key_more keys xs i at x n f key within is before r l none =
    written xs at x r f within is (λ apart. before r l (λ k low high e. elim (cases_order k i) [
      | inl same ↦
          apart (sym e ∙ (ap (λ j. get_or keys j 0) same ∙ get_or_from_slice_get keys i at 0 key))
      | inr differ ↦ none k (elim differ [ inl a ↦ omega arith | inr a ↦ omega arith ]) high e
    ]))

-- no number that passes the test is left out where the keys are those that pass
pub none_passes : (p : ℕ → Bool) (keys : List ℕ) (n r : ℕ) → keys ≡ filter p (numbers_from 0 n) → r < n →
    NoneFrom keys 0 r → p r ≡ false
none_passes p keys n r are l none = elim (cases_Bool (p r)) [
  | inl passing ↦
      (let at = listed p n r l passing in
      absurd (none at.0 (omega arith) (omega (arith, at.1, ap length are)) (ap (λ xs. get_or xs at.0 0) are ∙ at.2)))
  | inr failing ↦ failing
]

pub key_within : (p : ℕ → Bool) (keys : List ℕ) (n i at : ℕ) → keys ≡ filter p (numbers_from 0 n) →
    slice_get keys i ≡ Some at → at < n
key_within p keys n i at are key =
    omega (
      arith,
      (passes p n i (omega (arith, slice_get_within keys i at key, ap length are))).1,
      get_or_from_slice_get keys i at 0 key,
      ap (λ xs. get_or xs i 0) are,
    )

-- What flows in.

pub month_number : {X : Type 0} (f : X → ℕ) (xs : List X) (numbers : List ℕ) (n : ℕ) (x : X) →
    numbers ≡ map f xs → slice_get xs n ≡ Some x → slice_index numbers n ≡ f x
month_number f xs numbers n x are at =
    ap (λ ys. slice_index ys n) are
    ∙ get_or_from_slice_get (map f xs) n (f x) 0 (slice_get-map f xs n ∙ ap (option_map f) at)

inflow_by_entry : (b : Basin) (series : Series) (n i : ℕ) → n < length b.nodes →
    (kind : Inflow) × (inflow_at b series n i ≡ inflow_of_kind b series n i kind)
    × (is_gauged b n ≡ is_gauged_kind kind)
    × ((p : ℕ) (m : CalendarMonth) → IsCalendarMonth b p m → slice_index m.inflows n ≡ monthly_inflow kind p)
inflow_by_entry b series n i l =
    let entry = entry_at b.nodes n l in (
      entry.0.inflow,
      ap (λ o. unwrap_or (option_map (λ x. inflow_of_kind b series n i x.inflow) o) 0) entry.1,
      ap (λ o. unwrap_or (option_map (λ x. is_gauged_kind x.inflow) o) false) entry.1,
      λ p m is. month_number (λ x. monthly_inflow x.inflow p) b.nodes m.inflows n entry.0 is.inflows entry.1,
    )

-- at no node more than this month's
pub inflow_within : (b : Basin) (series : Series) (n i p : ℕ) (m : CalendarMonth) → IsCalendarMonth b p m →
    p ≡ in_year b i → n < length b.nodes → slice_index m.inflows n ≤ inflow_at b series n i
inflow_within b series n i p m is at l =
    let entry = inflow_by_entry b series n i l in
    omega (arith, entry.1, entry.3 p m is, by_kind entry.0)
  where
    by_kind : (kind : Inflow) → monthly_inflow kind p ≤ inflow_of_kind b series n i kind
    by_kind (Monthly amounts) = omega (arith, ap (λ q. slice_index amounts q) at)
    by_kind Gauged = omega arith

-- and all of it where no gauge is
pub inflow_is : (b : Basin) (series : Series) (n i p : ℕ) (m : CalendarMonth) → IsCalendarMonth b p m →
    p ≡ in_year b i → n < length b.nodes → is_gauged b n ≡ false → slice_index m.inflows n ≡ inflow_at b series n i
inflow_is b series n i p m is at l no_gauge =
    let entry = inflow_by_entry b series n i l in
    entry.3 p m is ∙ (by_kind entry.0 (sym entry.2 ∙ no_gauge) ∙ sym entry.1)
  where
    by_kind : (kind : Inflow) → is_gauged_kind kind ≡ false → monthly_inflow kind p ≡ inflow_of_kind b series n i kind
    by_kind (Monthly amounts) h = ap (λ q. slice_index amounts q) at
    by_kind Gauged h = absurd (cc)

-- A gauge of the series: its node, and where its amount of a month stands.

pub record IsGauge (b : Basin) (series : Series) (i gauge node : ℕ) : Type 0 where
  pub within : node < length b.nodes
  pub cell : i * length series.gauged + gauge < length series.amount
  pub amount : slice_index series.amount (i * length series.gauged + gauge) ≡ inflow_at b series node i

pub gauge_is : (b : Basin) (series : Series) (i gauge node : ℕ) → IsSeriesOf b series → i < b.months →
    slice_get series.gauged gauge ≡ Some node → IsGauge b series i gauge node
gauge_is b series i gauge node fits l at = record {
  within = inside;
  cell = omega (arith, cell_within i b.months (length series.gauged) gauge l in_list, fits.amounts);
  amount = sym (entry.1 ∙ (by_kind entry.0 (sym entry.2 ∙ gauged)
      ∙ ap (λ j. slice_index series.amount (i * length series.gauged + j)) index));
}
  where
    in_list : gauge < length series.gauged
    in_list = slice_get_within series.gauged gauge node at

    reads : get_or series.gauged gauge 0 ≡ node
    reads = get_or_from_slice_get series.gauged gauge node 0 at

    inside : node < length b.nodes
    inside = key_within (λ n. is_gauged b n) series.gauged (length b.nodes) gauge node fits.gauged at

    gauged : is_gauged b node ≡ true
    gauged = ap (λ n. is_gauged b n) (sym reads ∙ ap (λ xs. get_or xs gauge 0) fits.gauged)
        ∙ (passes (λ n. is_gauged b n) (length b.nodes) gauge (omega (arith, in_list, ap length fits.gauged))).0

    index : index_in series.gauged node ≡ gauge
    index = sym (index_is series.gauged node gauge (omega (arith, in_list))
        (λ k below e. (let less : get_or series.gauged k 0 < get_or series.gauged gauge 0 =
        AllPairs-from_increasing series.gauged (gauges_rise b series fits) k gauge 0 below in_list in
        omega (arith, reads)))
        (λ l. reads))

    entry : (kind : Inflow) × (inflow_at b series node i ≡ inflow_of_kind b series node i kind)
        × (is_gauged b node ≡ is_gauged_kind kind)
        × ((p : ℕ) (m : CalendarMonth) → IsCalendarMonth b p m → slice_index m.inflows node ≡ monthly_inflow kind p)
    entry = inflow_by_entry b series node i inside

    by_kind : (kind : Inflow) → is_gauged_kind kind ≡ true →
        inflow_of_kind b series node i kind ≡ table_at series.gauged series.amount i node
    by_kind (Monthly amounts) h = absurd (cc)
    by_kind Gauged h = refl

-- a month's amounts stand within a list in memory
pub row_small : (b : Basin) (series : Series) (i : ℕ) → IsValidBasin b → IsSeriesOf b series → i < b.months →
    (i * length series.gauged ≤ 2400000) × (length series.gauged ≤ 2000)
row_small b series i valid fits l =
    let few : length series.gauged ≤ 2000 =
    omega (
      arith,
      ap length fits.gauged,
      filter_short (λ n. is_gauged b n) (numbers_from 0 (length b.nodes)),
      length-numbers_from 0 (length b.nodes),
      valid.bounded.nodes,
    ) in
    let most : i * length series.gauged ≤ 1200 * length series.gauged =
    mul-le-mul_right (length series.gauged) (omega (arith, valid.run.months.1)) in
    (omega arith, few)

-- What rights want.

pub want_is : (b : Basin) (series : Series) (r i p used : ℕ) (m : CalendarMonth) → IsCalendarMonth b p m →
    p ≡ in_year b i → r < length b.rights → of_entry b.rights r wants_otherwise false ≡ false →
    slice_index m.wants r ≡ want_of b series r i used
want_is b series r i p used m is at l plain =
    let entry = entry_at b.rights r l in
    let volume : volume_of b r ≡ entry.0.volume =
    ap (λ o. unwrap_or (option_map (λ x. x.volume) o) None) entry.1 in
    let link : instream_link b r ≡ link_of_kind entry.0.kind =
    ap (λ o. unwrap_or (option_map (λ x. link_of_kind x.kind) o) None) entry.1 in
    let number : of_entry b.rights r (λ x. number_of b series r i x.want) 0 ≡ number_of b series r i entry.0.want =
    ap (λ o. unwrap_or (option_map (λ x. number_of b series r i x.want) o) 0) entry.1 in
    let row = month_number (λ x. monthly_want x.want p) b.rights m.wants r entry.0 is.wants entry.1 in
    let alone : wants_otherwise entry.0 ≡ false =
    sym (ap (λ o. unwrap_or (option_map wants_otherwise o) false) entry.1) ∙ plain in
    row ∙ (ap (monthly_want entry.0.want) at
    ∙ (by entry.0.want entry.0.volume (link_of_kind entry.0.kind) alone
    ∙ sym (ap (λ v. want_by_volume v (cap_by_link b (run_month b i) (instream_link b r)
    (of_entry b.rights r (λ x. number_of b series r i x.want) 0)) used) volume
    ∙ (ap (λ o. want_by_volume entry.0.volume (cap_by_link b (run_month b i) o
    (of_entry b.rights r (λ x. number_of b series r i x.want) 0)) used) link
    ∙ ap (λ x. want_by_volume entry.0.volume (cap_by_link b (run_month b i) (link_of_kind entry.0.kind) x) used)
    number))))
  where
    by : (w : Want) (v o : Option ℕ) →
        (if is_series w then true else (if is_some v then true else is_some o)) ≡ false →
        monthly_want w (in_year b i) ≡ want_by_volume v (cap_by_link b (run_month b i) o (number_of b series r i w)) used
    by wants.Series v o h = absurd (cc)
    by (wants.Monthly amounts) (Some volume) o h = absurd (cc)
    by (wants.Monthly amounts) None (Some link) h = absurd (cc)
    by (wants.Monthly amounts) None None h = refl

-- the want of a right without a volume and without wants in the series
pub want_stands : (b : Basin) (series : Series) (r i p used number : ℕ) (x : Right) → slice_get b.rights r ≡ Some x →
    is_series x.want ≡ false → is_some x.volume ≡ false → p ≡ in_year b i →
    number ≡ cap_by_link b (run_month b i) (link_of_kind x.kind) (monthly_want x.want p) →
    number ≡ want_of b series r i used
want_stands b series r i p used number x entry no_series no_volume at is =
    is
    ∙ (ap (λ q. cap_by_link b (run_month b i) (link_of_kind x.kind) (monthly_want x.want q)) at
    ∙ (by x.want x.volume (link_of_kind x.kind) no_series no_volume
    ∙ sym (ap (λ v. want_by_volume v (cap_by_link b (run_month b i) (instream_link b r)
    (of_entry b.rights r (λ y. number_of b series r i y.want) 0)) used) volume
    ∙ (ap (λ o. want_by_volume x.volume (cap_by_link b (run_month b i) o
    (of_entry b.rights r (λ y. number_of b series r i y.want) 0)) used) link
    ∙ ap (λ y. want_by_volume x.volume (cap_by_link b (run_month b i) (link_of_kind x.kind) y) used) known))))
  where
    volume : volume_of b r ≡ x.volume
    volume = ap (λ o. unwrap_or (option_map (λ (y : Right). y.volume) o) None) entry

    link : instream_link b r ≡ link_of_kind x.kind
    link = ap (λ o. unwrap_or (option_map (λ (y : Right). link_of_kind y.kind) o) None) entry

    known : of_entry b.rights r (λ y. number_of b series r i y.want) 0 ≡ number_of b series r i x.want
    known = ap (λ o. unwrap_or (option_map (λ (y : Right). number_of b series r i y.want) o) 0) entry

    by : (w : Want) (v o : Option ℕ) → is_series w ≡ false → is_some v ≡ false →
        cap_by_link b (run_month b i) o (monthly_want w (in_year b i))
        ≡ want_by_volume v (cap_by_link b (run_month b i) o (number_of b series r i w)) used
    by wants.Series v o h e = absurd (cc)
    by (wants.Monthly amounts) (Some volume) o h e = absurd (cc)
    by (wants.Monthly amounts) None o h e = refl

-- What a plan delivers.

-- no instream right of the places from i on is this one
abbrev pub NoPlaceFrom : List InstreamPlace → ℕ → ℕ → Type 0
NoPlaceFrom places i r =
    (k : ℕ) (place : InstreamPlace) → i ≤ k → slice_get places k ≡ Some place → place.right ≡ r → ⊥

-- what stands in a list with one place more
one_more : (places : List InstreamPlace) (last place : InstreamPlace) (k : ℕ) →
    slice_get (places ++ last ∷ []) k ≡ Some place → (slice_get places k ≡ Some place) ⊎ (place ≡ last)
one_more [] last place zero at = inr (cc)
one_more [] last place (suc k) at = absurd (cc)
one_more (p ∷ places) last place zero at = inl at
one_more (p ∷ places) last place (suc k) at = one_more places last place k at

-- the place of an instream right is listed
pub listed_more : (b : Basin) (places more : List InstreamPlace) (last : InstreamPlace) → more ≡ places ++ last ∷ [] →
    instream_link b last.right ≡ Some last.link →
    ((k : ℕ) (place : InstreamPlace) → slice_get places k ≡ Some place →
    instream_link b place.right ≡ Some place.link) →
    (k : ℕ) (place : InstreamPlace) → slice_get more k ≡ Some place → instream_link b place.right ≡ Some place.link
listed_more b places more last is on each k place at = elim (one_more places last place k (rw is at at)) [
  | inl before ↦ each k place before
  | inr same ↦ rw same on
]

-- and no place of another right is needed
pub whole_more : (b : Basin) (places more : List InstreamPlace) (last : InstreamPlace) → more ≡ places ++ last ∷ [] →
    ((r : ℕ) → r < last.right → NoPlaceFrom places 0 r → instream_link b r ≡ None) →
    (r : ℕ) → r < last.right + 1 → NoPlaceFrom more 0 r → instream_link b r ≡ None
whole_more b places more last is whole r below none = elim (cases_order r last.right) [
  | inl same ↦ absurd (none (length places) last (omega arith) (rw is (get_after places [] last)) (sym same))
  | inr differ ↦ whole r (elim differ [ inl a ↦ omega arith | inr a ↦ omega arith ])
      (λ k place from at e. none k place from (rw is (get_before places (last ∷ []) k place at)) e)
]

-- a right that is no instream right is on no link
pub no_link : (kind : RightKind) → ((link : ℕ) → kind ≡ Instream link → ⊥) → link_of_kind kind ≡ None
no_link (Diversion node) not = refl
no_link (Instream link) not = absurd (not link refl)
no_link (Zone reservoir level) not = refl

-- no more is listed where the right is no instream right
pub whole_still : (b : Basin) (places more : List InstreamPlace) (right : ℕ) → more ≡ places →
    instream_link b right ≡ None →
    ((r : ℕ) → r < right → NoPlaceFrom places 0 r → instream_link b r ≡ None) →
    (r : ℕ) → r < right + 1 → NoPlaceFrom more 0 r → instream_link b r ≡ None
whole_still b places more right is off whole r below none = elim (cases_order r right) [
  | inl same ↦ rw same off
  | inr differ ↦ whole r (elim differ [ inl a ↦ omega arith | inr a ↦ omega arith ])
      (λ k place from at e. none k place from (rw is at) e)
]

-- an instream right is a right of the basin, and its link is a link
pub instream_within : (b : Basin) (r e : ℕ) → IsValidBasin b → instream_link b r ≡ Some e →
    (r < length b.rights) × (e < length b.links)
instream_within b r e valid on = by (slice_get b.rights r) refl
  where
    site : (kind : RightKind) → link_of_kind kind ≡ Some e → HasValidSite b kind → e < length b.links
    site (Diversion node) h s = absurd (cc)
    site (Instream link) h s = let same : link ≡ e = cc in omega arith
    site (Zone at level) h s = absurd (cc)

    by : (o : Option Right) → slice_get b.rights r ≡ o → (r < length b.rights) × (e < length b.links)
    by None none =
        let past : instream_link b r ≡ None = ap (λ q. unwrap_or (option_map (λ x. link_of_kind x.kind) q) None) none in
        absurd (cc)
    by (Some right) at =
        let l = slice_get_within b.rights r right at in
        let is = kind_is b valid r l in
        (l, site is.kind (sym is.link ∙ on) is.site)

pub takes_alone : (b : Basin) (want : List ℕ) (p : Plan) (places : List InstreamPlace) (r : ℕ) → ListInstream b places →
    r < length b.rights → NoPlaceFrom places 0 r → slice_index p.take r ≡ delivery b want p r
takes_alone b want p places r lists l none =
    sym (ap (λ o. delivery_by_link o (slice_index want r) p r)
    (lists.whole r l (λ k place at. none k place (omega arith) at)))

pub place_more : (b : Basin) (want : List ℕ) (p : Plan) (places : List InstreamPlace) (xs : List ℕ) (i x : ℕ)
    (place : InstreamPlace) → ListInstream b places → slice_get places i ≡ Some place → place.right < length xs →
    x ≡ min (slice_index want place.right) (slice_index p.flow place.link) →
    ((r : ℕ) → r < length b.rights → NoPlaceFrom places i r → slice_index xs r ≡ delivery b want p r) →
    (r : ℕ) → r < length b.rights → NoPlaceFrom places (i + 1) r →
    slice_index (slice_set xs place.right x) r ≡ delivery b want p r
place_more b want p places xs i x place lists at within is before r l none =
    written xs place.right x r (λ q. delivery b want p q) within
    (is ∙ sym (ap (λ o. delivery_by_link o (slice_index want place.right) p place.right) (lists.each i place at)))
    (λ apart. before r l (λ k other low here e. elim (cases_order k i) [
      | inl same ↦
          (let alike : Some other ≡ Some place = sym here ∙ (ap (λ j. slice_get places j) same ∙ at) in
          let one : other ≡ place = cc in apart (sym e ∙ ap (λ (q : InstreamPlace). q.right) one))
      | inr differ ↦ none k other (elim differ [ inl a ↦ omega arith | inr a ↦ omega arith ]) here e
    ]))
