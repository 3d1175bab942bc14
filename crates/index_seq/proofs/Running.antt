-- The sums of traces, from one month to the next, from one year to the next, and from one trace to the next.
use Rattle.std.proofs.Common.{◌≡◌, ℕ, zero, suc, ◌+◌, ◌*◌, ◌<◌, ◌≤◌, ◌^◌, refl, sym, ap, ◌∙◌, arith, List}
use Rattle.std.proofs.Common.{[], ◌∷◌, ◌++◌, length, take, drop, map, inl, inr, append-nil, append_assoc, length-append}
use Rattle.std.proofs.Common.{take_all, add-one}
use Rattle.std.specs.Prelude.{slice_index, slice_index_or, slice_get, sum_by, Some}
use Rattle.std.proofs.Math.Nat.{mul-le-mul_right, add-mul}
use Rattle.std.proofs.lemmas.Grind.{flat_map-append}
use Rattle.std.proofs.lemmas.List.{drop-append-le, take-append-le, length-drop, drop_all}
use Rattle.std.proofs.lemmas.List.Sums.{sum_by-take-drop, sum_by_push}
use Rattle.month_fold.specs.Runs.{RunView, RunStandsFor}
use Rattle.month_fold.specs.Works.{Solves, WorkDone}
use Rattle.month_fold.proofs.Works.{Solves-then, Solves-within}
use Rattle.month_terms.proofs.Amounts.{delivered_small}
use Rattle.water_model.specs.History.{IsPartialHistory, IsHistory}
use Rattle.water_model.specs.Indices.{numbers_from}
use Rattle.water_model.specs.Valid.{IsValidBasin, IsSeriesOf}
use Rattle.water_model.specs.declared.types.Basin.{Basin}
use Rattle.water_model.specs.declared.types.Series.{Series}
use Rattle.water_model.specs.declared.types.MonthRecord.{MonthRecord}
use Rattle.index_seq.specs.Sums.{IsEmptyYear, IsWithinTrace, HaveSums}
use Rattle.index_seq.specs.Traces.{begun_after, delivered_in_year, yearly_deliveries, years_of, HasWholeYears}
use Rattle.index_seq.specs.Traces.{AreTraces}
use Rattle.water_model.proofs.Histories.{at_end, last_follows}

-- what a right was delivered in a year that is over does not change
year_stays : (right year : ℕ) (records : List MonthRecord) (m : MonthRecord) → 12 * year + 12 ≤ length records →
    delivered_in_year (records ++ m ∷ []) right year ≡ delivered_in_year records right year
year_stays right year records m h =
    ap (sum_by (λ k. slice_index k.delivered right))
    (ap (take 12) (drop-append-le (12 * year) records (m ∷ []) (omega arith))
    ∙ take-append-le 12 (drop (12 * year) records) (m ∷ []) (omega (arith, length-drop (12 * year) records)))

map_numbers : (f g : ℕ → ℕ) (from n : ℕ) → ((k : ℕ) → k < from + n → f k ≡ g k) →
    map f (numbers_from from n) ≡ map g (numbers_from from n)
unfolding numbers_from
map_numbers f g from zero h = refl
map_numbers f g from (suc n) h =
    ap (λ x. x ∷ map f (numbers_from (suc from) n)) (h from (omega arith))
    ∙ ap (λ xs. g from ∷ xs) (map_numbers f g (suc from) n (λ k l. h k (omega arith)))

map_more : (f : ℕ → ℕ) (from n : ℕ) →
    map f (numbers_from from (suc n)) ≡ map f (numbers_from from n) ++ f (from + n) ∷ []
unfolding numbers_from
map_more f from zero = ap (λ k. f k ∷ []) (let is : from ≡ from + 0 = omega arith in is)
map_more f from (suc n) =
    ap (λ xs. f from ∷ xs) (map_more f (suc from) n)
    ∙ ap (λ k. f from ∷ (map f (numbers_from (suc from) n) ++ f k ∷ [])) (let is : suc from + n ≡ from + suc n =
    omega arith in is)

-- the month that follows
pub partial_next : (b : Basin) (series : Series) (next : RunView) (records : List MonthRecord) (m : MonthRecord) →
    next.basin ≡ b → next.series ≡ series → m ≡ next.last →
    RunStandsFor next (records ++ next.last ∷ []) → IsPartialHistory b series (records ++ m ∷ [])
partial_next b series next records m same fits last stands = rw (← same, ← fits, last) stands.partial

-- it has a delivery for each right
pub month_fits : (b : Basin) (series : Series) (records : List MonthRecord) (m : MonthRecord) (so_far : List ℕ) →
    length so_far ≡ length b.rights →
    IsPartialHistory b series (records ++ m ∷ []) → length so_far ≡ length m.delivered
month_fits b series records m so_far count partial =
    count ∙ sym (last_follows b series records m partial).after.fits.delivered

-- there is room for it
pub month_room : (b : Basin) (series : Series) (trace years months : ℕ) (run : RunView) (all : List (List ℕ))
    (so_far : List ℕ) (m : MonthRecord) → IsValidBasin b →
    IsSeriesOf b (begun_after series trace) → (u : IsWithinTrace b series trace years months run all so_far) →
    IsPartialHistory b (begun_after series trace) (u.records ++ m ∷ []) →
    (r : ℕ) → r < length so_far → slice_index so_far r + slice_index m.delivered r < 2 ^ 64
month_room b series trace years months run all so_far m valid fits u partial r l =
    let f : MonthRecord → ℕ = λ k. slice_index k.delivered r in
    let within : r < length b.rights = omega (arith, u.year.count) in
    let most : length (u.records ++ m ∷ []) ≤ 1200 = omega (arith, partial.within, valid.run.months.1) in
    omega (
      arith,
      u.year.each r within,
      sum_by-take-drop f u.records (12 * years),
      sum_by_push f u.records m,
      delivered_small b (begun_after series trace) (u.records ++ m ∷ []) r valid fits partial,
      most,
    )

-- with it the trace is under way by one month more
pub month_more : (b : Basin) (series : Series) (trace years months : ℕ) (run next : RunView) (all : List (List ℕ))
    (so_far more : List ℕ) (m : MonthRecord) →
    (u : IsWithinTrace b series trace years months run all so_far) → next.basin ≡ run.basin → next.series ≡ run.series →
    RunStandsFor next (u.records ++ m ∷ []) →
    length more ≡ length so_far →
    ((r : ℕ) → r < length so_far → slice_index more r ≡ slice_index so_far r + slice_index m.delivered r) →
    IsWithinTrace b series trace years (months + 1) next all more
month_more b series trace years months run next all so_far more m u same fits stands long added = record {
  traces = u.traces;
  number = u.number;
  first = u.first;
  basin = same ∙ u.basin;
  fits = fits ∙ u.fits;
  records = u.records ++ m ∷ [];
  stands = stands;
  count = omega (arith, length-append u.records (m ∷ []), u.count);
  sums = record {
    count = u.sums.count;
    each = λ r l. u.sums.each r l
        ∙ ap (λ xs. yearly_deliveries b u.traces r ++ xs)
        (sym (map_numbers (delivered_in_year (u.records ++ m ∷ []) r) (delivered_in_year u.records r) 0 years
        (λ k h. year_stays r k u.records m (omega (arith, u.count)))));
  };
  year = record {
    count = long ∙ u.year.count;
    each = λ r l. added r (omega (arith, u.year.count))
        ∙ (ap (λ n. n + slice_index m.delivered r) (u.year.each r l) ∙ sym (grown r));
  };
}
  where
    grown : (r : ℕ) →
        sum_by (λ k. slice_index k.delivered r) (drop (12 * years) (u.records ++ m ∷ [])) ≡ sum_by
        (λ k. slice_index k.delivered r) (drop (12 * years) u.records) + slice_index m.delivered r
    grown r =
        ap (sum_by (λ k. slice_index k.delivered r))
        (drop-append-le (12 * years) u.records (m ∷ []) (omega (arith, u.count)))
        ∙ sum_by_push (λ k. slice_index k.delivered r) (drop (12 * years) u.records) m

-- when a year is over, its sums stand after those before, and another year begins
pub year_more : (b : Basin) (series : Series) (trace years : ℕ) (run : RunView) (all more : List (List ℕ))
    (so_far none : List ℕ) →
    IsWithinTrace b series trace years 12 run all so_far → length more ≡ length all →
    ((r : ℕ) → r < length all → slice_index_or more r [] ≡ slice_index_or all r [] ++ slice_index so_far r ∷ []) →
    length none ≡ length so_far → ((r : ℕ) → r < length so_far → slice_index none r ≡ 0) →
    IsWithinTrace b series trace (years + 1) 0 run more none
year_more b series trace years run all more so_far none u long added short zeros = record {
  traces = u.traces;
  number = u.number;
  first = u.first;
  basin = u.basin;
  fits = u.fits;
  records = u.records;
  stands = u.stands;
  count = omega (arith, u.count);
  sums = record {
    count = long ∙ u.sums.count;
    each = λ r l. added r (omega (arith, u.sums.count))
        ∙ (ap (λ xs. xs ++ slice_index so_far r ∷ []) (u.sums.each r l)
        ∙ (append_assoc (yearly_deliveries b u.traces r) (map (delivered_in_year u.records r) (numbers_from 0 years))
        (slice_index so_far r ∷ [])
        ∙ ap (λ xs. yearly_deliveries b u.traces r ++ xs) (joined r l)));
  };
  year = record {
    count = short ∙ u.year.count;
    each = λ r l. zeros r (omega (arith, u.year.count))
        ∙ sym (ap (sum_by (λ k. slice_index k.delivered r))
        (drop_all (12 * (years + 1)) u.records (omega (arith, u.count))));
  };
}
  where
    this_year : (r : ℕ) → r < length b.rights → slice_index so_far r ≡ delivered_in_year u.records r (0 + years)
    this_year r l =
        u.year.each r l
        ∙ (ap (sum_by (λ k. slice_index k.delivered r))
        (sym (take_all 12 (drop (12 * years) u.records)
        (omega (arith, length-drop (12 * years) u.records, u.count))))
        ∙ ap (delivered_in_year u.records r) (let is : years ≡ 0 + years = omega arith in is))

    joined : (r : ℕ) → r < length b.rights →
        map (delivered_in_year u.records r) (numbers_from 0 years) ++ slice_index so_far r ∷ [] ≡ map
        (delivered_in_year u.records r) (numbers_from 0 (years + 1))
    joined r l =
        ap (λ x. map (delivered_in_year u.records r) (numbers_from 0 years) ++ x ∷ []) (this_year r l)
        ∙ (sym (map_more (delivered_in_year u.records r) 0 years)
        ∙ ap (λ n. map (delivered_in_year u.records r) (numbers_from 0 n)) (sym (add-one years)))

no_years : (f : ℕ → ℕ) (xs : List ℕ) → xs ≡ xs ++ map f (numbers_from 0 0)
unfolding numbers_from
no_years f xs = sym (append-nil xs)

-- a trace begins where those before it are whole
pub trace_start : (b : Basin) (series : Series) (trace : ℕ) (run : RunView) (all : List (List ℕ)) (none : List ℕ) →
    (h : HaveSums b series trace all) →
    run.basin ≡ b → run.series ≡ begun_after series trace → RunStandsFor run [] → IsEmptyYear b none →
    IsWithinTrace b series trace 0 0 run all none
trace_start b series trace run all none h same fits stands empty = record {
  traces = h.traces;
  number = h.number;
  first = h.first;
  basin = same;
  fits = fits;
  records = [];
  stands = stands;
  count = refl;
  sums = h.sums;
  year = record { count = empty.count; each = empty.zeros };
}

-- and when all its years are over, it is whole too
pub trace_over : (b : Basin) (series : Series) (trace : ℕ) (run : RunView) (all : List (List ℕ)) (none : List ℕ) →
    IsWithinTrace b series trace (years_of b) 0 run all none →
    HasWholeYears b → HaveSums b series (trace + 1) all
trace_over b series trace run all none u whole = record {
  traces = u.traces ++ u.records ∷ [];
  number = omega (arith, length-append u.traces (u.records ∷ []), u.number);
  first = record { each = each };
  sums = record {
    count = u.sums.count;
    each = λ r l. u.sums.each r l ∙ sums r;
  };
}
  where
    partial : IsPartialHistory b (begun_after series trace) u.records
    partial = rw (← u.basin, ← u.fits) u.stands.partial

    history : IsHistory b (begun_after series trace) u.records
    history = record { partial = partial; whole = omega (arith, u.count) }

    each : (y : ℕ) (records : List MonthRecord) → slice_get (u.traces ++ u.records ∷ []) y ≡ Some records →
        IsHistory b (begun_after series y) records
    each y records at = elim (at_end u.traces u.records records y at) [
      | inl before ↦ u.first.each y records before
      | inr last ↦
          let number : trace ≡ y = sym (last.0 ∙ u.number) in
          rw (← last.1, ← number) history
    ]

    sums : (r : ℕ) → yearly_deliveries b u.traces r ++ map (delivered_in_year u.records r) (numbers_from 0 (years_of b))
        ≡ yearly_deliveries b (u.traces ++ u.records ∷ []) r ++ map (delivered_in_year [] r) (numbers_from 0 0)
    sums r =
        ap (λ xs. yearly_deliveries b u.traces r ++ xs)
        (sym (append-nil (map (delivered_in_year u.records r) (numbers_from 0 (years_of b)))))
        ∙ (sym (flat_map-append (λ records. map (delivered_in_year records r) (numbers_from 0 (years_of b))) u.traces
        (u.records ∷ []))
        ∙ no_years (delivered_in_year [] r) (yearly_deliveries b (u.traces ++ u.records ∷ []) r))

-- the year after its last one is empty
pub year_over : (b : Basin) (series : Series) (trace : ℕ) (run : RunView) (all : List (List ℕ)) (none : List ℕ) →
    IsWithinTrace b series trace (years_of b) 0 run all none →
    IsEmptyYear b none
year_over b series trace run all none u = record {
  count = u.year.count;
  zeros = λ r l.
      u.year.each r l
      ∙ ap (sum_by (λ k. slice_index k.delivered r)) (drop_all (12 * years_of b) u.records (omega (arith, u.count)));
}

-- before the first trace
pub sums_start : (b : Basin) (series : Series) (all : List (List ℕ)) → length all ≡ length b.rights →
    ((r : ℕ) → slice_index_or all r [] ≡ []) → HaveSums b series 0 all
sums_start b series all count empty = record {
  traces = [];
  number = refl;
  first = record { each = λ y records at. (let none : slice_get [] y ≡ Some records = at in cc) };
  sums = record { count = count; each = λ r l. empty r ∙ no_years (delivered_in_year [] r) [] };
}

-- and after the last
pub traces_whole : (b : Basin) (series : Series) (all : List (List ℕ)) → (h : HaveSums b series (years_of b) all) →
    AreTraces b series h.traces
traces_whole b series all h = record { count = h.number; each = h.first.each }

pub sums_whole : (b : Basin) (series : Series) (all : List (List ℕ)) → (h : HaveSums b series (years_of b) all) →
    (r : ℕ) → r < length b.rights →
    slice_index_or all r [] ≡ yearly_deliveries b h.traces r
sums_whole b series all h r l =
    h.sums.each r l ∙ sym (no_years (delivered_in_year [] r) (yearly_deliveries b h.traces r))

-- some parts of as many months each, and one more
pub one_part : (part i : ℕ) (b : Basin) (first before later : WorkDone) → Solves (i * part) b first before →
    Solves part b before later → Solves ((i + 1) * part) b first later
one_part part i b first before later so_far more =
    let count : (i + 1) * part ≡ i * part + part = omega (arith, add-mul i 1 part) in
    rw count (Solves-then (i * part) part b first before later so_far more)

-- they are within all parts
pub within_parts : (part i n : ℕ) (b : Basin) (first before later : WorkDone) → Solves (i * part) b first before →
    Solves part b before later → i < n → Solves (n * part) b first later
within_parts part i n b first before later so_far more l =
    let most : (i + 1) * part ≤ n * part = mul-le-mul_right part (omega arith) in
    Solves-within ((i + 1) * part) (n * part) b first later most (one_part part i b first before later so_far more)

-- the months of all years are those of the run
pub solves_run : (b : Basin) (first later : WorkDone) → HasWholeYears b → Solves (years_of b * 12) b first later →
    Solves b.months b first later
solves_run b first later whole solves =
    let all : years_of b * 12 ≡ b.months = omega arith in rw all at solves
