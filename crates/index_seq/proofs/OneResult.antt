-- Traces of one record have the same yearly deliveries.
use Rattle.std.proofs.Common.{◌≡◌, ℕ, suc, ◌*◌, refl, sym, ap, ◌∙◌, arith, List, [], ◌∷◌, ◌++◌, length}
use Rattle.std.proofs.Common.{take, drop, map, Some, ap₂, ◌+◌}
use Rattle.std.specs.Prelude.{slice_index, slice_get, sum_by}
use Rattle.std.specs.List.{flat_map}
use Rattle.std.proofs.lemmas.List.{drop-map, take-map}
use Rattle.std.proofs.lemmas.List.Sums.{sum_by-cons}
use Rattle.water_model.proofs.Order.{map_same}
use Rattle.water_model.specs.History.{IsHistory}
use Rattle.water_model.specs.Indices.{numbers_from}
use Rattle.water_model.specs.declared.types.MonthRecord.{MonthRecord}
use Rattle.duality.proofs.Outcome.{one_outcome}
use Rattle.index_seq.specs.Laws.{TracesHaveOneResult}
use Rattle.index_seq.specs.Traces.{begun_after, delivered_in_year, years_of}

-- what the months delivered, one after the other
abbrev delivered_by : List MonthRecord → List (List ℕ)
delivered_by ms = map (λ m. m.delivered) ms

alike : (ms ns : List MonthRecord) → length ms ≡ length ns →
    ((i : ℕ) (m n : MonthRecord) → slice_get ms i ≡ Some m → slice_get ns i ≡ Some n → m.delivered ≡ n.delivered) →
    delivered_by ms ≡ delivered_by ns
alike [] [] e h = refl
alike [] (n ∷ ns) e h = absurd (omega arith)
alike (m ∷ ms) [] e h = absurd (omega arith)
alike (m ∷ ms) (n ∷ ns) e h =
    ap₂ (λ d ds. d ∷ ds) (h 0 m n refl refl) (alike ms ns (omega arith) (λ i p q at at'. h (suc i) p q at at'))

-- a sum over months is one over what they delivered
summed : (right : ℕ) (ms : List MonthRecord) →
    sum_by (λ m. slice_index m.delivered right) ms ≡ sum_by (λ ds. slice_index ds right) (delivered_by ms)
summed right [] = refl
summed right (m ∷ ms) = sum_by-cons (λ k. slice_index k.delivered right) m ms
    ∙ (ap (λ n. slice_index m.delivered right + n) (summed right ms)
    ∙ sym (sum_by-cons (λ ds. slice_index ds right) m.delivered (delivered_by ms)))

in_year : (right : ℕ) (ms : List MonthRecord) (year : ℕ) → delivered_in_year ms right year
    ≡ sum_by (λ ds. slice_index ds right) (take 12 (drop (12 * year) (delivered_by ms)))
in_year right ms year = rw (drop-map, take-map) (summed right (take 12 (drop (12 * year) ms)))

same_years : (right : ℕ) (ms ns : List MonthRecord) → delivered_by ms ≡ delivered_by ns → (years : List ℕ) →
    map (delivered_in_year ms right) years ≡ map (delivered_in_year ns right) years
same_years right ms ns h years = map_same (delivered_in_year ms right) (delivered_in_year ns right) years
    (λ year k. in_year right ms year ∙ (ap (λ all. sum_by (λ ds. slice_index ds right)
    (take 12 (drop (12 * year) all))) h ∙ sym (in_year right ns year)))

-- trace by trace
same_traces : (right : ℕ) (years : List ℕ) (traces others : List (List MonthRecord)) → length traces ≡ length others →
    ((y : ℕ) (ms ns : List MonthRecord) → slice_get traces y ≡ Some ms → slice_get others y ≡ Some ns →
    delivered_by ms ≡ delivered_by ns) →
    flat_map (λ records. map (delivered_in_year records right) years) traces ≡ flat_map
    (λ records. map (delivered_in_year records right) years) others
same_traces right years [] [] e h = refl
same_traces right years [] (ns ∷ others) e h = absurd (omega arith)
same_traces right years (ms ∷ traces) [] e h = absurd (omega arith)
same_traces right years (ms ∷ traces) (ns ∷ others) e h =
    ap (λ xs. xs ++ flat_map (λ records. map (delivered_in_year records right) years) traces)
    (same_years right ms ns (h 0 ms ns refl refl) years)
    ∙ ap (λ xs. map (delivered_in_year ns right) years ++ xs)
    (same_traces right years traces others (omega arith) (λ y p q at at'. h (suc y) p q at at'))

pub traces_have_one_result : TracesHaveOneResult
traces_have_one_result b series traces others valid one other right =
    same_traces right (numbers_from 0 (years_of b)) traces others (one.count ∙ sym other.count)
    (λ y ms ns at at'. like y ms ns (one.each y ms at) (other.each y ns at'))
  where
    like : (y : ℕ) (ms ns : List MonthRecord) → IsHistory b (begun_after series y) ms →
        IsHistory b (begun_after series y) ns → delivered_by ms ≡ delivered_by ns
    like y ms ns f g =
        let count : length ms ≡ length ns = f.whole ∙ sym g.whole in
        alike ms ns count
        (λ i m n at at'.
        (one_outcome b (begun_after series y) ms ns valid f.partial g.partial count i m n at at').delivered)
