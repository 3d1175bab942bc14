-- Two runs of one basin and series have one report.
use Rattle.std.proofs.Common.{◌≡◌, ℕ, zero, suc, ◌-◌, ◌<◌, Bool, true, false, cond, refl, sym, ◌∙◌, ap, arith, List, []}
use Rattle.std.proofs.Common.{◌∷◌, ◌++◌, length, map, inl, inr, codes}
use Rattle.std.specs.Prelude.{sum, sum_by, find, is_some, slice_get, slice_index, Option, Some, option_map, unwrap_or}
use Rattle.std.specs.Prelude.{nat_lt, nat_le, ◌&&◌}
use Rattle.std.specs.Fmt.{decimal}
use Rattle.std.specs.List.{flat_map, list_all}
use Rattle.std.proofs.lemmas.Bool.{cases_lt}
use Rattle.std.proofs.lemmas.List.Sums.{sum_by-cons}
use Rattle.water_model.specs.History.{HasReaches, cut_of, opening_after, calls, calling_right}
use Rattle.water_text.specs.Months.{month_digits}
use Rattle.duality.specs.Balance.{total_inflow}
use Rattle.water_model.specs.Cuts.{IsReach}
use Rattle.duality.specs.Laws.{HaveSameOutcome}
use Rattle.water_model.specs.Indices.{indices_of, seniors_first}
use Rattle.water_model.specs.declared.types.Basin.{Basin}
use Rattle.water_model.specs.declared.types.Series.{Series}
use Rattle.water_model.specs.declared.types.MonthRecord.{MonthRecord}
use Rattle.duality.proofs.Greatest.{reach_unique}
use Rattle.water_model.proofs.Order.{Has, flat_same, seniors_below}
use Rattle.duality.proofs.Outcome.{one_outcome}
use Rattle.reports.specs.Figures.{shortage, short_months, wanted, delivered, worst_month, waters_of, called_in}
use Rattle.reports.specs.Figures.{called_count}
use Rattle.reports.specs.Laws.{RunsHaveOneReport}
use Rattle.reports.specs.Reports.{row, right_row, balance_row, done_row, report_text, trial_text}
use Rattle.reports.proofs.Growth.{same_waters}

-- two records of one month that differ in nothing that a report shows
record IsAlike (b : Basin) (m n : MonthRecord) : Type 0 where
  same : HaveSameOutcome m n
  sets : (r : ℕ) → r < length b.rights → cut_of m r ≡ cut_of n r

alike : (b : Basin) (m n : MonthRecord) → HaveSameOutcome m n → HasReaches b m → HasReaches b n → IsAlike b m n
alike b m n same one other = record { same = same; sets = sets }
  where
    short_too : (r : ℕ) → slice_index m.delivered r < slice_index m.want r →
        slice_index n.delivered r < slice_index n.want r
    short_too r h = rw (← same.delivered, ← same.want) h

    reach_here : (r : ℕ) (cut : List Bool) → IsReach b n.month n.supply n.delivered r cut →
        IsReach b m.month m.supply m.delivered r cut
    reach_here r cut h = rw (same.month, same.supply, same.delivered) h

    sets : (r : ℕ) → r < length b.rights → cut_of m r ≡ cut_of n r
    sets r l = elim (cases_lt (slice_index m.delivered r) (slice_index m.want r)) [
      | inl short ↦
          let here = one.short r l short in
          let there = other.short r l (short_too r short) in
          here.1 ∙ (ap (λ cut. Some cut)
          (reach_unique b m.month m.supply m.delivered r here.0 there.0 here.2 (reach_here r there.0 there.2))
          ∙ sym there.1)
      | inr met ↦ one.met r l met ∙ sym (other.met r l (rw (← same.delivered, ← same.want) met))
    ]

-- so are the records of two lists, one by one
AreAlike : Basin → List MonthRecord → List MonthRecord → Type 0
AreAlike b [] [] = Unit {0}
AreAlike b [] (n ∷ others) = ⊥
AreAlike b (m ∷ records) [] = ⊥
AreAlike b (m ∷ records) (n ∷ others) = IsAlike b m n × AreAlike b records others

all_alike : (b : Basin) (records others : List MonthRecord) → length records ≡ length others →
    ((i : ℕ) (m n : MonthRecord) → slice_get records i ≡ Some m → slice_get others i ≡ Some n → IsAlike b m n) →
    AreAlike b records others
unfolding AreAlike
all_alike b [] [] len h = tt
all_alike b [] (n ∷ others) len h = omega arith
all_alike b (m ∷ records) [] len h = omega arith
all_alike b (m ∷ records) (n ∷ others) len h =
    (h 0 m n refl refl, all_alike b records others (omega arith) (λ i k j e f. h (suc i) k j e f))

-- what is the same for records that are alike is the same for the lists
same_sums : (b : Basin) (f : MonthRecord → ℕ) (records others : List MonthRecord) → AreAlike b records others →
    ((m n : MonthRecord) → IsAlike b m n → f m ≡ f n) →
    sum_by f records ≡ sum_by f others
unfolding AreAlike
same_sums b f [] [] are h = refl
same_sums b f [] (n ∷ others) are h = absurd are
same_sums b f (m ∷ records) [] are h = absurd are
same_sums b f (m ∷ records) (n ∷ others) are h =
    omega (arith, sum_by-cons f m records, sum_by-cons f n others, h m n are.0, same_sums b f records others are.1 h)

same_all : (b : Basin) (p q : MonthRecord → Bool) (records others : List MonthRecord) → AreAlike b records others →
    ((m n : MonthRecord) → IsAlike b m n → p m ≡ q n) →
    list_all p records ≡ list_all q others
unfolding AreAlike
same_all b p q [] [] are h = refl
same_all b p q [] (n ∷ others) are h = absurd are
same_all b p q (m ∷ records) [] are h = absurd are
same_all b p q (m ∷ records) (n ∷ others) are h = rw (h m n are.0, same_all b p q records others are.1 h) refl

same_found : (b : Basin) (p q : MonthRecord → Bool) (records others : List MonthRecord) → AreAlike b records others →
    ((m n : MonthRecord) → IsAlike b m n → p m ≡ q n) →
    option_map (λ m. m.month) (find p records) ≡ option_map (λ m. m.month) (find q others)
unfolding AreAlike
same_found b p q [] [] are h = refl
same_found b p q [] (n ∷ others) are h = absurd are
same_found b p q (m ∷ records) [] are h = absurd are
same_found b p q (m ∷ records) (n ∷ others) are h =
    rw (h m n are.0) (by_test (q n) (same_found b p q records others are.1 h))
  where
    by_test : (t : Bool) → option_map (λ m. m.month) (find p records) ≡ option_map (λ m. m.month) (find q others) →
        option_map (λ m. m.month) (cond t (Some m) (find p records)) ≡ option_map (λ m. m.month)
        (cond t (Some n) (find q others))
    by_test true further = ap (λ month. Some month) are.0.same.month
    by_test false further = further

same_closing : (b : Basin) (records others : List MonthRecord) (k : ℕ) → AreAlike b records others →
    option_map (λ m. m.closing) (slice_get records k) ≡ option_map (λ m. m.closing) (slice_get others k)
unfolding AreAlike
same_closing b [] [] k are = refl
same_closing b [] (n ∷ others) k are = absurd are
same_closing b (m ∷ records) [] k are = absurd are
same_closing b (m ∷ records) (n ∷ others) zero are = ap (λ closing. Some closing) are.0.same.closing
same_closing b (m ∷ records) (n ∷ others) (suc k) are = same_closing b records others k are.1

-- the figures of a right
shortage_alike : (b : Basin) (right : ℕ) (m n : MonthRecord) → IsAlike b m n → shortage m right ≡ shortage n right
shortage_alike b right m n is = rw (is.same.want, is.same.delivered) refl

one_short : (b : Basin) (right : ℕ) (records others : List MonthRecord) → AreAlike b records others →
    short_months records right ≡ short_months others right
one_short b right records others are =
    same_sums b _ records others are (λ m n is. rw (is.same.want, is.same.delivered) refl)

one_wanted : (b : Basin) (right : ℕ) (records others : List MonthRecord) → AreAlike b records others →
    wanted records right ≡ wanted others right
one_wanted b right records others are =
    same_sums b _ records others are (λ m n is. ap (λ xs. slice_index xs right) is.same.want)

one_delivered : (b : Basin) (right : ℕ) (records others : List MonthRecord) → AreAlike b records others →
    delivered records right ≡ delivered others right
one_delivered b right records others are =
    same_sums b _ records others are (λ m n is. ap (λ xs. slice_index xs right) is.same.delivered)

one_worst : (b : Basin) (right : ℕ) (records others : List MonthRecord) → AreAlike b records others →
    worst_month records right ≡ worst_month others right
one_worst b right records others are = same_found b _ _ records others are (λ m n is. worst m n is)
  where
    worst : (m n : MonthRecord) → IsAlike b m n →
        nat_lt 0 (shortage m right) && list_all (λ k. nat_le (shortage k right) (shortage m right)) records
        ≡ nat_lt 0 (shortage n right) && list_all (λ k. nat_le (shortage k right) (shortage n right)) others
    worst m n is =
        ap (λ x. nat_lt 0 x && list_all (λ k. nat_le (shortage k right) x) records) (shortage_alike b right m n is)
        ∙ ap (λ t. nat_lt 0 (shortage n right) && t)
        (same_all b _ _ records others are
        (λ k j alike. ap (λ x. nat_le x (shortage n right)) (shortage_alike b right k j alike)))

one_row : (b : Basin) (right : ℕ) (records others : List MonthRecord) → AreAlike b records others →
    right_row b records right ≡ right_row b others right
one_row b right records others are =
    rw (
      one_short b right records others are,
      one_wanted b right records others are,
      one_delivered b right records others are,
      one_worst b right records others are,
    ) refl

-- the water
one_water : (b : Basin) (series : Series) (records others : List MonthRecord) → AreAlike b records others →
    length records ≡ length others →
    waters_of b series records ≡ waters_of b series others
unfolding waters_of
one_water b series records others are len =
    same_waters _ _ _ _ _ _ _ _ _ _ _ _ _ _ refl
    (same_sums b _ records others are (λ m n is. ap (λ i. total_inflow b series i) is.same.index))
    (same_sums b _ records others are (λ m n is. ap (λ xs. sum xs) is.same.returned))
    (ap (λ xs. sum xs) closing)
    (same_sums b _ records others are (λ m n is. ap (λ xs. sum xs) is.same.evaporated))
    (same_sums b _ records others are (λ m n is. rw is.same.delivered refl))
    (same_sums b _ records others are (λ m n is. is.same.outflow))
  where
    closing : opening_after b records ≡ opening_after b others
    closing =
        ap (λ o. unwrap_or o (map (λ v. v.opening) b.reservoirs))
        (same_closing b records others (length records - 1) are)
        ∙ ap (λ k. unwrap_or (option_map (λ m. m.closing) (slice_get others (k - 1)))
        (map (λ v. v.opening) b.reservoirs)) len

-- calling rights
find_among : (p q : ℕ → Bool) (xs : List ℕ) → ((x : ℕ) → Has xs x → p x ≡ q x) → find p xs ≡ find q xs
find_among p q [] h = refl
find_among p q (x ∷ xs) h =
    rw (h x (inl refl)) (ap (λ o. cond (q x) (Some x) o) (find_among p q xs (λ y has. h y (inr has))))

one_caller : (b : Basin) (right : ℕ) (m n : MonthRecord) → IsAlike b m n →
    calling_right b m right ≡ calling_right b n right
unfolding calling_right calls
one_caller b right m n is =
    find_among _ _ (seniors_first b) (λ caller has. same caller (seniors_below b.rights caller has))
  where
    same : (caller : ℕ) → caller < length b.rights → calls b m right caller ≡ calls b n right caller
    same caller l = rw (is.same.want, is.same.delivered, is.sets caller l) refl

-- sums over all rights
over_rights : (f g : ℕ → ℕ) (rights : List ℕ) → ((r : ℕ) → f r ≡ g r) → sum_by f rights ≡ sum_by g rights
over_rights f g [] h = refl
over_rights f g (r ∷ rights) h =
    omega (arith, sum_by-cons f r rights, sum_by-cons g r rights, h r, over_rights f g rights h)

one_called : (b : Basin) (records others : List MonthRecord) → AreAlike b records others →
    called_count b records ≡ called_count b others
one_called b records others are =
    same_sums b (λ m. called_in b m) records others are
    (λ m n is. over_rights (λ r. counted (calling_right b m r)) (λ r. counted (calling_right b n r))
    (indices_of b.rights)
    (λ r. ap counted (one_caller b r m n is)))
  where
    counted : Option ℕ → ℕ
    counted o = cond (is_some o) 1 0

pub one_report : RunsHaveOneReport
unfolding report_text trial_text
one_report b series records others number size valid one reaches other further = (report, summary)
  where
    len : length records ≡ length others
    len = one.whole ∙ sym other.whole

    are : AreAlike b records others
    are = all_alike b records others len (λ i m n at there.
        alike b m n (one_outcome b series records others valid one.partial other.partial len i m n at there)
        (reaches i m at) (further i n there))

    report : report_text b series records ≡ report_text b series others
    report =
        ap (λ rows. row (codes "report" ∷ month_digits b.first ∷ decimal b.months ∷ []) ++ rows ++ balance_row
        (waters_of b series records) ++ done_row b)
        (flat_same (right_row b records) (right_row b others) (seniors_first b)
        (λ r has. one_row b r records others are))
        ∙ ap (λ w. row (codes "report" ∷ month_digits b.first ∷ decimal b.months ∷ []) ++ flat_map (right_row b others)
        (seniors_first b) ++ balance_row w ++ done_row b)
        (one_water b series records others are len)

    summary : trial_text number size b series records ≡ trial_text number size b series others
    summary = rw (
      over_rights (λ r. wanted records r) (λ r. wanted others r) (indices_of b.rights)
          (λ r. one_wanted b r records others are),
      over_rights (λ r. delivered records r) (λ r. delivered others r) (indices_of b.rights)
          (λ r. one_delivered b r records others are),
      over_rights (λ r. short_months records r) (λ r. short_months others r) (indices_of b.rights)
          (λ r. one_short b r records others are),
      one_called b records others are,
      one_water b series records others are len,
    ) refl
