-- How large the numbers of a list, and the wants of a month, can be.
use Rattle.std.proofs.Common.{◌≡◌, ℕ, ◌+◌, ◌*◌, ◌^◌, ◌<◌, ◌≤◌, Bool, true, false, ap, arith, List, length, inl, inr}
use Rattle.std.specs.Prelude.{slice_index, Option, Some, None, unwrap_or, option_map, min, if◌then◌else◌, All}
use Rattle.std.proofs.lemmas.Bool.{cases_lt}
use Rattle.std.proofs.lemmas.List.{get_or_past}
use Rattle.water_text.specs.declared.month.Month.{Month}
use Rattle.water_model.specs.Lookups.{of_entry}
use Rattle.water_model.specs.Basin.{instream_link}
use Rattle.water_model.specs.Plans.{carry_of}
use Rattle.water_model.specs.Hydrology.{run_month, in_year, index_in, target_of, want_of, want_by_volume, volume_of}
use Rattle.water_model.specs.Hydrology.{cap_by_link, number_of}
use Rattle.water_model.specs.Valid.{IsValidBasin, IsValidRight, IsValidWant, IsSeriesOf}
use Rattle.water_model.specs.declared.types.Basin.{Basin}
use Rattle.water_model.specs.declared.types.Series.{Series}
use Rattle.water_model.specs.declared.types.Want.{Want}
use Rattle.water_model.specs.declared.types.Want.TheVariants as wants
use Rattle.water_model.proofs.Valid.{entry_holds}

-- the entries of a list of small amounts
pub entry_most : (xs : List ℕ) (m k : ℕ) → All (λ x. x ≤ m) xs → slice_index xs k ≤ m
entry_most xs m k all = elim (cases_lt k (length xs)) [
  | inl within ↦ all k 0 within
  | inr past ↦ rw (get_or_past xs k 0 past) (omega arith)
]

-- wants are small, and an instream right wants no more than its link carries
cap_most : (b : Basin) (month : Month) (o : Option ℕ) (n : ℕ) → cap_by_link b month o n ≤ n
cap_most b month None n = omega arith
cap_most b month (Some link) n = omega arith

volume_most : (v : Option ℕ) (target used : ℕ) → want_by_volume v target used ≤ target
volume_most None target used = omega arith
volume_most (Some volume) target used = omega arith

-- a right's number, of the series or of the calendar month
number_most : (b : Basin) (series : Series) (r i : ℕ) → IsValidBasin b → IsSeriesOf b series → r < length b.rights →
    of_entry b.rights r (λ x. number_of b series r i x.want) 0 ≤ 10 ^ 9
number_most b series r i valid fits l =
    let entry = entry_holds (λ x. IsValidRight b x) b.rights r valid.rights l in
    rw (ap (λ o. unwrap_or (option_map (λ x. number_of b series r i x.want) o) 0) entry.1) (by entry.0.want entry.2.want)
  where
    by : (w : Want) → IsValidWant w → number_of b series r i w ≤ 10 ^ 9
    by (wants.Monthly amounts) h = entry_most amounts (10 ^ 9) (in_year b i) h.each
    by wants.Series h =
        entry_most series.want (10 ^ 9) (i * length series.wanted + index_in series.wanted r) fits.small_wants

pub want_most : (b : Basin) (series : Series) (r i used : ℕ) → IsValidBasin b → IsSeriesOf b series →
    r < length b.rights →
    want_of b series r i used ≤ 10 ^ 9
want_most b series r i used valid fits l =
    let number : ℕ = of_entry b.rights r (λ x. number_of b series r i x.want) 0 in
    omega (
      arith,
      volume_most (volume_of b r) (target_of b series r i) used,
      cap_most b (run_month b i) (instream_link b r) number,
      number_most b series r i valid fits l,
    )

pub want_carried : (b : Basin) (series : Series) (r i used link : ℕ) → instream_link b r ≡ Some link →
    want_of b series r i used ≤ carry_of b (run_month b i) link
want_carried b series r i used link e =
    let number : ℕ = of_entry b.rights r (λ x. number_of b series r i x.want) 0 in
    let at : target_of b series r i ≡ min number (carry_of b (run_month b i) link) =
    ap (λ o. cap_by_link b (run_month b i) o number) e in
    omega (arith, volume_most (volume_of b r) (target_of b series r i) used)
