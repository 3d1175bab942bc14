-- The text of what is kept of a run is the text of the run.
use Rattle.std.proofs.Common.{◌≡◌, ℕ, ◌+◌, ◌*◌, ◌^◌, ◌<◌, ◌≤◌, Bool, true, false, cond, refl, sym, ◌∙◌, ap, subst}
use Rattle.std.proofs.Common.{arith, List, [], ◌∷◌, ◌++◌, length, map, take, get_or, append_assoc, append-nil}
use Rattle.std.specs.Prelude.{All, find, sum_by, Option, Some, None, option_map, IfSome, slice_index, nat_lt, unwrap_or}
use Rattle.std.specs.List.{flat_map}
use Rattle.std.proofs.lemmas.Grind.{flat_map-append}
use Rattle.std.proofs.lemmas.List.{length-take-le}
use Rattle.std.proofs.lemmas.List.Concat.{flat_map_single}
use Rattle.std.proofs.lemmas.List.Folds.{flat_map-map}
use Rattle.std.proofs.lemmas.List.Sums.{sum_by-cons, sum_by-le, count_by-le-length}
use Rattle.std.proofs.lemmas.List.Elements.{All-tail}
use Rattle.std.proofs.lemmas.Option.{slice_get-get_or}
use Rattle.water_text.specs.Months.{IsMonth}
use Rattle.water_model.specs.History.{IsPartialHistory}
use Rattle.water_model.specs.Indices.{indices_of, seniors_first}
use Rattle.water_model.specs.Valid.{IsValidBasin, IsSeriesOf}
use Rattle.water_model.specs.declared.types.Basin.{Basin}
use Rattle.water_model.specs.declared.types.Series.{Series}
use Rattle.water_model.specs.declared.types.MonthRecord.{MonthRecord}
use Rattle.water_model.proofs.Order.{seniors_below, flat_same}
use Rattle.result_text.proofs.Whole.{FitsText-follows}
use Rattle.reports.specs.Figures.{short_months, wanted, delivered, short_count, all_wanted, all_delivered}
use Rattle.reports.specs.Reports.{row, balance_row, done_row, right_row, report_text, trial_text}
use Rattle.reports.specs.Tallies.{figures_of, IsTally, IsTrial, AreBounded}
use Rattle.reports.specs.Texts.{AreRights, rights_seen, whole_line, right_lines}
use Rattle.reports.specs.declared.figures.RightFigures.{RightFigures}
use Rattle.reports.specs.declared.entry.ReportLine.{ReportLine}
use Rattle.reports.specs.declared.entry.ReportLine.TheVariants as line
use Rattle.reports.specs.declared.called.Trial.{Trial}
use Rattle.reports.specs.declared.tally.Tally.{Tally}
use Rattle.reports.specs.declared.totals.Totals.{Totals}
use Rattle.reports.specs.declared.waters.Waters.{Waters}
use Rattle.reports.proofs.Rights.{entry_is, entry_at, entries_count}
use Rattle.month_terms.proofs.Amounts.{delivered_small}
use Rattle.reports.proofs.Room.{wanted_small}

-- The lines of a right, and of all rights, seniors first.

right_is : (b : Basin) (records : List MonthRecord) (figures : List RightFigures) (r : ℕ) →
    figures ≡ map (figures_of records) (indices_of b.rights) → r < length b.rights →
    right_lines figures r ≡ line.Right r (figures_of records r) ∷ []
right_is b records figures r is l =
    ap (λ o. unwrap_or (option_map (λ f. line.Right r f ∷ []) o) [])
    (entry_is (figures_of records) b.rights figures r is l)

rights_are : (b : Basin) (records : List MonthRecord) (figures : List RightFigures) →
    figures ≡ map (figures_of records) (indices_of b.rights) →
    flat_map (whole_line b) (flat_map (right_lines figures) (seniors_first b))
    ≡ flat_map (right_row b records) (seniors_first b)
unfolding figures_of whole_line
rights_are b records figures is =
    ap (flat_map (whole_line b))
    (flat_same (right_lines figures) (λ r. line.Right r (figures_of records r) ∷ []) (seniors_first b)
    (λ r has. right_is b records figures r is (seniors_below b.rights r has))
    ∙ flat_map_single (λ r. line.Right r (figures_of records r)) (seniors_first b))
    ∙ flat_map-map (whole_line b) (λ r. line.Right r (figures_of records r)) (seniors_first b)

-- the last lines
abbrev end_lines : Waters → List ReportLine
end_lines w = line.Balance w ∷ line.Rest w ∷ line.Done ∷ []

end_is : (b : Basin) (w : Waters) → flat_map (whole_line b) (end_lines w) ≡ balance_row w ++ done_row b
unfolding whole_line row
end_is b w = simp (append_assoc, append-nil)

pub report_is : (b : Basin) (series : Series) (records : List MonthRecord) (t : Tally) → IsTally b series records t →
    flat_map (whole_line b)
    (line.Report ∷ ((flat_map (right_lines t.rights) (seniors_first b) ++ []) ++ end_lines t.waters))
    ≡ report_text b series records
unfolding report_text whole_line
report_is b series records t is =
    let rights : List ReportLine = flat_map (right_lines t.rights) (seniors_first b) in
    rw (
      append-nil rights,
      flat_map-append (whole_line b) rights (end_lines t.waters),
      rights_are b records t.rights is.rights,
      end_is b t.waters,
      is.waters,
    ) (simp append_assoc)

-- what is kept of a run can be spelled
find_holds : {X : Type 0} (P : X → Type 0) (p : X → Bool) (xs : List X) → All P xs → IfSome (find p xs) P
find_holds P p [] all = tt
find_holds P p (x ∷ xs) all = by_test (p x) (find_holds P p xs (All-tail P x xs all))
  where
    by_test : (t : Bool) → IfSome (find p xs) P → IfSome (cond t (Some x) (find p xs)) P
    by_test true further = all 0 x (omega arith)
    by_test false further = further

pub are_rights : (b : Basin) (series : Series) (records : List MonthRecord) (t : Tally) → IsValidBasin b →
    IsPartialHistory b series records → IsTally b series records t → AreRights (rights_seen b t.rights)
unfolding figures_of
are_rights b series records t valid partial is = record {
  valid = valid;
  count = entries_count (figures_of records) b.rights t.rights is.rights;
  worst = λ k d l.
      (let at_row =
      entry_at (figures_of records) b.rights t.rights k (get_or t.rights k d) is.rights
      (slice_get-get_or t.rights k d l) in
      subst (λ (f : RightFigures). IfSome f.worst IsMonth) (sym at_row.1)
      (of_found (find _ records) (find_holds (λ m. IsMonth m.month) _ records calendar)));
}
  where
    calendar : All (λ m. IsMonth m.month) records
    calendar = λ k d l.
        (FitsText-follows b series (take k records) (get_or records k d) valid
        (partial.each k (get_or records k d) (slice_get-get_or records k d l))
        (omega (arith, length-take-le k records (omega arith), partial.within))).month

    of_found : (o : Option MonthRecord) → IfSome o (λ m. IsMonth m.month) → IfSome (option_map (λ m. m.month) o) IsMonth
    of_found None h = tt
    of_found (Some m) h = h

-- sums over the figures of all rights
sum_mapped : {X : Type 0} (f : X → ℕ) (g : ℕ → X) (ns : List ℕ) → sum_by f (map g ns) ≡ sum_by (λ n. f (g n)) ns
sum_mapped f g [] = refl
sum_mapped f g (n ∷ ns) =
    sum_by-cons f (g n) (map g ns) ∙ (ap (λ k. f (g n) + k) (sum_mapped f g ns) ∙ sym (sum_by-cons (λ k. f (g k)) n ns))

-- which fit
pub totals_room : (b : Basin) (series : Series) (records : List MonthRecord) (t : Tally) → IsValidBasin b →
    IsSeriesOf b series → IsPartialHistory b series records →
    IsTally b series records t → AreBounded t.rights
unfolding figures_of
totals_room b series records t valid fits partial is = record {
  short_months =
      omega (
        arith,
        sum_by-le (λ f. f.short_months) 1200 t.rights (each 1200 (λ f. f.short_months) short),
        count,
        valid.bounded.rights,
      );
  wanted = omega (
    arith,
    sum_by-le (λ f. f.wanted) (1200 * 10 ^ 9) t.rights (each (1200 * 10 ^ 9) (λ f. f.wanted) want),
    count,
    valid.bounded.rights,
  );
  delivered =
      omega (
        arith,
        sum_by-le (λ f. f.delivered) (1200 * 10 ^ 9) t.rights
            (each (1200 * 10 ^ 9) (λ f. f.delivered) given),
        count,
        valid.bounded.rights,
      );
}
  where
    count : length t.rights ≡ length b.rights
    count = entries_count (figures_of records) b.rights t.rights is.rights

    months : length records ≤ 1200
    months = omega (arith, partial.within, valid.run.months.1)

    each : (most : ℕ) (h : RightFigures → ℕ) → ((r : ℕ) → r < length b.rights → h (figures_of records r) ≤ most) →
        All (λ f. h f ≤ most) t.rights
    each most h small = λ k d l.
        (let at_row =
        entry_at (figures_of records) b.rights t.rights k (get_or t.rights k d) is.rights
        (slice_get-get_or t.rights k d l) in
        subst (λ (f : RightFigures). h f ≤ most) (sym at_row.1) (small k at_row.0))

    short : (r : ℕ) → r < length b.rights → short_months records r ≤ 1200
    short r l =
        omega (
          arith,
          months,
          count_by-le-length (λ m. nat_lt (slice_index m.delivered r) (slice_index m.want r))
              records,
        )

    want : (r : ℕ) → r < length b.rights → wanted records r ≤ 1200 * 10 ^ 9
    want r l = omega (arith, months, wanted_small b series records r valid fits partial l)

    given : (r : ℕ) → r < length b.rights → delivered records r ≤ 1200 * 10 ^ 9
    given r l = omega (arith, months, delivered_small b series records r valid fits partial)

-- the summary by what is kept
pub summary_is : (number size : ℕ) (b : Basin) (series : Series) (records : List MonthRecord) (t : Trial)
    (totals : Totals) → IsTrial b series records t →
    totals.short_months ≡ sum_by (λ f. f.short_months) t.tally.rights →
    totals.wanted ≡ sum_by (λ f. f.wanted) t.tally.rights →
    totals.delivered ≡ sum_by (λ f. f.delivered) t.tally.rights →
    flat_map (whole_line b) (line.Trial number size ∷ line.Size ∷ line.Wanted totals.wanted
    ∷ line.Delivered totals.delivered ∷ line.Short totals.short_months ∷ line.Called t.called
    ∷ end_lines t.tally.waters)
    ≡ trial_text number size b series records
unfolding trial_text figures_of whole_line
summary_is number size b series records t totals is s w d =
    rw (short, want, given, is.called, end_is b t.tally.waters, is.tally.waters) (simp append_assoc)
  where
    summed : (f : RightFigures → ℕ) → sum_by f t.tally.rights ≡ sum_by (λ r. f (figures_of records r))
        (indices_of b.rights)
    summed f = ap (sum_by f) is.tally.rights ∙ sum_mapped f (figures_of records) (indices_of b.rights)

    short : totals.short_months ≡ short_count b records
    short = s ∙ summed (λ f. f.short_months)

    want : totals.wanted ≡ all_wanted b records
    want = w ∙ summed (λ f. f.wanted)

    given : totals.delivered ≡ all_delivered b records
    given = d ∙ summed (λ f. f.delivered)
