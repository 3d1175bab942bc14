-- A changed series, the months before the change, and months that agree with those of a fresh run.
use Rattle.std.proofs.Common.{◌≡◌, ℕ, ◌+◌, ◌*◌, ◌^◌, ◌<◌, ◌≤◌, Bool, true, false, refl, sym, ap, ◌∙◌, arith, List}
use Rattle.std.proofs.Common.{length, take, min, ◌≢◌, subst, suc}
use Rattle.std.specs.Prelude.{if◌then◌else◌, slice_get, Option, Some, None, unwrap_or, option_map, slice_set}
use Rattle.std.proofs.lemmas.List.{length-set, take-take, take_min, get_or-set_other, length-take}
use Rattle.std.proofs.lemmas.List.Elements.{All-set}
use Rattle.water_model.specs.Basin.{instream_link}
use Rattle.water_model.specs.Lookups.{of_entry}
use Rattle.water_model.specs.Hydrology.{inflow_of_kind, want_by_volume, cap_by_link, number_of, run_month, table_at}
use Rattle.water_model.specs.Hydrology.{index_in}
use Rattle.water_model.specs.Valid.{IsSeriesOf, is_gauged, is_gauged_kind, is_in_series, is_series, IsValidBasin}
use Rattle.water_model.specs.declared.types.Basin.{Basin}
use Rattle.water_model.specs.declared.types.Inflow.TheVariants.{Monthly, Gauged}
use Rattle.water_model.specs.declared.types.Inflow as inflow
use Rattle.water_model.specs.declared.types.Series.{Series}
use Rattle.water_model.specs.declared.types.MonthRecord.{MonthRecord}
use Rattle.water_model.specs.declared.types.Want as wanting
use Rattle.water_model.specs.declared.types.Want.TheVariants as stated
use Rattle.water_model.proofs.Gauges.{gauge_within, wanted_within, cell_within}
use Rattle.edit_script.specs.Edits.{edited_by, kept_by, IsValidEdit, with_inflow, with_want}
use Rattle.edit_session.specs.Laws.{AgreeBefore, EditedSeriesFit, KeptMonthsStay}
use Rattle.edit_session.specs.SessionInside.{IsValidSession}
use Rattle.edit_session.specs.Sessions.{records_of, HasKeptMonths}
use Rattle.edit_session.specs.declared.session.Session.TheInside.{Inside}
use Rattle.edit_script.specs.declared.edit.Edit.{Edit}
use Rattle.edit_script.specs.declared.edit.Edit.TheVariants.{Inflow, Want, Show}
use Rattle.std.proofs.lemmas.Option.{slice_get_within}
use Rattle.water_model.proofs.Histories.{follows_alike}
use Rattle.water_model.proofs.Lists.{get_prefix}
use Rattle.water_model.specs.History.{IsPartialHistory, Follows, HaveReaches}
use Rattle.month_fold.proofs.Outcomes.{runs_have_one_outcome}
use Rattle.edit_session.specs.Shown.{AgreesWithRuns}
use Rattle.duality.proofs.Balance.{slice_get-take}

-- The prefix of a partial history is one, also of a series that agrees with its own up to there.
pub prefix_partial : (b : Basin) (series other : Series) (records : List MonthRecord) (month : ℕ) →
    AgreeBefore b series other month →
    IsPartialHistory b series records → IsPartialHistory b other (take month records)
prefix_partial b series other records month agree h = record {
  within = omega (arith, length-take month records, h.within);
  each = λ j m e.
      let r = get_prefix records month j m e in
      let within : j < length records = slice_get_within records j m r.1 in
      subst (λ (xs : List MonthRecord). Follows b other xs m) (sym (take-take j month records (omega (arith, r.0))))
      (let follows = h.each j m r.1 in
      let early : m.index < month = omega (arith, follows.after.index, length-take j records, r.0) in
      follows_alike b series other (take j records) m (λ n l. agree.inflows n m.index l early)
      (λ right used l. agree.wants right m.index used l early) follows);
}

pub prefix_reaches : (b : Basin) (records : List MonthRecord) (month : ℕ) → HaveReaches b records →
    HaveReaches b (take month records)
prefix_reaches b records month h = λ j m e. h j m (get_prefix records month j m e).1

-- a changed series is one of its basin
pub edited_fits : EditedSeriesFit
edited_fits b series (Inflow index gauge amount) fits placed =
    assumption (
      length-set series.amount (index * length series.gauged + gauge) amount ∙ fits.amounts,
      All-set (λ n. n ≤ 10 ^ 9) series.amount (index * length series.gauged + gauge) amount placed.2 fits.small_amounts,
    )
edited_fits b series (Want index place amount) fits placed =
    assumption (
      length-set series.want (index * length series.wanted + place) amount ∙ fits.wants,
      All-set (λ n. n ≤ 10 ^ 9) series.want (index * length series.wanted + place) amount placed.2 fits.small_wants,
    )
edited_fits b series (Show index) fits placed = fits

-- what is read of an entry in two ways
entry_same : {X : Type 0} (xs : List X) (k : ℕ) (f g : X → ℕ) → ((x : X) → slice_get xs k ≡ Some x → f x ≡ g x) →
    of_entry xs k f 0 ≡ of_entry xs k g 0
entry_same {X} xs k f g same = of_option (slice_get xs k) same
  where
    of_option : (o : Option X) → ((x : X) → o ≡ Some x → f x ≡ g x) →
        unwrap_or (option_map f o) 0 ≡ unwrap_or (option_map g o) 0
    of_option None same = refl
    of_option (Some x) same = same x refl

-- a number of an earlier month stays
pub earlier_stays : (keys cells : List ℕ) (i index column key amount : ℕ) → i < index →
    index_in keys key < length keys →
    table_at keys (slice_set cells (index * length keys + column) amount) i key ≡ table_at keys cells i key
earlier_stays keys cells i index column key amount l within =
    get_or-set_other cells (index * length keys + column) (i * length keys + index_in keys key) amount 0 other
  where
    other : i * length keys + index_in keys key ≢ index * length keys + column
    other e = let below = cell_within i index (length keys) (index_in keys key) l within in omega arith

-- series agree before a month where their tables do
tables_agree : (b : Basin) (series other : Series) (month : ℕ) →
    ((node i : ℕ) → node < length b.nodes → i < month → is_gauged b node ≡ true →
    table_at series.gauged series.amount i node ≡ table_at other.gauged other.amount i node) →
    ((right i : ℕ) → right < length b.rights → i < month → is_in_series b right ≡ true →
    table_at series.wanted series.want i right ≡ table_at other.wanted other.want i right) →
    AgreeBefore b series other month
tables_agree b series other month amounts wants = record {
  inflows = λ node i l early.
      entry_same b.nodes node (λ n. inflow_of_kind b series node i n.inflow)
      (λ n. inflow_of_kind b other node i n.inflow) (λ n at. by_kind node i n.inflow
      (λ e. amounts node i l early (ap (λ o. unwrap_or (option_map (λ m. is_gauged_kind m.inflow) o) false) at ∙ e)));
  wants = λ right i used l early.
      ap (λ n. want_by_volume (of_entry b.rights right (λ r. r.volume) None)
      (cap_by_link b (run_month b i) (instream_link b right) n) used)
      (entry_same b.rights right (λ r. number_of b series right i r.want) (λ r. number_of b other right i r.want)
      (λ r at. by_want right i r.want
      (λ e. wants right i l early (ap (λ o. unwrap_or (option_map (λ x. is_series x.want) o) false) at ∙ e))));
}
  where
    by_kind : (node i : ℕ) (kind : inflow.Inflow) → (is_gauged_kind kind ≡ true →
        table_at series.gauged series.amount i node ≡ table_at other.gauged other.amount i node) →
        inflow_of_kind b series node i kind ≡ inflow_of_kind b other node i kind
    by_kind node i (Monthly amounts) same = refl
    by_kind node i Gauged same = same refl

    by_want : (right i : ℕ) (want : wanting.Want) → (is_series want ≡ true →
        table_at series.wanted series.want i right ≡ table_at other.wanted other.want i right) →
        number_of b series right i want ≡ number_of b other right i want
    by_want right i (stated.Monthly amounts) same = refl
    by_want right i stated.Series same = same refl

-- a series agrees with itself
same_series : (b : Basin) (series : Series) (month : ℕ) → AgreeBefore b series series month
same_series b series month = record { inflows = λ node i l m. refl; wants = λ right i used l m. refl }

-- the months that are kept over a change are before it
edited_agrees : (b : Basin) (series : Series) (count : ℕ) (e : Edit) → IsSeriesOf b series →
    AgreeBefore b series (edited_by series e) (kept_by count e)
edited_agrees b series count (Inflow index gauge amount) fits =
    tables_agree b series (with_inflow series index gauge amount) (min count index)
    (λ node i l early gauged. sym (earlier_stays series.gauged series.amount i index gauge node amount (omega arith)
    (gauge_within b series node fits l gauged)))
    (λ right i l early wanted. refl)
edited_agrees b series count (Want index place amount) fits =
    tables_agree b series (with_want series index place amount) (min count index)
    (λ node i l early gauged. refl)
    (λ right i l early wanted. sym (earlier_stays series.wanted series.want i index place right amount (omega arith)
    (wanted_within b series right fits l wanted)))
edited_agrees b series count (Show index) fits = same_series b series count

pub kept_stays : KeptMonthsStay
kept_stays b series records e fits placed kept = record {
  partial = prefix_partial b series (edited_by series e) records (kept_by (length records) e)
      (edited_agrees b series (length records) e fits) kept.partial;
  reaches = prefix_reaches b records (kept_by (length records) e) kept.reaches;
}

pub at_most : (records : List MonthRecord) (month : ℕ) → take month records ≡ take (min (length records) month) records
at_most records month = sym (ap (λ n. take n records) (omega arith) ∙ take_min month records)

-- a session after a change
pub stays_ready : (old new : Inside) (e : Edit) → IsValidSession old → IsValidEdit old.engine.basin old.series e →
    new.engine ≡ old.engine → new.series ≡ edited_by old.series e →
    records_of new.kept.items ≡ take (kept_by (length (records_of old.kept.items)) e) (records_of old.kept.items) →
    IsValidSession new
stays_ready old new e ready placed engine series kept = record {
  valid = rw engine ready.valid;
  series = rw (engine, series) (edited_fits old.engine.basin old.series e ready.series placed);
  kept = rw (engine, series, kept)
      (kept_stays old.engine.basin old.series (records_of old.kept.items) e ready.series placed ready.kept);
}

-- a month that a session keeps agrees with that of a fresh run
pub runs_agree : (b : Basin) (series : Series) (index : ℕ) (months : List MonthRecord) (m : MonthRecord) →
    IsValidBasin b →
    HasKeptMonths (record { basin = b; series = series; kept = months }) → slice_get months index ≡ Some m →
    AgreesWithRuns b series index m
runs_agree b series index months m valid kept at records n other at' =
    let same = same_series b series (suc index) in
    runs_have_one_outcome b series (take (suc index) months) (take (suc index) records) valid
    (prefix_partial b series series months (suc index) same kept.partial)
    (prefix_partial b series series records (suc index) same other.partial)
    (prefix_reaches b months (suc index) kept.reaches) (prefix_reaches b records (suc index) other.reaches)
    (omega (
      arith,
      length-take (suc index) months,
      length-take (suc index) records,
      slice_get_within months index m at,
      slice_get_within records index n at',
    ))
    index m n (slice_get-take months index ∙ at) (slice_get-take records index ∙ at')
