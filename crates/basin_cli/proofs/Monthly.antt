-- A text is written month by month.
use Rattle.std.proofs.Common.{◌≡◌, ◌+◌, sym, ap, ◌∙◌, subst, arith, List, [], ◌∷◌, ◌++◌, Result}
use Rattle.std.proofs.Common.{Ok, Err, length, length-append}
use Rattle.std.specs.Prelude.{IsErr, MatchResult, OnOk}
use Rattle.water_model.specs.History.{HaveReaches, IsPartialHistory}
use Rattle.water_model.specs.Valid.{IsValidBasin}
use Rattle.water_model.specs.declared.types.Basin.{Basin}
use Rattle.water_model.specs.declared.types.Series.{Series}
use Rattle.water_model.specs.declared.types.MonthRecord.{MonthRecord}
use Rattle.month_fold.proofs.Whole.{whole_history}
use Rattle.call_list.proofs.Months.{CanBeFound, last_can_be_found}
use Rattle.duality.proofs.Balance.{balanced}
use Rattle.duality.proofs.Returns.{covered}
use Rattle.duality.proofs.Greatest.{cuts_make_greatest, cuts_let_nobody_get_more}
use Rattle.duality.proofs.Parts.{no_fraction_helps, whole_units_are_greatest}
use Rattle.duality.proofs.Sheltered.{histories_leave_nothing, called_rights_get_nothing, cuts_let_nothing_outside_help}
use Rattle.month_fold.specs.Runs.{RunView, RunStandsFor}
use Rattle.month_fold.specs.Works.{Solves, WorkDone}
use Rattle.month_fold.proofs.Works.{Solves-none, Solves-then}
use Rattle.water_edge.proofs.Puts.{PutsPrefix}
use Rattle.water_edge.proofs.Outputs.{Extends-trans}
use Rattle.water_edge.specs.Edge.{Extends, Output, Puts, Stays}
use Rattle.result_text.proofs.Monthly.{head_prefix, month_begun, month_prefix, puts_kept, tail_prefix}
use Rattle.basin_cli.specs.Headline.{KeepsPriority, deliveries_of}
use Rattle.basin_cli.specs.Monthly.{GrowsMonthly, IsBegunText, IsWholeText, MonthlyText, PutsMonth, StopsAtMonth}

-- what one more unit would do in the last of some months can be found, and its lines written
pub last_month : (b : Basin) (run : RunView) (records : List MonthRecord) (m : MonthRecord) → run.basin ≡ b →
    RunStandsFor run (records ++ m ∷ []) → CanBeFound b m
last_month b run records m same stands =
    subst (λ c. CanBeFound c m) same
    (last_can_be_found run.basin run.series records m stands.valid stands.fits stands.partial stands.reaches)

-- all months of a run keep the priority of rights
pub whole_run : (b : Basin) (series : Series) (run : RunView) (records : List MonthRecord) → run.basin ≡ b →
    run.series ≡ series → RunStandsFor run records → run.done ≡ b.months → KeepsPriority b series records
whole_run b series run records same fits stands done =
    let valid : IsValidBasin b = rw (← same) stands.valid in
    let partial : IsPartialHistory b series records = rw (← same, ← fits) stands.partial in
    let reaches : HaveReaches b records = rw (← same) stands.reaches in
    record {
      history = rw (← same, ← fits) (whole_history run records stands (rw same done));
      greatest = λ i m at. cuts_make_greatest b series records partial i m at;
      greatest_in_parts = λ i m at k. (whole_units_are_greatest b series records partial i m at k).0;
      reaches = reaches;
      no_more =
          λ i m at q plan right l serves.
          cuts_let_nobody_get_more b series records partial i m at q plan right l serves;
      no_fraction = λ i m at k q plan right l serves.
          no_fraction_helps b series records partial i m at k q plan right l serves;
      no_help = λ i m at right l cut is supply' want' q plan agrees serves.
          cuts_let_nothing_outside_help b series records partial i m at right l cut is supply' want' q plan agrees
          serves;
      juniors = λ i m at right l cut is. histories_leave_nothing b series records partial i m at right l cut is;
      called = λ i m at right caller l k calls.
          called_rights_get_nothing b series records partial i m at right caller l k calls;
      balanced = balanced b series records valid partial;
      covered = λ right i l. covered b (deliveries_of records) right i valid l;
    }

-- what holds where writing stopped holds of an answer that is an error
pub stopped : {E : Type 0} (r : Result (Unit {0}) E) (P Q : Type 0) → IsErr r → Q → MatchResult r (λ _. P) (λ _. Q)
stopped (Ok u) P Q is q = cc
stopped (Err x) P Q is q = q

-- lines that were put were put whole, whether or not they could be flushed
pub month_kept : {E : Type 0} {u : Unit {0}} (t : MonthlyText) (b : Basin) (m : MonthRecord) (old mid now : Output)
    (r : Result (Unit {0}) E) → PutsMonth {E = E} t b m old mid (Ok u) → Stays mid now → PutsMonth t b m old now r
month_kept t b m old mid now r put stays = record {
  entry = put.entry;
  of_month = put.of_month;
  is = put.is;
  lines = puts_kept old mid now r (t.lines b put.entry) put.lines stays;
}

module _ (t : MonthlyText) (grows : GrowsMonthly t) (b : Basin) (series : Series) where
  -- before the first month a run has the head alone
  pub head_begun : (run : RunView) (start now : Output) → run.basin ≡ b → RunStandsFor run [] →
      Extends start now (t.head b) → IsBegunText t b run start now
  head_begun run start now same stands puts = record {
    basin = same;
    entries = [];
    are = grows.none b;
    stands = rw grows.no_records stands;
    text = rw (grows.begun_none b) puts;
    flushed = λ some. absurd (omega (arith, some));
  }

  -- or a prefix of it was put
  pub head_stops : (run : RunView) (start now : Output) (before : WorkDone) → run.basin ≡ b → run.series ≡ series →
      RunStandsFor run [] → PutsPrefix start now (t.head b) → StopsAtMonth t b series start now before before
  head_stops run start now before same fits stands prefix = record {
    entries = [];
    are = grows.none b;
    partial = rw (grows.no_records, ← same, ← fits) stands.partial;
    reaches = rw (grows.no_records, ← same) stands.reaches;
    prefix = head_prefix (t.begun b) _ (t.head b) (t.tail b) _ start now (grows.begun_none b)
        (grows.whole b [] ∙ ap (λ text. text ++ t.tail b) (grows.begun_none b)) prefix;
    work = Solves-none b before;
  }

  -- one month more of a run whose lines so far are written
  module _ (was run : RunView) (start mid now : Output) (begun : IsBegunText t b was start mid) (same : run.basin ≡ b)
      (fits : run.series ≡ series) (stands : RunStandsFor run (t.records begun.entries ++ run.last ∷ [])) where
    -- as many months are done as it has entries
    done : (e : t.Entry) → length (begun.entries ++ e ∷ []) ≡ was.done + 1
    done e = omega (
      arith,
      begun.stands.done,
      grows.count begun.entries,
      length-append begun.entries (e ∷ []),
    )

    all : (e : t.Entry) → t.record_of e ≡ run.last → RunStandsFor run (t.records (begun.entries ++ e ∷ []))
    all e of_month = rw (grows.records_more begun.entries e, of_month) stands

    -- the month's lines were put, or a prefix of them
    pub month_put : {E : Type 0} (r : Result (Unit {0}) E) (at after : WorkDone) → PutsMonth t b run.last mid now r →
        OnOk r (now.flushed ≡ now.taken) → Solves 1 b at after →
        MatchResult r (λ _. IsBegunText t b run start now) (λ _. (before : WorkDone) → Solves was.done b before at →
        StopsAtMonth t b series start now before after)
    month_put (Ok u) at after put flushed solves = record {
      basin = same;
      entries = begun.entries ++ put.entry ∷ [];
      are = grows.more b begun.entries put.entry begun.are put.is;
      stands = all put.entry put.of_month;
      text = month_begun (t.begun b) (t.lines b) (grows.begun_more b) begun.entries put.entry start mid now begun.text
          put.lines;
      flushed = λ _. flushed;
    }
    month_put (Err x) at after put flushed solves = λ before sofar. record {
      entries = begun.entries ++ put.entry ∷ [];
      are = grows.more b begun.entries put.entry begun.are put.is;
      partial = rw (← same, ← fits) (all put.entry put.of_month).partial;
      reaches = rw (← same) (all put.entry put.of_month).reaches;
      prefix = month_prefix (t.begun b) (t.lines b) (grows.begun_more b) _ (t.tail b) begun.entries put.entry _ start
          mid now (grows.whole b (begun.entries ++ put.entry ∷ [])) begun.text begun.flushed put.lines;
      work = rw (done put.entry) (Solves-then was.done 1 b before at after sofar solves);
    }

  -- after all months a prefix of the tail was put
  pub tail_stops : (run : RunView) (start mid now : Output) (before after : WorkDone) → run.series ≡ series →
      run.done ≡ b.months → IsBegunText t b run start mid → PutsPrefix mid now (t.tail b) →
      Solves b.months b before after → StopsAtMonth t b series start now before after
  tail_stops run start mid now before after fits all begun prefix solves =
      let count : length begun.entries ≡ b.months = sym (grows.count begun.entries) ∙ (sym begun.stands.done ∙ all) in
      record {
        entries = begun.entries;
        are = begun.are;
        partial = rw (← begun.basin, ← fits) begun.stands.partial;
        reaches = rw (← begun.basin) begun.stands.reaches;
        prefix = tail_prefix (t.begun b) (t.lines b) (grows.begun_more b) _ (t.tail b) begun.entries _ start mid now
            (grows.whole b begun.entries) count begun.text begun.flushed prefix;
        work = rw count solves;
      }

  -- or the tail, which makes the text
  pub tail_put : {E : Type 0} (run : RunView) (start mid now : Output) (r : Result (Unit {0}) E)
      (before after : WorkDone) → run.series ≡ series → run.done ≡ b.months → IsBegunText t b run start mid →
      Puts mid now r (t.tail b) → Solves b.months b before after →
      MatchResult r (λ _. IsWholeText t b series start now) (λ _. StopsAtMonth t b series start now before after)
  tail_put run start mid now (Ok u) before after fits all begun puts solves = record {
    entries = begun.entries;
    are = begun.are;
    keeps = whole_run b series run (t.records begun.entries) begun.basin fits begun.stands all;
    text = rw (grows.whole b begun.entries)
        (Extends-trans start mid now (t.begun b begun.entries) (t.tail b) begun.text puts);
  }
  tail_put run start mid now (Err x) before after fits all begun puts solves =
      tail_stops run start mid now before after fits all begun puts solves
