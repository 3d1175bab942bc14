-- Texts of a run that go month by month, and how far one was written.
use Rattle.std.specs.Prelude.{◌≡◌, ℕ, ◌<◌, List, [], ◌∷◌, ◌++◌, length, refl, Result, ⊤}
use Rattle.std.specs.List.{flat_map}
use Rattle.std.proofs.lemmas.List.{length-map}
use Rattle.water_edge.specs.Edge.{Extends, Output, Puts}
use Rattle.call_list.specs.Found.{IsFoundIn}
use Rattle.call_list.specs.Lists.{head_bytes, month_bytes, tail_bytes}
use Rattle.call_list.specs.Whole.{AreFoundIn, MonthFound, list_bytes, records_of}
use Rattle.call_list.specs.Whole as list
use Rattle.call_list.proofs.Whole.{begun_more, begun_none, found_more, nothing_found, records_more}
use Rattle.month_fold.specs.Runs.{RunView, RunStandsFor}
use Rattle.month_fold.specs.Works.{Solves, WorkDone}
use Rattle.result_lines.specs.Spelling.{whole_line}
use Rattle.result_lines.specs.Text.{items_of_head, items_of_month, items_of_tail, text_bytes}
use Rattle.result_text.specs.Begun.{IsPrefixOf, begun_bytes}
use Rattle.result_text.proofs.Whole.{begun-head, begun-more, text-begun}
use Rattle.water_model.specs.History.{HaveReaches, IsPartialHistory}
use Rattle.water_model.specs.declared.types.Basin.{Basin}
use Rattle.water_model.specs.declared.types.Series.{Series}
use Rattle.water_model.specs.declared.types.MonthRecord.{MonthRecord}
use Rattle.basin_cli.specs.Headline.{KeepsPriority}
use Rattle.basin_cli.specs.declared.status.Status.{Status}
use Rattle.basin_cli.specs.declared.status.Status.TheVariants.{Done, WriteFault}

-- What such a text is. It has an entry for each month: its record, and what else its lines say.
pub record MonthlyText : Type 1 where
  pub Entry : Type 0
  pub record_of : Entry → MonthRecord
  pub records : List Entry → List MonthRecord
  -- what entries say beside their records is so
  pub is : Basin → Entry → Type 0
  pub are : Basin → List Entry → Type 0
  -- the lines before the first month, those of a month, and those after the last
  pub head : Basin → List ℕ
  pub lines : Basin → Entry → List ℕ
  pub tail : Basin → List ℕ
  -- the head with the lines of some months, and with the tail
  pub begun : Basin → List Entry → List ℕ
  pub whole : Basin → List Entry → List ℕ

-- it is its head, the lines of month after month, and its tail
pub record GrowsMonthly (t : MonthlyText) : Type 0 where
  pub no_records : t.records [] ≡ []
  pub records_more : (entries : List t.Entry) (e : t.Entry) →
      t.records (entries ++ e ∷ []) ≡ t.records entries ++ t.record_of e ∷ []
  pub count : (entries : List t.Entry) → length (t.records entries) ≡ length entries
  pub none : (b : Basin) → t.are b []
  pub more : (b : Basin) (entries : List t.Entry) (e : t.Entry) → t.are b entries → t.is b e → t.are b (entries ++ e ∷ [])
  pub begun_none : (b : Basin) → t.begun b [] ≡ t.head b
  pub begun_more : (b : Basin) (entries : List t.Entry) (e : t.Entry) →
      t.begun b (entries ++ e ∷ []) ≡ t.begun b entries ++ t.lines b e
  pub whole : (b : Basin) (entries : List t.Entry) → t.whole b entries ≡ t.begun b entries ++ t.tail b

-- the text of a run's records, which says nothing else
abbrev pub run_text : MonthlyText
run_text = record {
  Entry = MonthRecord;
  record_of = λ m. m;
  records = λ records. records;
  is = λ b m. ⊤;
  are = λ b records. ⊤;
  head = λ b. flat_map (whole_line b) (items_of_head b);
  lines = λ b m. flat_map (whole_line b) (items_of_month b m);
  tail = λ b. flat_map (whole_line b) (items_of_tail b);
  begun = begun_bytes;
  whole = text_bytes;
}

pub results_grow : GrowsMonthly run_text
results_grow = record {
  no_records = refl;
  records_more = λ records m. refl;
  count = λ records. refl;
  none = λ b. tt;
  more = λ b records m are is. tt;
  begun_none = begun-head;
  begun_more = begun-more;
  whole = text-begun;
}

-- the list of a run's calls, which says what one more unit of water would do in each month. It is determined by the
-- basin and the series: `call_list` has that as a law
abbrev pub call_text : MonthlyText
call_text = record {
  Entry = MonthFound;
  record_of = λ e. e.month;
  records = records_of;
  is = λ b e. IsFoundIn b e.month e.found;
  are = AreFoundIn;
  head = head_bytes;
  lines = λ b e. month_bytes b e.month e.found;
  tail = tail_bytes;
  begun = list.begun_bytes;
  whole = list_bytes;
}

pub lists_grow : GrowsMonthly call_text
lists_grow = record {
  no_records = refl;
  records_more = records_more;
  count = λ months. length-map months (λ (e : MonthFound). e.month);
  none = nothing_found;
  more = found_more;
  begun_none = begun_none;
  begun_more = begun_more;
  whole = λ b months. refl;
}

-- the lines of a month were put, or after a failure a prefix of them
pub record PutsMonth {E : Type 0} (t : MonthlyText) (b : Basin) (m : MonthRecord) (old new : Output)
    (r : Result (Unit {0}) E) : Type 0 where
  pub entry : t.Entry
  pub of_month : t.record_of entry ≡ m
  pub is : t.is b entry
  pub lines : Puts old new r (t.lines b entry)

-- after what out had taken stand the head and the lines of the months that a run went through; with the first of them
-- all is flushed
pub record IsBegunText (t : MonthlyText) (b : Basin) (run : RunView) (old now : Output) : Type 0 where
  pub basin : run.basin ≡ b
  pub entries : List t.Entry
  pub are : t.are b entries
  pub stands : RunStandsFor run (t.records entries)
  pub text : Extends old now (t.begun b entries)
  pub flushed : 0 < length entries → now.flushed ≡ now.taken

-- after what out had taken stands the whole text, of records that keep the priority of rights
pub record IsWholeText (t : MonthlyText) (b : Basin) (series : Series) (old now : Output) : Type 0 where
  pub entries : List t.Entry
  pub are : t.are b entries
  pub keeps : KeepsPriority b series (t.records entries)
  pub text : Extends old now (t.whole b entries)

-- Where writing stopped: of the months of a run that were solved all but the last stand after what out had taken, and
-- of the last one a prefix. No more months are counted than these.
pub record StopsAtMonth (t : MonthlyText) (b : Basin) (series : Series) (old now : Output) (before after : WorkDone) :
    Type 0 where
  pub entries : List t.Entry
  pub are : t.are b entries
  pub partial : IsPartialHistory b series (t.records entries)
  pub reaches : HaveReaches b (t.records entries)
  pub prefix : IsPrefixOf (t.begun b) (t.whole b entries) entries (length entries ≡ b.months) old now
  pub work : Solves (length entries) b before after

-- what such a text leaves on out: the whole, or after a fault of out as far as it was written
abbrev pub LeavesMonths : MonthlyText → Basin → Series → Status → Output → Output → WorkDone → WorkDone → Type 0
LeavesMonths t b series Done old new before after = IsWholeText t b series old new
LeavesMonths t b series WriteFault old new before after = StopsAtMonth t b series old new before after
LeavesMonths t b series status old new before after = ⊤
