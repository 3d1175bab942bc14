-- What the verdict on a result's bytes says of them.
use Rattle.std.proofs.Common.{◌≡◌, ℕ, subst, sym, List, Option}
use Rattle.std.proofs.lemmas.Option.{IfSome_then}
use Rattle.std.specs.Prelude.{Result, Ok, Err, IsOk, IfSome}
use Rattle.water_edge.specs.Edge.{Output}
use Rattle.cert_check.proofs.AuditLaws.{audited_exactly_for_reaches}
use Rattle.cert_check.proofs.ByteLaws.{yes_exactly_for_histories}
use Rattle.cert_check.specs.Audit.{IsAuditAnswer, IsAuditedText}
use Rattle.cert_check.specs.Whole.{text_verdict}
use Rattle.cert_check.specs.declared.refuted.Refuted.{Refuted}
use Rattle.water_model.specs.History.{HaveReaches, IsHistory}
use Rattle.result_lines.specs.Text.{text_bytes}
use Rattle.water_model.specs.Valid.{IsValidBasin, IsSeriesOf}
use Rattle.result_lines.specs.declared.item.Item.{Item}
use Rattle.water_model.specs.declared.types.Basin.{Basin}
use Rattle.water_model.specs.declared.types.Series.{Series}
use Rattle.water_model.specs.declared.types.MonthRecord.{MonthRecord}
use Rattle.duality.proofs.Greatest.{cuts_make_greatest}
use Rattle.duality.proofs.Parts.{whole_units_are_greatest}
use Rattle.basin_cli.specs.declared.checking.Question.{Question}
use Rattle.basin_cli.specs.declared.checking.Question.TheVariants as question
use Rattle.basin_cli.specs.declared.ending.Ending.{Ending}
use Rattle.basin_cli.specs.declared.ending.Ending.TheVariants as ending
use Rattle.basin_cli.specs.declared.ending.File.TheVariants as file
use Rattle.basin_cli.specs.Actions.{EndsChecking}
use Rattle.basin_cli.specs.Answer.{EndsAnswer, IsAnswerFor, IsAnswerTo, LeavesAnswer, answered, ending_of}
use Rattle.basin_cli.specs.Command.{Files}
use Rattle.basin_cli.specs.Ending.{status_of}
use Rattle.basin_cli.specs.Bytes.{AreSpelled, KnownFiles}
use Rattle.basin_cli.specs.Out.{Leaves, MayWrite}
use Rattle.basin_cli.specs.Outcome.{IsHistoryText, IsReachesText, IsRefuted, IsYes, HasCheckingCause, WritesAnswer}
use Rattle.basin_cli.specs.Reading.{OfBoth}
use Rattle.basin_cli.specs.Series.{AreLoaded}
use Rattle.basin_cli.specs.declared.status.Status.{Status}
use Rattle.basin_cli.proofs.Known.{accepted, after, of_both, spelled_history}
use Rattle.basin_cli.proofs.OneSeries.{one_basin}

-- the text of a history of what bytes spell
text_of_history : (bytes s text : List ℕ) (b : Basin) (series : Series) (records : List MonthRecord) →
    AreSpelled bytes s b series → IsHistory b series records → text ≡ text_bytes b records → IsHistoryText bytes s text
text_of_history bytes s text b series records spelled history same = record {
  basin = b;
  series = series;
  spelled = spelled;
  records = records;
  history = history;
  text = same;
  greatest = λ i m at. cuts_make_greatest b series records history.partial i m at;
  greatest_in_parts = λ i m at k. (whole_units_are_greatest b series records history.partial i m at k).0;
}

-- bytes on which the verdict is a yes are such a text
pub is_text : (bytes s text : List ℕ) (b : Basin) (series : Series) → IsValidBasin b → AreSpelled bytes s b series →
    IsOk (text_verdict b series text) →
    IsHistoryText bytes s text
is_text bytes s text b series valid spelled good =
    let found = (yes_exactly_for_histories b series text valid spelled.fits).0 good in
    text_of_history bytes s text b series found.0 spelled found.1 found.2

-- and those that are refuted are the text of none
pub is_no_text : (bytes s text : List ℕ) (b : Basin) (series : Series) (refuted : Refuted) → IsValidBasin b →
    AreSpelled bytes s b series →
    text_verdict b series text ≡ Err refuted → IsHistoryText bytes s text → ⊥
is_no_text bytes s text b series refuted valid spelled bad is =
    let same : is.basin ≡ b = one_basin bytes is.basin b is.spelled.basin_spelled spelled.basin_spelled in
    never (text_verdict b series text) bad ((yes_exactly_for_histories b series text valid spelled.fits).1 (
      is.records,
      spelled_history bytes s b is.basin series is.series is.records spelled is.spelled is.history,
      subst (λ c. text ≡ text_bytes c is.records) same is.text,
    ))
  where
    never : (verdict : Result (List Item) Refuted) → verdict ≡ Err refuted → IsOk verdict → ⊥
    never (Ok items) e good = cc
    never (Err other) e good = cc

-- bytes that are audited are the text of a history whose sets are the reaches
pub is_reaches : (bytes s text : List ℕ) (b : Basin) (series : Series) → AreSpelled bytes s b series →
    IsAuditedText b series text → IsReachesText bytes s text
unfolding text_of_history
is_reaches bytes s text b series spelled audited = record {
  of_history = text_of_history bytes s text b series audited.records spelled audited.history audited.text;
  reaches = audited.reaches;
}

-- and those of such a history are audited
pub is_audited : (bytes s text : List ℕ) (b : Basin) (series : Series) → AreSpelled bytes s b series →
    IsReachesText bytes s text → IsAuditedText b series text
is_audited bytes s text b series spelled is =
    let of = is.of_history in
    let same : of.basin ≡ b = one_basin bytes of.basin b of.spelled.basin_spelled spelled.basin_spelled in
    record {
      records = of.records;
      history = spelled_history bytes s b of.basin series of.series of.records spelled of.spelled of.history;
      reaches = subst (λ c. HaveReaches c of.records) same is.reaches;
      text = subst (λ c. text ≡ text_bytes c of.records) same of.text;
    }

-- so those that an audit refutes are the text of none
pub is_not_audited : (bytes s text : List ℕ) (b : Basin) (series : Series) (refuted : Refuted) → IsValidBasin b →
    AreSpelled bytes s b series →
    IsAuditAnswer b series text (Err refuted) → IsReachesText bytes s text → ⊥
is_not_audited bytes s text b series refuted valid spelled answer is =
    never
    ((audited_exactly_for_reaches b series text (Err refuted) valid spelled.fits answer).1
    (is_audited bytes s text b series spelled is))
  where
    never : IsOk {T = ℕ} {E = Refuted} (Err refuted) → ⊥
    never h = cc

-- what a yes says, and a no
pub is_yes : (asked : Question) (bytes s text : List ℕ) (b : Basin) (series : Series) (months : ℕ) → IsValidBasin b →
    AreSpelled bytes s b series → IsAnswerFor asked b series text (Ok months) → IsYes asked bytes s text
is_yes question.Check bytes s text b series months valid spelled is = is_text bytes s text b series valid spelled is.0
is_yes question.Audit bytes s text b series months valid spelled is = is_reaches bytes s text b series spelled is.0

pub is_no : (asked : Question) (bytes s text : List ℕ) (b : Basin) (series : Series) (refuted : Refuted) →
    IsValidBasin b →
    AreSpelled bytes s b series → IsAnswerFor asked b series text (Err refuted) → IsRefuted asked refuted bytes s text
is_no asked bytes s text b series refuted valid spelled is =
    record { basin = b; series = series; spelled = spelled; answer = is; no_text = no_yes asked is }
  where
    no_yes : (a : Question) → IsAnswerFor a b series text (Err refuted) → IsYes a bytes s text → ⊥
    no_yes question.Check h = is_no_text bytes s text b series refuted valid spelled h
    no_yes question.Audit h = is_not_audited bytes s text b series refuted valid spelled h

-- The answer to a result, which is read as it is checked.

-- how a check ends that has an answer
pub answer_ends : (asked : Question) (b : Basin) (series : Series) (known : Option (List ℕ))
    (answer : Result ℕ Refuted)
    (how : Ending) (read write : Type 0) →
    IsAnswerTo asked b series known answer → EndsAnswer answer how write →
    EndsChecking asked b series known how read write
answer_ends asked b series known answer ending.WriteFault read write is h = h
answer_ends asked b series known answer other read write is h =
    subst (λ how. EndsChecking asked b series known how read write) (sym h) (by_answer answer is)
  where
    by_answer : (a : Result ℕ Refuted) → IsAnswerTo asked b series known a →
        EndsChecking asked b series known (ending_of a) read write
    by_answer (Ok months) is = (months, is)
    by_answer (Err refuted) is = is

-- and what it leaves, as far as the bytes are known
pub answer_leaves : (asked : Question) (b : Basin) (series : Series) (known : Option (List ℕ))
    (answer : Result ℕ Refuted) (how : Ending) (old new : Output) →
    IsAnswerTo asked b series known answer → Leaves (status_of how) (answered asked answer) old new →
    IfSome known (λ text. MayWrite (status_of how) → LeavesAnswer asked b series text (status_of how) old new)
answer_leaves asked b series known answer how old new is left =
    IfSome_then known is (λ text answers may. record { answer = answer; is = answers; written = left })

-- a failure that came later
pub ends_later : (asked : Question) (b : Basin) (series : Series) (known : Option (List ℕ)) (how : Ending)
    (read later write : Type 0) →
    (read → later) →
    EndsChecking asked b series known how read write → EndsChecking asked b series known how later write
ends_later asked b series known ending.Done read later write since h = h
ends_later asked b series known (ending.Refuted refuted) read later write since h = h
ends_later asked b series known (ending.ReadFault file.Result) read later write since h = since h
ends_later asked b series known ending.WriteFault read later write since h = h
ends_later asked b series known ending.OutOfMemory read later write since h = tt
ends_later asked b series known other read later write since h = absurd h

-- After the files of a check or an audit, the cause of how it ends.
module _ (known : KnownFiles) (files : Files) (b : Basin) (series : Series) (valid : IsValidBasin b)
    (fits : IsSeriesOf b series) (loaded : AreLoaded known files b series) (asked : Question) (result : List ℕ) where
  pub checking_cause : (how : Ending) (read write : Type 0) →
      EndsChecking asked b series (known result) how read write →
      HasCheckingCause asked files result how known read write
  checking_cause ending.Done read write ends = after known files b series fits loaded _ (λ bytes s spelled.
      IfSome_then (known result) ends.1 (λ text good. is_yes asked bytes s text b series ends.0 valid spelled good))
  checking_cause (ending.Refuted refuted) read write ends =
      after known files b series fits loaded _ (λ bytes s spelled.
      IfSome_then (known result) ends (λ text bad. is_no asked bytes s text b series refuted valid spelled bad))
  checking_cause (ending.ReadFault file.Result) read write ends = (ends, accepted known files b series fits loaded)
  checking_cause ending.WriteFault read write ends = (ends, accepted known files b series fits loaded)
  checking_cause ending.OutOfMemory read write ends = tt
  checking_cause other read write ends = absurd ends

  -- and what it leaves on out
  pub checking_writes : (status : Status) (old new : Output) →
      IfSome (known result) (λ text. MayWrite status → LeavesAnswer asked b series text status old new) →
      OfBoth known files
      (λ bytes s. IfSome (known result) (λ text. MayWrite status → WritesAnswer asked status bytes s text old new))
  checking_writes status old new leaves = of_both known files b series fits loaded _ (λ bytes s spelled.
      IfSome_then (known result) leaves (λ text left may.
      record { basin = b; series = series; spelled = spelled; holds = left may }))
