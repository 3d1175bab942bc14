-- What a yes says.
use Rattle.std.specs.Prelude.{◌≡◌, ◌↔◌, ℕ, List, [], map, Result, Ok, Err, IsOk}
use Rattle.water_model.specs.History.{IsHistory}
use Rattle.result_lines.specs.Spelling.{line_of}
use Rattle.result_lines.specs.Text.{items_of, text_bytes}
use Rattle.water_model.specs.Valid.{IsValidBasin, IsSeriesOf}
use Rattle.result_lines.specs.declared.item.Item.{Item}
use Rattle.water_model.specs.declared.types.Basin.{Basin}
use Rattle.water_model.specs.declared.types.Series.{Series}
use Rattle.water_model.specs.declared.types.MonthRecord.{MonthRecord}
use Rattle.cert_check.specs.Audit.{IsAuditAnswer, IsAuditedText, IsOtherText}
use Rattle.cert_check.specs.Checking.{verdict}
use Rattle.cert_check.specs.Whole.{text_verdict}
use Rattle.cert_check.specs.declared.refuted.Refuted.{Refuted}
use Rattle.cert_check.specs.declared.refuted.RefutedKind.TheVariants as kind

-- A history gives a yes. The text of each history is accepted, whoever wrote it and whatever tight cuts it shows.
abbrev pub HistoriesGiveYes : Type 0
HistoriesGiveYes =
    (b : Basin) (series : Series) (records : List MonthRecord) → IsValidBasin b → IsSeriesOf b series →
    IsHistory b series records →
    verdict b series (map (line_of b) (items_of b records)) [] ≡ Ok (items_of b records)

-- A yes gives a history. The lines of a text that is accepted are those of a history, and nothing stands after them.
abbrev pub YesGivesHistory : Type 0
YesGivesHistory =
    (b : Basin) (series : Series) (lines : List (List ℕ)) (rest : List ℕ) (items : List Item) → IsValidBasin b →
    verdict b series lines rest ≡ Ok items →
    (records : List MonthRecord) × IsHistory b series records × (lines ≡ map (line_of b) (items_of b records)) ×
    (rest ≡ [])
    × (items ≡ items_of b records)

-- A yes comes exactly for histories. Bytes are accepted where they are, byte for byte, the text of a history of the
-- basin and its series, and nowhere else.
abbrev pub YesExactlyForHistories : Type 0
YesExactlyForHistories =
    (b : Basin) (series : Series) (bytes : List ℕ) → IsValidBasin b → IsSeriesOf b series →
    IsOk (text_verdict b series bytes)
    ↔ ((records : List MonthRecord) × IsHistory b series records × (bytes ≡ text_bytes b records))

-- An audit says yes exactly for reaches. Its answer is a number of months where the bytes are the text of a history
-- whose sets are the reaches, and nowhere else.
abbrev pub AuditedExactlyForReaches : Type 0
AuditedExactlyForReaches =
    (b : Basin) (series : Series) (bytes : List ℕ) (answer : Result ℕ Refuted) → IsValidBasin b → IsSeriesOf b series →
    IsAuditAnswer b series bytes answer → IsOk answer ↔ IsAuditedText b series bytes

-- An audit has one answer. All answers of an audit of the same bytes are the same: a yes, or one line and kind.
abbrev pub AuditsHaveOneAnswer : Type 0
AuditsHaveOneAnswer =
    (b : Basin) (series : Series) (bytes : List ℕ) (one other : Result ℕ Refuted) → IsValidBasin b →
    IsSeriesOf b series → IsAuditAnswer b series bytes one → IsAuditAnswer b series bytes other → one ≡ other

-- An audit refutes a text for a set only where the text is that of a history: then it names the first `call` line whose
-- right's set isn't its reach.
abbrev pub NotReachNamesOtherSets : Type 0
NotReachNamesOtherSets =
    (b : Basin) (series : Series) (bytes : List ℕ) (refused : Refuted) → IsAuditAnswer b series bytes (Err refused) →
    refused.kind ≡ kind.NotReach → IsOtherText b series bytes refused
