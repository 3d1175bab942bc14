-- The answer to a checked text.
use Rattle.std.specs.Prelude.{◌≡◌, ℕ, ◌++◌, List, codes, Option, IfSome, Result, Ok, Err, ⊤}
use Rattle.std.specs.Fmt.{decimal}
use Rattle.water_edge.specs.Edge.{Output}
use Rattle.cert_check.specs.Audit.{IsAuditAnswer}
use Rattle.cert_check.specs.KindNames.{kind_name}
use Rattle.cert_check.specs.Pieces.{IsAudit, PiecesView}
use Rattle.cert_check.specs.Standing.{IsAnswer}
use Rattle.cert_check.specs.Whole.{text_verdict}
use Rattle.cert_check.specs.declared.refuted.Refuted.{Refuted}
use Rattle.water_model.specs.declared.types.Basin.{Basin}
use Rattle.water_model.specs.declared.types.Series.{Series}
use Rattle.basin_cli.specs.declared.checking.Question.{Question}
use Rattle.basin_cli.specs.declared.checking.Question.TheVariants as question
use Rattle.basin_cli.specs.declared.ending.Ending.{Ending}
use Rattle.basin_cli.specs.declared.ending.Ending.TheVariants as ending
use Rattle.basin_cli.specs.declared.status.Status.{Status}
use Rattle.basin_cli.specs.Out.{Leaves}

-- the word of a yes
unfoldable pub yes_word : Question → List ℕ
yes_word question.Check = codes "checked "
yes_word question.Audit = codes "audited "

-- checked MONTHS or audited MONTHS, or refuted LINE KIND
unfoldable pub answered : Question → Result ℕ Refuted → List ℕ
answered asked (Ok months) = yes_word asked ++ decimal months ++ codes "\n"
answered asked (Err refuted) =
    codes "refuted " ++ decimal refuted.line ++ codes " " ++ kind_name refuted.kind ++ codes "\n"

-- the answer to some bytes is that of a check, by the verdict on them, or that of an audit
abbrev pub IsAnswerFor : Question → Basin → Series → List ℕ → Result ℕ Refuted → Type 0
IsAnswerFor question.Check b series text answer = IsAnswer b answer (text_verdict b series text)
IsAnswerFor question.Audit b series text answer = IsAuditAnswer b series text answer

-- and so of a text, where its bytes are known
abbrev pub IsAnswerTo : Question → Basin → Series → Option (List ℕ) → Result ℕ Refuted → Type 0
IsAnswerTo asked b series known answer = IfSome known (λ text. IsAnswerFor asked b series text answer)

-- a checker can answer the question: for an audit it was opened as one
abbrev pub CanAnswer : Question → PiecesView → Type 0
CanAnswer question.Check checker = ⊤
CanAnswer question.Audit checker = IsAudit checker

-- the answer to some bytes is put, or a prefix of its line
pub record LeavesAnswer (asked : Question) (b : Basin) (series : Series) (text : List ℕ) (status : Status)
    (old new : Output) : Type 0 where
  pub answer : Result ℕ Refuted
  pub is : IsAnswerFor asked b series text answer
  pub written : Leaves status (answered asked answer) old new

-- how a check with this answer ends, unless its line can't be written
abbrev pub ending_of : Result ℕ Refuted → Ending
ending_of (Ok months) = ending.Done
ending_of (Err refuted) = ending.Refuted refuted

abbrev pub EndsAnswer : Result ℕ Refuted → Ending → Type 0 → Type 0
EndsAnswer answer ending.WriteFault write = write
EndsAnswer answer how write = how ≡ ending_of answer
