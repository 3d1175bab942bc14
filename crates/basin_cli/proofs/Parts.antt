-- A result that is read in parts: what a checker was given so far, and what is answered at the end.
use Rattle.std.proofs.Common.{◌≡◌, ℕ, ◌+◌, ◌<◌, ◌≤◌, ap, subst, sym, inl, ◌∙◌, List, ◌++◌, length, take, drop}
use Rattle.std.proofs.Common.{Option, Some, None, append_assoc, take-append-drop}
use Rattle.std.specs.Prelude.{IfSome, Result, Err}
use Rattle.std.proofs.Math.Seq.{take-add}
use Rattle.std.proofs.lemmas.List.{take_all}
use Rattle.cert_check.specs.Pieces.{IsAudit, PiecesView, StandsForText}
use Rattle.cert_check.specs.Whole.{text_verdict}
use Rattle.cert_check.specs.declared.refuted.Refuted.{Refuted}
use Rattle.water_edge.specs.Edge.{IsPart}
use Rattle.water_model.specs.declared.types.Basin.{Basin}
use Rattle.water_model.specs.declared.types.Series.{Series}
use Rattle.basin_cli.specs.Answer.{CanAnswer, IsAnswerFor, IsAnswerTo}
use Rattle.basin_cli.specs.declared.checking.Question.{Question}
use Rattle.basin_cli.specs.declared.checking.Question.TheVariants as question

-- the checker was given the first bytes of the whole, and none of their lines is at fault
pub record IsFed (c : PiecesView) (from : ℕ) (whole : List ℕ) : Type 0 where
  pub within : from ≤ length whole
  pub stands : StandsForText c (take from whole)

-- and so it is after one part more
pub next_fed : (known : Option (List ℕ)) (c after : PiecesView) (from count : ℕ) (old new : List ℕ) → 0 < count →
    IfSome known (IsFed c from) →
    IfSome known (λ whole. IsPart whole from old new count) →
    ((text : List ℕ) → StandsForText c text → StandsForText after (text ++ take count new)) →
    IfSome known (IsFed after (from + count))
next_fed None c after from count old new some fed part stands = tt
next_fed (Some whole) c after from count old new some fed part stands = record {
  within = part.there some;
  stands = subst (StandsForText after)
      (ap (λ xs. take from whole ++ xs) part.prefix ∙ sym (take-add from count whole))
      (stands (take from whole) fed.stands);
}

-- a refusal by the verdict is one by a check and by an audit
refusal_for : (asked : Question) (b : Basin) (series : Series) (text : List ℕ) (e : Refuted) →
    text_verdict b series text ≡ Err e → IsAnswerFor asked b series text (Err e)
refusal_for question.Check b series text e is = is
refusal_for question.Audit b series text e is = inl is

-- a checker that can answer can do so after more of a text
pub still_can : (asked : Question) (c after : PiecesView) → (IsAudit c → IsAudit after) → CanAnswer asked c →
    CanAnswer asked after
still_can question.Check c after stays can = can
still_can question.Audit c after stays can = stays can

-- A part is refused, and so is the whole, whatever follows.
pub refused_whole : (asked : Question) (known : Option (List ℕ)) (c : PiecesView) (from count : ℕ) (old new : List ℕ)
    (e : Refuted) →
    IfSome known (IsFed c from) →
    IfSome known (λ whole. IsPart whole from old new count) →
    ((text : List ℕ) → StandsForText c text → (rest : List ℕ) →
    text_verdict c.basin c.series (text ++ take count new ++ rest) ≡ Err e) →
    IsAnswerTo asked c.basin c.series known (Err e)
refused_whole asked None c from count old new e fed part refused = tt
refused_whole asked (Some whole) c from count old new e fed part refused =
    refusal_for asked c.basin c.series whole e
    (subst (λ text. text_verdict c.basin c.series text ≡ Err e) together (refused (take from whole) fed.stands rest))
  where
    rest : List ℕ
    rest = drop count (drop from whole)

    together : take from whole ++ take count new ++ rest ≡ whole
    together =
        append_assoc (take from whole) (take count new) rest
        ∙ (ap (λ xs. take from whole ++ (xs ++ rest)) part.prefix
        ∙ (ap (λ xs. take from whole ++ xs) (take-append-drop count (drop from whole))
        ∙ take-append-drop from whole))

-- No byte is left.
pub finished_whole : (asked : Question) (known : Option (List ℕ)) (c : PiecesView) (from count : ℕ) (old new : List ℕ)
    (answer : Result ℕ Refuted) → count ≡ 0 →
    0 < length old → IfSome known (IsFed c from) → IfSome known (λ whole. IsPart whole from old new count) →
    ((text : List ℕ) → StandsForText c text → IsAnswerFor asked c.basin c.series text answer) →
    IsAnswerTo asked c.basin c.series known answer
finished_whole asked None c from count old new answer none room fed part answers = tt
finished_whole asked (Some whole) c from count old new answer none room fed part answers =
    subst (λ text. IsAnswerFor asked c.basin c.series text answer)
    (take_all from whole (part.ended none room))
    (answers (take from whole) fed.stands)
