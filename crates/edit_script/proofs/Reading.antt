-- The lines that were read, and those to come.
use Rattle.std.proofs.Common.{◌≡◌, ℕ, ◌+◌, ◌≤◌, Bool, true, false, refl, sym, ap, subst, ◌∙◌, arith, List, [], ◌∷◌}
use Rattle.std.proofs.Common.{◌++◌, length, append_assoc, cond}
use Rattle.std.proofs.lemmas.List.{append-nil}
use Rattle.std.specs.Prelude.{◌==◌, codes, Result, Ok, Err, MatchResult, Vec}
use Rattle.std.specs.List.{slice_split, onto_first}
use Rattle.std.specs.Str.{bytes_eq}
use Rattle.water_model.specs.declared.types.Basin.{Basin}
use Rattle.water_model.specs.declared.types.Series.{Series}
use Rattle.edit_script.specs.Lines.{edit_of}
use Rattle.edit_script.specs.Scripts.{IsRefusalOf, Reading, ended, edits_from, edits_of_lines, in_prefix, lines_of}
use Rattle.edit_script.specs.Scripts.{numbered, script_of}
use Rattle.edit_script.specs.declared.edit.Edit.{Edit}
use Rattle.edit_script.specs.declared.refused.ScriptRefused.{ScriptRefused}
use Rattle.water_text.proofs.Splits.{some_piece}
use Rattle.edit_script.specs.declared.refused.ScriptRefused.TheVariants as refused
use Rattle.edit_script.specs.declared.refused.ScriptFault.TheVariants as fault

-- what was read, and after it the answer to the lines to come
abbrev pub after : List Edit → Reading → Reading
after edits (Ok more) = Ok (edits ++ more)
after edits (Err why) = Err why

pub after_more : (edits : List Edit) (e : Edit) (r : Reading) →
    after edits (in_prefix (Ok e) r) ≡ after (edits ++ e ∷ []) r
after_more edits e (Ok more) = ap (λ (es : List Edit). Ok es) (sym (append_assoc edits (e ∷ []) more))
after_more edits e (Err why) = refl

-- one line that is followed by others
one_line : (b : Basin) (series : Series) (number : ℕ) (line text : List ℕ) → bytes_eq line (codes "done") ≡ false →
    edits_from b series number (line ∷ lines_of text) ≡ in_prefix (numbered number (edit_of b series line))
    (edits_from b series (number + 1) (lines_of text))
unfolding edits_from
one_line b series number line text other =
    let found = some_piece (λ byte. byte == 10) text in
    rw (found.2, other) refl

last_line : (b : Basin) (series : Series) (number : ℕ) (line text : List ℕ) → bytes_eq line (codes "done") ≡ true →
    edits_from b series number (line ∷ lines_of text) ≡ ended [] (number + 1) (lines_of text)
unfolding edits_from
last_line b series number line text done =
    let found = some_piece (λ byte. byte == 10) text in
    rw (found.2, done) refl

-- the whole reading, by what was read, the answer to a line, and what is to come
pub line_taken : (b : Basin) (series : Series) (whole : Reading) (edits : List Edit) (number : ℕ)
    (rest line text : List ℕ) (r : Result Edit ScriptRefused) →
    whole ≡ after edits (edits_from b series number (lines_of rest)) → lines_of rest ≡ line ∷ lines_of text →
    bytes_eq line (codes "done") ≡ false → r ≡ numbered number (edit_of b series line) →
    whole ≡ after edits (in_prefix r (edits_from b series (number + 1) (lines_of text)))
line_taken b series whole edits number rest line text r so_far at other is =
    so_far
    ∙ ap (λ ls. after edits (edits_from b series number ls)) at
    ∙ ap (after edits) (one_line b series number line text other)
    ∙ ap (λ r. after edits (in_prefix r (edits_from b series (number + 1) (lines_of text)))) (sym is)

-- after the last line
ended_after : (edits : List Edit) (number : ℕ) (lines : List (List ℕ)) →
    after edits (ended [] number lines) ≡ ended edits number lines
ended_after edits number [] = refl
ended_after edits number ([] ∷ []) = ap (λ (es : List Edit). Ok es) (append-nil edits)
ended_after edits number ([] ∷ (line ∷ lines)) = refl
ended_after edits number ((c ∷ cs) ∷ lines) = refl

pub end_taken : (b : Basin) (series : Series) (whole : Reading) (edits : List Edit) (number : ℕ)
    (rest line text : List ℕ) →
    whole ≡ after edits (edits_from b series number (lines_of rest)) → lines_of rest ≡ line ∷ lines_of text →
    bytes_eq line (codes "done") ≡ true →
    whole ≡ ended edits (number + 1) (lines_of text)
end_taken b series whole edits number rest line text so_far at done =
    so_far
    ∙ ap (λ ls. after edits (edits_from b series number ls)) at
    ∙ ap (after edits) (last_line b series number line text done)
    ∙ ended_after edits (number + 1) (lines_of text)

-- where no line feed comes any more
pub early_end : (b : Basin) (series : Series) (whole : Reading) (edits : List Edit) (number : ℕ) (rest : List ℕ) →
    whole ≡ after edits (edits_from b series number (lines_of rest)) → lines_of rest ≡ rest ∷ [] →
    whole ≡ Err (refused.Refused fault.EarlyEnd number)
unfolding edits_from
early_end b series whole edits number rest so_far at =
    so_far ∙ ap (λ ls. after edits (edits_from b series number ls)) at

-- bytes after the last line
pub more_after : (edits : List Edit) (number : ℕ) (text : List ℕ) → 1 ≤ length text →
    ended edits number (lines_of text) ≡ Err (refused.Refused fault.AfterEnd number)
more_after edits number [] l = absurd (omega arith)
more_after edits number (c ∷ cs) l =
    by_test (c == 10) (slice_split (λ byte. byte == 10) cs) (some_piece (λ byte. byte == 10) cs)
  where
    by_test : (t : Bool) (parts : List (List ℕ)) → (piece : List ℕ) × (pieces : List (List ℕ)) ×
        (parts ≡ piece ∷ pieces) →
        ended edits number (cond t ([] ∷ parts) (onto_first c parts)) ≡ Err (refused.Refused fault.AfterEnd number)
    by_test true parts found = rw found.2 refl
    by_test false parts found = rw found.2 refl

-- a refusal
pub refusal_of : (whole : Reading) (why : ScriptRefused) → whole ≡ Err why → IsRefusalOf whole why
refusal_of whole refused.OutOfMemory e = tt
refusal_of whole (refused.Refused fault line) e = e

-- what an answer to a part of the reading says of the whole
pub answered : {Z : Type 0} (whole part : Reading) (r : Result (Vec Edit Z) ScriptRefused) → whole ≡ part →
    MatchResult r (λ edits. part ≡ Ok edits.items) (λ why. part ≡ Err why) →
    MatchResult r (λ edits. whole ≡ Ok edits.items) (IsRefusalOf whole)
answered whole part (Ok edits) e h = e ∙ h
answered whole part (Err why) e h = refusal_of whole why (e ∙ h)

-- the first line
pub first_good : (b : Basin) (series : Series) (text first after : List ℕ) → lines_of text ≡ first ∷ lines_of after →
    bytes_eq first (codes "river-edit 1") ≡ true →
    script_of b series text ≡ edits_from b series 2 (lines_of after)
unfolding script_of
first_good b series text first after at good =
    let found = some_piece (λ byte. byte == 10) after in
    ap (edits_of_lines b series) at ∙ rw (found.2, good) refl

pub first_bad : (b : Basin) (series : Series) (text first after : List ℕ) → lines_of text ≡ first ∷ lines_of after →
    bytes_eq first (codes "river-edit 1") ≡ false →
    script_of b series text ≡ Err (refused.Refused fault.BadLine 1)
unfolding script_of
first_bad b series text first after at bad =
    let found = some_piece (λ byte. byte == 10) after in
    ap (edits_of_lines b series) at ∙ rw (found.2, bad) refl

pub no_first : (b : Basin) (series : Series) (text : List ℕ) → lines_of text ≡ text ∷ [] →
    script_of b series text ≡ Err (refused.Refused fault.EarlyEnd 1)
unfolding script_of
no_first b series text at = ap (edits_of_lines b series) at

-- an answer that is passed on
pub given_on : {Z : Type 0} (whole part : Reading) (r : Result (Vec Edit Z) ScriptRefused) → whole ≡ part →
    MatchResult r (λ edits. part ≡ Ok edits.items) (IsRefusalOf part) →
    MatchResult r (λ edits. whole ≡ Ok edits.items) (IsRefusalOf whole)
given_on whole part r e h =
    subst (λ (x : Reading). MatchResult r (λ edits. x ≡ Ok edits.items) (IsRefusalOf x)) (sym e) h
