-- The verdict on the pieces of a text, one after the other.
use Rattle.std.proofs.Common.{◌≡◌, ℕ, ◌+◌, ◌-◌, ◌<◌, ◌≤◌, Bool, true, false, refl, ap, ◌∙◌, arith, List, [], ◌∷◌, ◌++◌}
use Rattle.std.proofs.Common.{length, take, length-append}
use Rattle.std.specs.Prelude.{Ok, Err, nat_lt, slice_index_or, if◌then◌else◌}
use Rattle.std.proofs.Math.Seq.{take-append_seam, take-append-add}
use Rattle.std.proofs.lemmas.Bool.Decides.{nat_tests}
use Rattle.result_lines.specs.declared.item.Item.{Item}
use Rattle.water_model.specs.declared.types.Basin.{Basin}
use Rattle.water_model.specs.declared.types.Series.{Series}
use Rattle.cert_check.specs.Checking.{ok_then, verdict, verdict_at_end, verdict_from}
use Rattle.cert_check.specs.Whole.{pieces_of, after_last, is_line, lines_of_pieces, rest_of_pieces, text_verdict}
use Rattle.cert_check.specs.declared.refuted.Refuted.{Refuted}

-- A refusal stands, whatever lines come after.

refused : (b : Basin) (series : Series) (before : List Item) (xs ys : List (List ℕ)) {e : Refuted} →
    verdict_from b series before xs ≡ Err e → verdict_from b series before (xs ++ ys) ≡ Err e
refused b series before [] ys {e} h = let never : Ok before ≡ Err e = h in cc
refused b series before (x ∷ xs) ys {e} h =
    (let further = λ (i : Item). refused b series (before ++ i ∷ []) xs ys {e = e} in grind arith)

pub refused_text : (b : Basin) (series : Series) (xs ys : List (List ℕ)) (rest : List ℕ) {e : Refuted} →
    verdict_from b series [] xs ≡ Err e → verdict b series (xs ++ ys) rest ≡ Err e
refused_text b series xs ys rest h = ap (ok_then (verdict_at_end rest)) (refused b series [] xs ys h)

-- The last piece is the rest.

one_less : {X : Type 0} (xs : List X) (x : X) → length (xs ++ x ∷ []) - 1 ≡ length xs
one_less xs x = omega (arith, length-append xs (x ∷ []))

last_is : (xs : List (List ℕ)) (x : List ℕ) → slice_index_or (xs ++ x ∷ []) (length xs) [] ≡ x
last_is [] x = refl
last_is (y ∷ ys) x = last_is ys x

pub after_last-end : (xs : List (List ℕ)) (x : List ℕ) → after_last (xs ++ x ∷ []) ≡ x
after_last-end xs x = ap (λ n. slice_index_or (xs ++ x ∷ []) n []) (one_less xs x) ∙ last_is xs x

prefix-end : (xs : List (List ℕ)) (x : List ℕ) → take (length (xs ++ x ∷ []) - 1) (xs ++ x ∷ []) ≡ xs
prefix-end xs x = ap (λ n. take n (xs ++ x ∷ [])) (one_less xs x) ∙ take-append_seam xs (x ∷ [])

-- a rest that counts as a line
pub long_rest : (b : Basin) (series : Series) (lines : List (List ℕ)) (rest : List ℕ) → 128 < length rest →
    verdict b series (lines_of_pieces (lines ++ rest ∷ [])) (rest_of_pieces (lines ++ rest ∷ [])) ≡ verdict b series
    (lines ++ rest ∷ []) []
long_rest b series lines rest h =
    let long : is_line (after_last (lines ++ rest ∷ [])) ≡ true =
    ap is_line (after_last-end lines rest) ∙ passes (length rest) h in
    rw long refl
  where
    passes : (n : ℕ) → 128 < n → nat_lt 128 n ≡ true
    passes n h = grind (arith, nat_tests)

-- and one that doesn't
pub short_rest : (b : Basin) (series : Series) (lines : List (List ℕ)) (rest : List ℕ) → length rest ≤ 128 →
    verdict b series (lines_of_pieces (lines ++ rest ∷ [])) (rest_of_pieces (lines ++ rest ∷ [])) ≡ verdict b series
    lines rest
short_rest b series lines rest h =
    let short : is_line (after_last (lines ++ rest ∷ [])) ≡ false =
    ap is_line (after_last-end lines rest) ∙ fails (length rest) h in
    rw (short, prefix-end lines rest, after_last-end lines rest) refl
  where
    fails : (n : ℕ) → n ≤ 128 → nat_lt 128 n ≡ false
    fails n h = grind (arith, nat_tests)

-- the pieces before others are lines
prefix_lines : (prefix more : List (List ℕ)) → 0 < length more → (after : List (List ℕ)) ×
    (lines_of_pieces (prefix ++ more) ≡ prefix ++ after)
prefix_lines prefix more some = by_test (is_line (after_last (prefix ++ more)))
  where
    cut : take (length (prefix ++ more) - 1) (prefix ++ more) ≡ prefix ++ take (length more - 1) more
    cut =
        let position : length (prefix ++ more) - 1 ≡ length prefix + (length more - 1) =
        omega (arith, length-append prefix more) in
        ap (λ n. take n (prefix ++ more)) position ∙ take-append-add prefix more (length more - 1)

    by_test : (t : Bool) → (after : List (List ℕ)) ×
        ((if t then prefix ++ more else take (length (prefix ++ more) - 1) (prefix ++ more)) ≡ prefix ++ after)
    by_test true = (more, refl)
    by_test false = (take (length more - 1) more, cut)

-- a text is refused where lines in its prefix are
pub prefix_refused : (b : Basin) (series : Series) (bytes : List ℕ) (prefix more : List (List ℕ)) {e : Refuted} →
    pieces_of bytes ≡ prefix ++ more → 0 < length more → verdict_from b series [] prefix ≡ Err e →
    text_verdict b series bytes ≡ Err e
prefix_refused b series bytes prefix more is some h =
    let lines = prefix_lines prefix more some in
    ap (λ ls. verdict b series ls (rest_of_pieces (pieces_of bytes))) (ap lines_of_pieces is ∙ lines.1)
    ∙ refused_text b series prefix lines.0 (rest_of_pieces (pieces_of bytes)) h
