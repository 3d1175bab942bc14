-- A text that comes in pieces: its lines with one more piece, and what is refused whatever follows.
use Rattle.std.proofs.Common.{◌≡◌, ℕ, ◌+◌, ◌<◌, ◌≤◌, Bool, true, false, refl, sym, ap, ◌∙◌, arith, inl, inr, List, []}
use Rattle.std.proofs.Common.{◌∷◌, ◌++◌, length, take, drop, length-append, append_assoc, take-append-drop, subst}
use Rattle.std.specs.Prelude.{Option, Some, None, Result, Ok, Err, IsOk, nat_lt, not, slice_range, if◌then◌else◌}
use Rattle.std.specs.List.{onto_first}
use Rattle.std.proofs.Math.Seq.{take-add, take-append-add}
use Rattle.std.proofs.lemmas.Bool.Decides.{nat_tests}
use Rattle.std.proofs.lemmas.List.{take_all, take_rest}
use Rattle.std.proofs.lemmas.List.Splits.{length-slice_split, slice_split-cons_yes, slice_split-cons_no}
use Rattle.std.proofs.lemmas.List.Splits.{slice_split_none, slice_split_at}
use Rattle.water_text.specs.LinesIn.{LineHeld, Takes, TakesAll, TakesToFeed, TakesToFull, is_feed, nothing_held}
use Rattle.result_lines.specs.declared.item.Item.{Item}
use Rattle.water_model.specs.declared.types.Basin.{Basin}
use Rattle.water_model.specs.declared.types.Series.{Series}
use Rattle.result_reader.specs.Reading.{item_of, read_line}
use Rattle.result_reader.specs.declared.bad_line.BadLine.TheVariants as bad
use Rattle.cert_check.specs.Checking.{judge, is_whole, ok_then, verdict, verdict_at_end, verdict_from}
use Rattle.cert_check.specs.Pieces.{AreGiven}
use Rattle.cert_check.specs.Standing.{CheckerView, IsAnswer, CheckerStandsFor}
use Rattle.cert_check.specs.Whole.{pieces_of, lines_of_pieces, rest_of_pieces, text_verdict}
use Rattle.cert_check.specs.declared.refuted.Refuted.{Refuted}
use Rattle.cert_check.specs.declared.refuted.RefutedKind.TheVariants as kind
use Rattle.cert_check.proofs.Standings.{good_is, judged_bad, judged_ended, line_judged, refusal_is}
use Rattle.cert_check.proofs.TextVerdicts.{prefix_refused, long_rest, short_rest}

-- The pieces of two texts, one after the other: the last of the first goes on in the first of the second.

abbrev pub glued : List ℕ → List (List ℕ) → List (List ℕ)
glued last [] = last ∷ []
glued last (piece ∷ pieces) = (last ++ piece) ∷ pieces

abbrev joined : List (List ℕ) → List (List ℕ) → List (List ℕ)
joined [] others = others
joined (piece ∷ []) others = glued piece others
joined (piece ∷ next ∷ pieces) others = piece ∷ joined (next ∷ pieces) others

pub some_pieces : (bytes : List ℕ) → 0 < length (pieces_of bytes)
some_pieces bytes = omega (arith, length-slice_split is_feed bytes)

pub glued-nothing : (pieces : List (List ℕ)) → 0 < length pieces → pieces ≡ glued [] pieces
glued-nothing [] some = absurd (omega arith)
glued-nothing (piece ∷ pieces) some = refl

joined-cons : (piece : List ℕ) (pieces others : List (List ℕ)) → 0 < length pieces →
    piece ∷ joined pieces others ≡ joined (piece ∷ pieces) others
joined-cons piece [] others some = absurd (omega arith)
joined-cons piece (next ∷ pieces) others some = refl

joined-onto : (byte : ℕ) (pieces others : List (List ℕ)) → 0 < length pieces →
    onto_first byte (joined pieces others) ≡ joined (onto_first byte pieces) others
joined-onto byte [] others some = absurd (omega arith)
joined-onto byte (piece ∷ []) [] some = refl
joined-onto byte (piece ∷ []) (other ∷ others) some = refl
joined-onto byte (piece ∷ next ∷ pieces) others some = refl

pieces_both : (xs ys : List ℕ) → pieces_of (xs ++ ys) ≡ joined (pieces_of xs) (pieces_of ys)
pieces_both [] ys = glued-nothing (pieces_of ys) (some_pieces ys)
pieces_both (x ∷ xs) ys = by_feed (is_feed x) refl (pieces_both xs ys)
  where
    by_feed : (t : Bool) → is_feed x ≡ t → pieces_of (xs ++ ys) ≡ joined (pieces_of xs) (pieces_of ys) →
        pieces_of (x ∷ (xs ++ ys)) ≡ joined (pieces_of (x ∷ xs)) (pieces_of ys)
    by_feed true e later = slice_split-cons_yes is_feed x (xs ++ ys) e ∙ (ap (λ ps. [] ∷ ps) later
        ∙ (joined-cons [] (pieces_of xs) (pieces_of ys) (some_pieces xs)
        ∙ ap (λ ps. joined ps (pieces_of ys)) (sym (slice_split-cons_yes is_feed x xs e))))
    by_feed false e later = slice_split-cons_no is_feed x (xs ++ ys) e ∙ (ap (onto_first x) later
        ∙ (joined-onto x (pieces_of xs) (pieces_of ys) (some_pieces xs)
        ∙ ap (λ ps. joined ps (pieces_of ys)) (sym (slice_split-cons_no is_feed x xs e))))

joined-end : (lines : List (List ℕ)) (last : List ℕ) (others : List (List ℕ)) →
    joined (lines ++ last ∷ []) others ≡ lines ++ glued last others
joined-end [] last others = refl
joined-end (line ∷ []) last others = refl
joined-end (line ∷ next ∷ lines) last others = ap (λ ps. line ∷ ps) (joined-end (next ∷ lines) last others)

-- the pieces of a text with more bytes after it
pub pieces_more : (text more : List ℕ) (lines : List (List ℕ)) (held : List ℕ) → pieces_of text ≡ lines ++ held ∷ [] →
    pieces_of (text ++ more) ≡ lines ++ glued held (pieces_of more)
pieces_more text more lines held h =
    pieces_both text more ∙ (ap (λ ps. joined ps (pieces_of more)) h ∙ joined-end lines held (pieces_of more))

-- Lines of more than 128 bytes are all judged alike.

long_read : (b : Basin) (items : List Item) (bytes : List ℕ) → 128 < length bytes →
    read_line b items bytes ≡ Err bad.OverLong
unfolding item_of read_line
long_read b items bytes h =
    let long : nat_lt 128 (length bytes) ≡ true = passes (length bytes) h in rw long refl
  where
    passes : (n : ℕ) → 128 < n → nat_lt 128 n ≡ true
    passes n h = grind (arith, nat_tests)

-- what a text is refused for after good lines, where the next is such a line
abbrev long_refusal : List Item → Refuted
long_refusal items = record {
  line = length items + 1;
  kind = if is_whole items then kind.AfterEnd else kind.BadLine;
}

long_judged : (b : Basin) (series : Series) (items : List Item) (bytes : List ℕ) → 128 < length bytes →
    judge b series items bytes ≡ Err (long_refusal items)
long_judged b series items bytes long =
    (let read = long_read b items bytes long in grind (arith, judged_ended, judged_bad))

long_verdict : (b : Basin) (series : Series) (lines : List (List ℕ)) (bytes : List ℕ) {items : List Item} →
    verdict_from b series [] lines ≡ Ok items → 128 < length bytes →
    verdict_from b series [] (lines ++ bytes ∷ []) ≡ Err (long_refusal items)
long_verdict b series lines bytes {items} good long =
    line_judged b series lines bytes good (long_judged b series items bytes long)

-- A text with such a line in it is refused where its prefix is, though the line may go on.
long_prefix : (b : Basin) (series : Series) (bytes : List ℕ) (lines : List (List ℕ)) (long : List ℕ)
    (others : List (List ℕ)) {e : Refuted} → pieces_of bytes ≡ lines ++ long ∷ others → 128 < length long →
    verdict_from b series [] (lines ++ long ∷ []) ≡ Err e → text_verdict b series bytes ≡ Err e
long_prefix b series bytes lines long [] is more h =
    ap (λ ps. verdict b series (lines_of_pieces ps) (rest_of_pieces ps)) is
    ∙ (long_rest b series lines long more ∙ ap (ok_then (verdict_at_end [])) h)
long_prefix b series bytes lines long (other ∷ others) {e} is more h =
    prefix_refused b series bytes (lines ++ long ∷ []) (other ∷ others)
    (is ∙ sym (append_assoc lines (long ∷ []) (other ∷ others))) (omega arith) h

-- What a checker was given, with the prefix of a piece more.

-- nothing so far
pub nothing_given : {c : CheckerView} → CheckerStandsFor c [] → AreGiven c nothing_held []
nothing_given {c} stands = record {
  lines = [];
  stands = stands;
  good = by_refused c.refused refl;
  pieces = refl;
  short = omega arith;
}
  where
    by_refused : (o : Option Refuted) → c.refused ≡ o → c.refused ≡ None
    by_refused None is = is
    by_refused (Some e) is = let never : Ok [] ≡ Err e = refusal_is c [] is stands in cc

-- bytes that end no line
pub all_given : {c : CheckerView} {line after : LineHeld} {text piece : List ℕ} {taken : ℕ} → AreGiven c line text →
    TakesAll line.bytes after.bytes piece taken → AreGiven c after (text ++ take taken piece)
all_given {c} {line} {after} {text} {piece} {taken} given takes = record {
  lines = given.lines;
  stands = given.stands;
  good = given.good;
  pieces = ap (λ xs. pieces_of (text ++ xs)) (take_all taken piece (omega (arith, takes.all)))
      ∙ (pieces_more text piece given.lines line.bytes given.pieces
      ∙ (ap (λ ps. given.lines ++ glued line.bytes ps) (slice_split_none is_feed piece takes.no_feed)
      ∙ ap (λ held. given.lines ++ held ∷ []) (sym takes.held)));
  short = takes.short;
}

-- what is taken up to a line feed
to_feed : (old new piece : List ℕ) (taken : ℕ) (t : TakesToFeed old new piece taken) →
    take taken piece ≡ t.before ++ 10 ∷ []
to_feed old new piece taken t = ap (take taken) t.ended ∙ (ap (λ n. take n (t.before ++ 10 ∷ drop taken piece)) t.count
    ∙ take-append-add t.before (10 ∷ drop taken piece) 1)

-- no more than there is
pub to_feed_within : {old new piece : List ℕ} {taken : ℕ} → TakesToFeed old new piece taken → taken ≤ length piece
to_feed_within {piece = piece} {taken} t =
    omega (arith, t.count, ap length t.ended, length-append t.before (10 ∷ drop taken piece))

-- bytes that end a line
line_given : {c after : CheckerView} {line : LineHeld} {text bytes piece : List ℕ} {taken : ℕ} → AreGiven c line text →
    TakesToFeed line.bytes bytes piece taken →
    ((lines : List (List ℕ)) → CheckerStandsFor c lines → CheckerStandsFor after (lines ++ bytes ∷ [])) →
    after.refused ≡ None → AreGiven after nothing_held (text ++ take taken piece)
line_given {c} {after} {line} {text} {bytes} {piece} {taken} given takes stands good = record {
  lines = given.lines ++ bytes ∷ [];
  stands = stands given.lines given.stands;
  good = good;
  pieces = ap (λ xs. pieces_of (text ++ xs)) (to_feed line.bytes bytes piece taken takes)
      ∙ (pieces_more text (takes.before ++ 10 ∷ []) given.lines line.bytes given.pieces
      ∙ (ap (λ ps. given.lines ++ glued line.bytes ps) (slice_split_at is_feed takes.before 10 [] takes.no_feed refl)
      ∙ (ap (λ held. given.lines ++ held ∷ [] ∷ []) (sym takes.held)
      ∙ sym (append_assoc given.lines (bytes ∷ []) ([] ∷ [])))));
  short = omega arith;
}

-- The line that is ended is at fault.
line_refused : {c : CheckerView} {line : LineHeld} {text bytes piece : List ℕ} {taken : ℕ} {e : Refuted} →
    AreGiven c line text → TakesToFeed line.bytes bytes piece taken →
    ((lines : List (List ℕ)) → CheckerStandsFor c lines → verdict_from c.basin c.series [] (lines ++ bytes ∷ []) ≡ Err
    e) → (more : List ℕ) → text_verdict c.basin c.series (text ++ piece ++ more) ≡ Err e
line_refused {c} {line} {text} {bytes} {piece} {taken} {e} given takes answer more =
    prefix_refused c.basin c.series (text ++ piece ++ more) (given.lines ++ bytes ∷ []) (pieces_of later)
    (ap pieces_of (append_assoc text piece more) ∙ (pieces_more text (piece ++ more) given.lines line.bytes given.pieces
    ∙ (ap (λ ps. given.lines ++ glued line.bytes ps) cut
    ∙ (ap (λ held. given.lines ++ held ∷ pieces_of later) (sym takes.held)
    ∙ sym (append_assoc given.lines (bytes ∷ []) (pieces_of later))))))
    (some_pieces later) (answer given.lines given.stands)
  where
    later : List ℕ
    later = drop taken piece ++ more

    cut : pieces_of (piece ++ more) ≡ takes.before ∷ pieces_of later
    cut = ap (λ xs. pieces_of (xs ++ more)) takes.ended
        ∙ (ap pieces_of (append_assoc takes.before (10 ∷ drop taken piece) more)
        ∙ slice_split_at is_feed takes.before 10 later takes.no_feed refl)

-- the items of the lines so far, none of which is at fault
good_items : (c : CheckerView) (lines : List (List ℕ)) → CheckerStandsFor c lines → c.refused ≡ None →
    (items : List Item) × (verdict_from c.basin c.series [] lines ≡ Ok items)
good_items c lines stands good = let progress = good_is good stands in (progress.items, progress.verdict)

-- A line that is too long is never taken.
long_taken : {c : CheckerView} {line : LineHeld} {text bytes piece : List ℕ} {taken : ℕ} → AreGiven c line text →
    TakesToFull line.bytes bytes piece taken → ((lines : List (List ℕ)) → CheckerStandsFor c lines → IsOk
    (verdict_from c.basin c.series [] (lines ++ bytes ∷ []))) → ⊥
long_taken {c} {line} {text} {bytes} given takes answer =
    let good = good_items c given.lines given.stands given.good in
    never (verdict_from c.basin c.series [] (given.lines ++ bytes ∷ [])) (long_refusal good.0)
    (answer given.lines given.stands)
    (long_verdict c.basin c.series given.lines bytes good.1 (omega (arith, takes.full)))
  where
    never : (r : Result (List Item) Refuted) (e : Refuted) → IsOk r → r ≡ Err e → ⊥
    never (Ok items) e ok is = cc
    never (Err other) e ok is = cc

-- It is refused, and so is each text in which it goes on.
long_refused : {c : CheckerView} {line : LineHeld} {text bytes piece : List ℕ} {taken : ℕ} {e : Refuted} →
    AreGiven c line text → TakesToFull line.bytes bytes piece taken →
    ((lines : List (List ℕ)) → CheckerStandsFor c lines → verdict_from c.basin c.series [] (lines ++ bytes ∷ []) ≡ Err
    e) → (more : List ℕ) → text_verdict c.basin c.series (text ++ piece ++ more) ≡ Err e
long_refused {c} {line} {text} {bytes} {piece} {taken} {e} given takes answer more =
    by_pieces (pieces_of later) refl (some_pieces later)
  where
    prefix : List ℕ
    prefix = take taken piece

    later : List ℕ
    later = drop taken piece ++ more

    cut : pieces_of (piece ++ more) ≡ glued prefix (pieces_of later)
    cut = ap (λ xs. pieces_of (xs ++ more)) (sym (take-append-drop taken piece))
        ∙ (ap pieces_of (append_assoc prefix (drop taken piece) more)
        ∙ pieces_more prefix later [] prefix (slice_split_none is_feed prefix takes.no_feed))

    by_pieces : (ps : List (List ℕ)) → pieces_of later ≡ ps → 0 < length ps →
        text_verdict c.basin c.series (text ++ piece ++ more) ≡ Err e
    by_pieces [] is some = absurd (omega arith)
    by_pieces (next ∷ others) is some =
        let good = good_items c given.lines given.stands given.good in
        let held : line.bytes ++ (prefix ++ next) ≡ bytes ++ next =
        sym (append_assoc line.bytes prefix next) ∙ ap (λ xs. xs ++ next) (sym takes.held) in
        let longer : 128 < length (bytes ++ next) = omega (arith, takes.full, length-append bytes next) in
        long_prefix c.basin c.series (text ++ piece ++ more) given.lines (bytes ++ next) others
        (ap pieces_of (append_assoc text piece more)
        ∙ (pieces_more text (piece ++ more) given.lines line.bytes given.pieces
        ∙ (ap (λ ps. given.lines ++ glued line.bytes ps) (cut ∙ ap (glued prefix) is)
        ∙ ap (λ line. given.lines ++ line ∷ others) held))) longer
        (long_verdict c.basin c.series given.lines (bytes ++ next) good.1 longer
        ∙ (sym (long_verdict c.basin c.series given.lines bytes good.1 (omega (arith, takes.full)))
        ∙ answer given.lines given.stands))

-- Whether a line is whole.

pub not_whole : (whole : Bool) {old new piece : List ℕ} {taken : ℕ} → not whole ≡ true →
    Takes whole old new piece taken → TakesAll old new piece taken
not_whole true e takes = cc
not_whole false e takes = takes

pub ended : (whole : Bool) {old new piece : List ℕ} {taken : ℕ} → not whole ≡ false → Takes whole old new piece taken →
    Takes true old new piece taken
ended true e takes = takes
ended false e takes = cc

-- A line that is whole: a line feed ended it, or it is too long.

pub ended_given : {c after : CheckerView} {line : LineHeld} {text bytes piece : List ℕ} {taken : ℕ} →
    AreGiven c line text → Takes true line.bytes bytes piece taken →
    ((lines : List (List ℕ)) → CheckerStandsFor c lines → CheckerStandsFor after (lines ++ bytes ∷ [])) →
    after.refused ≡ None →
    ((lines : List (List ℕ)) → CheckerStandsFor c lines → IsOk (verdict_from c.basin c.series [] (lines ++ bytes ∷ [])))
    → AreGiven after nothing_held (text ++ take taken piece)
ended_given given takes stands good answer = elim takes [
  | inl to_feed ↦ line_given given to_feed stands good
  | inr to_full ↦ absurd (long_taken given to_full answer)
]

pub ended_refused : {c : CheckerView} {line : LineHeld} {text bytes piece : List ℕ} {taken : ℕ} {e : Refuted} →
    AreGiven c line text → Takes true line.bytes bytes piece taken →
    ((lines : List (List ℕ)) → CheckerStandsFor c lines → verdict_from c.basin c.series [] (lines ++ bytes ∷ []) ≡ Err
    e) → (more : List ℕ) → text_verdict c.basin c.series (text ++ piece ++ more) ≡ Err e
ended_refused given takes answer more = elim takes [
  | inl to_feed ↦ line_refused given to_feed answer more
  | inr to_full ↦ long_refused given to_full answer more
]

-- Nothing was held, and nothing is.
pub held_given : {c after : CheckerView} {line : LineHeld} {text bytes piece : List ℕ} {taken : ℕ} →
    AreGiven c line text → line.bytes ≡ [] → TakesToFeed [] bytes piece taken →
    ((lines : List (List ℕ)) → CheckerStandsFor c lines → CheckerStandsFor after (lines ++ bytes ∷ [])) →
    after.refused ≡ None → AreGiven after line (text ++ take taken piece)
held_given {c} {after} {line} {text} {bytes} {piece} {taken} given none takes stands good =
    let now = line_given given
    (subst (λ (held : List ℕ). TakesToFeed held bytes piece taken) (sym none) takes) stands good in
    record {
      lines = now.lines;
      stands = now.stands;
      good = now.good;
      pieces = now.pieces ∙ ap (λ (held : List ℕ). now.lines ++ held ∷ []) (sym none);
      short = omega (arith, ap length none);
    }

-- A piece from an index on.

pub given_on : {c : CheckerView} {line : LineHeld} (text piece : List ℕ) (at taken : ℕ) →
    AreGiven c line ((text ++ take at piece) ++ take taken (slice_range piece at (length piece))) →
    AreGiven c line (text ++ take (at + taken) piece)
given_on text piece at taken given =
    rw (take-add at taken piece, ← append_assoc text (take at piece) (take taken (drop at piece)))
    (rw (take_rest piece at) at given)

pub refused_on : (b : Basin) (series : Series) (text piece more : List ℕ) (at : ℕ) (e : Refuted) →
    text_verdict b series ((text ++ take at piece) ++ slice_range piece at (length piece) ++ more) ≡ Err e →
    text_verdict b series (text ++ piece ++ more) ≡ Err e
refused_on b series text piece more at e h =
    grind (arith, nat_tests, text_verdict, take-append-drop, append_assoc, take, drop, take_rest)

-- No byte is left.
pub text_answered : {c : CheckerView} {line : LineHeld} {text : List ℕ} (result : Result ℕ Refuted) →
    AreGiven c line text → ((lines : List (List ℕ)) → CheckerStandsFor c lines → IsAnswer c.basin result
    (verdict c.basin c.series lines line.bytes)) → IsAnswer c.basin result (text_verdict c.basin c.series text)
text_answered {c} {line} {text} result given answer =
    grind (arith, nat_tests, text_verdict, verdict, lines_of_pieces, rest_of_pieces, short_rest)
