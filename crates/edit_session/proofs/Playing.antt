-- A script answered line by line.
use Rattle.std.proofs.Common.{◌≡◌, ℕ, zero, suc, ◌+◌, ◌<◌, ◌∙◌, ap, refl, subst, arith, List, [], ◌∷◌, inl, inr}
use Rattle.std.proofs.Common.{◌++◌, length, take, drop, get_or, append_assoc, append-nil, add-one, drop-cons}
use Rattle.std.specs.Prelude.{Some, Result, Ok, Err, slice_get}
use Rattle.std.proofs.lemmas.Grind.{flat_map-append}
use Rattle.std.proofs.lemmas.List.{length-take}
use Rattle.std.proofs.Math.Seq.{take-length}
use Rattle.water_edge.specs.Edge.{Extends, Output}
use Rattle.water_edge.specs.declared.sink.Sink
use Rattle.water_edge.proofs.Outputs.{Extends-nil, Extends-trans}
use Rattle.water_model.specs.Valid.{IsValidBasin}
use Rattle.water_model.specs.declared.types.Basin.{Basin}
use Rattle.water_model.specs.declared.types.Series.{Series}
use Rattle.water_model.specs.declared.types.MonthRecord.{MonthRecord}
use Rattle.result_text.specs.Range.{FitsText}
use Rattle.water_edge.proofs.Puts.{PutsPrefix}
use Rattle.result_text.proofs.Monthly.{month_prefix, tail_prefix}
use Rattle.result_text.proofs.Whole.{FitsText-follows}
use Rattle.edit_script.specs.Edits.{IsValidEdit, cost_from, edited_by, kept_by, solved_by}
use Rattle.edit_script.specs.declared.edit.Edit.{Edit}
use Rattle.edit_script.specs.declared.edit.Edit.TheVariants.{Inflow, Want, Show}
use Rattle.edit_session.specs.Sessions.{HasKeptMonths, SessionView}
use Rattle.month_fold.proofs.Works.{Solves-then, Solves-within}
use Rattle.month_fold.specs.Works.{Solves, WorkDone}
use Rattle.edit_session.proofs.Changes.{runs_agree}
use Rattle.edit_session.specs.Shown.{Answers, AnswersWhole, AreFlushed, ArePut, AreShown, HaveShown, IsMonthOf}
use Rattle.edit_session.specs.Shown.{IsUntouchedOrFlushed, done_bytes, lines_of, months_bytes, shows_in}
use Rattle.edit_session.specs.declared.stop.EditStop.{EditStop}
use Rattle.edit_session.specs.declared.stop.EditStop.TheVariants as stop

bytes_after : (b : Basin) (xs ys : List MonthRecord) →
    months_bytes b (xs ++ ys) ≡ months_bytes b xs ++ months_bytes b ys
bytes_after b xs ys = flat_map-append (lines_of b) xs ys

-- the lines of one month more
one_more : (b : Basin) (xs : List MonthRecord) (m : MonthRecord) →
    months_bytes b (xs ++ m ∷ []) ≡ months_bytes b xs ++ lines_of b m
one_more b xs m = bytes_after b xs (m ∷ []) ∙ ap (λ bytes. months_bytes b xs ++ bytes) (append-nil (lines_of b m))

-- Months are put, and then others.
module _ {K : Type 0} (sink : Sink.Ghosts K) (b : Basin) where
  pub none_put : (old : K) → ArePut sink b [] old old
  none_put old = record { text = Extends-nil (sink.output old); flushed = refl }

  put_then : (xs ys : List MonthRecord) (old mid new : K) → ArePut sink b xs old mid → ArePut sink b ys mid new →
      ArePut sink b (xs ++ ys) old new
  put_then xs ys old mid new h k = record {
    text = rw (bytes_after b xs ys)
        (Extends-trans (sink.output old) (sink.output mid) (sink.output new) _ _ h.text k.text);
    flushed = both xs ys h.flushed k.flushed;
  }
    where
      both : (xs ys : List MonthRecord) → AreFlushed xs old mid (sink.output mid) →
          AreFlushed ys mid new (sink.output new) → AreFlushed (xs ++ ys) old new (sink.output new)
      both [] [] h k = k ∙ h
      both [] (y ∷ ys) h k = k
      both (x ∷ xs) [] h k = rw k h
      both (x ∷ xs) (y ∷ ys) h k = k

  -- a sink that was left alone, or flushed
  put_untouched : (xs : List MonthRecord) (old new : K) → AreFlushed xs old new (sink.output new) →
      IsUntouchedOrFlushed old new (sink.output new)
  put_untouched [] old new h = inl h
  put_untouched (x ∷ xs) old new h = inr h

  some_flushed : (xs : List MonthRecord) (old new : K) → AreFlushed xs old new (sink.output new) → 0 < length xs →
      (sink.output new).flushed ≡ (sink.output new).taken
  some_flushed [] old new h some = absurd (omega (arith, some))
  some_flushed (x ∷ xs) old new h some = h

-- a change moves no index
placed_by : (b : Basin) (series : Series) (d e : Edit) → IsValidEdit b series e → IsValidEdit b (edited_by series d) e
placed_by b series (Inflow index gauge amount) (Inflow i g a) h = h
placed_by b series (Inflow index gauge amount) (Want i p a) h = h
placed_by b series (Inflow index gauge amount) (Show i) h = h
placed_by b series (Want index place amount) (Inflow i g a) h = h
placed_by b series (Want index place amount) (Want i p a) h = h
placed_by b series (Want index place amount) (Show i) h = h
placed_by b series (Show index) e h = h

-- a first line, and then others
shown_then : (b : Basin) (series : Series) (e : Edit) (es : List Edit) (xs ys : List MonthRecord) →
    AreShown b series (e ∷ []) xs → AreShown b (edited_by series e) es ys → AreShown b series (e ∷ es) (xs ++ ys)
shown_then b series (Inflow index gauge amount) es xs ys h k = rw h k
shown_then b series (Want index place amount) es xs ys h k = rw h k
shown_then b series (Show index) es [] ys h k = absurd h
shown_then b series (Show index) es (x ∷ xs) ys h k = (h.0, rw h.1 k)

have_then : (b : Basin) (series : Series) (e : Edit) (es : List Edit) (xs ys : List MonthRecord) →
    AreShown b series (e ∷ []) xs → HaveShown b (edited_by series e) es ys → HaveShown b series (e ∷ es) (xs ++ ys)
have_then b series e es xs ys h k =
    record { count = suc k.count; are = shown_then b series e (take k.count es) xs ys h k.are }

answers_then : {K : Type 0} (sink : Sink.Ghosts K) (b : Basin) (series : Series) (e : Edit) (es : List Edit)
    (u : Unit {0}) (r : Result (Unit {0}) EditStop) (old mid new : K) → Answers sink b series (e ∷ []) (Ok u) old mid →
    Answers sink b (edited_by series e) es r mid new → Answers sink b series (e ∷ es) r old new
answers_then sink b series e es u (Ok v) old mid new h k =
    (h.0 ++ k.0, shown_then b series e es h.0 k.0 h.1 k.1, put_then sink b h.0 k.0 old mid new h.2 k.2)
answers_then sink b series e es u (Err stop.SinkFailed) old mid new h k = record {
  shown = h.0 ++ k.shown;
  next = k.next;
  are = rw (append_assoc h.0 k.shown (k.next ∷ [])) (have_then b series e es h.0 (k.shown ++ k.next ∷ []) h.1 k.are);
  between = k.between;
  put = put_then sink b h.0 k.shown old mid k.between h.2 k.put;
  prefix = k.prefix;
}
answers_then sink b series e es u (Err stop.OutOfMemory) old mid new h k =
    (h.0 ++ k.0, have_then b series e es h.0 k.0 h.1 k.1, put_then sink b h.0 k.0 old mid new h.2 k.2)

-- a first line that stops
have_first : (b : Basin) (series : Series) (e : Edit) (es : List Edit) (xs : List MonthRecord) →
    HaveShown b series (e ∷ []) xs → HaveShown b series (e ∷ es) xs
have_first b series e [] xs h = h
have_first b series e (f ∷ es) xs h = by_count h.count h.are
  where
    by_count : (n : ℕ) → AreShown b series (take n (e ∷ [])) xs → HaveShown b series (e ∷ f ∷ es) xs
    by_count zero are = record { count = 0; are = are }
    by_count (suc zero) are = record { count = 1; are = are }
    by_count (suc (suc n)) are = record { count = 1; are = are }

answers_first : {K : Type 0} (sink : Sink.Ghosts K) (b : Basin) (series : Series) (e : Edit) (es : List Edit)
    (why : EditStop) (old new : K) → Answers sink b series (e ∷ []) (Err why) old new →
    Answers sink b series (e ∷ es) (Err why) old new
answers_first sink b series e es stop.SinkFailed old new h = record {
  shown = h.shown;
  next = h.next;
  are = have_first b series e es (h.shown ++ h.next ∷ []) h.are;
  between = h.between;
  put = h.put;
  prefix = h.prefix;
}
answers_first sink b series e es stop.OutOfMemory old new h = (h.0, have_first b series e es h.0 h.1, h.2)

-- lines were answered: an answer to the others is one to all, and their work that of all
pub record IsPlayed {K : Type 0} (sink : Sink.Ghosts K) (b : Basin) (series now : Series) (edits rest : List Edit)
    (old mid : K) (held kept : ℕ) (start before : WorkDone) : Type 0 where
  pub placed : (e : Edit) → IsValidEdit b series e → IsValidEdit b now e
  pub answers : (r : Result (Unit {0}) EditStop) (new : K) → Answers sink b now rest r mid new →
      Answers sink b series edits r old new
  pub work : (after : WorkDone) → Solves (cost_from kept rest) b before after →
      Solves (cost_from held edits) b start after

pub played_more : {K : Type 0} {sink : Sink.Ghosts K} {b : Basin} {series now : Series} {edits es : List Edit}
    {old mid : K} {held kept : ℕ} {start before : WorkDone} (c : Basin) (e : Edit) (u : Unit {0}) (new : K)
    (after : WorkDone) → IsPlayed sink b series now edits (e ∷ es) old mid held kept start before → c ≡ b →
    Answers sink c now (e ∷ []) (Ok u) mid new →
    Solves (solved_by kept e) b before after →
    IsPlayed sink b series (edited_by now e) edits es old new held (kept_by kept e + solved_by kept e) start after
played_more {sink = sink} {b} {now = now} {es = es} {old} {mid} {kept = kept} c e u new after so same h work = record {
  placed = λ d valid. placed_by b now e d (so.placed d valid);
  answers = λ r then' k. so.answers r then' (answers_then sink b now e es u r mid new then'
      (subst (λ (x : Basin). Answers sink x now (e ∷ []) (Ok u) mid new) same h) k);
  work = λ then' k. so.work then' (Solves-then (solved_by kept e) _ b _ after then' work k);
}

pub played_stops : {K : Type 0} {sink : Sink.Ghosts K} {b : Basin} {series now : Series} {edits es : List Edit}
    {old mid : K} {held kept : ℕ} {start before : WorkDone} (c : Basin) (e : Edit) (why : EditStop) (new : K) →
    IsPlayed sink b series now edits (e ∷ es) old mid held kept start before → c ≡ b →
    Answers sink c now (e ∷ []) (Err why) mid new → Answers sink b series edits (Err why) old new
played_stops {sink = sink} {b} {series} {now} {edits} {es} {old} {mid} c e why new so same h =
    so.answers (Err why) new (answers_first sink b now e es why mid new
    (subst (λ (x : Basin). Answers sink x now (e ∷ []) (Err why) mid new) same h))

pub works_stop : {K : Type 0} {sink : Sink.Ghosts K} {b : Basin} {series now : Series} {edits es : List Edit}
    {old mid : K} {held kept : ℕ} {start before : WorkDone} (e : Edit) (after : WorkDone) →
    IsPlayed sink b series now edits (e ∷ es) old mid held kept start before →
    Solves (solved_by kept e) b before after →
    Solves (cost_from held edits) b start after
works_stop {b = b} {kept = kept} {before} e after so work =
    so.work after (Solves-within (solved_by kept e) _ b before after (omega arith) work)

-- the line at an index and those after it
abbrev pub line_at : List Edit → ℕ → Edit
line_at edits i = get_or edits i (Inflow 0 0 0)

pub lines_from : (edits : List Edit) (i : ℕ) → i < length edits →
    drop i edits ≡ line_at edits i ∷ drop (i + 1) edits
lines_from edits i l = rw add-one (drop-cons edits i (Inflow 0 0 0) l)

-- a month that a session keeps
pub month_kept : {b : Basin} {s : SessionView} {series : Series} {index : ℕ} {m : MonthRecord} → IsValidBasin b →
    s.basin ≡ b → s.series ≡ series → HasKeptMonths s → slice_get s.kept index ≡ Some m → IsMonthOf b series index m
month_kept {b} {s} {series} {index} {m} valid e f kept at =
    let here : HasKeptMonths (record { basin = b; series = series; kept = s.kept }) =
    record { partial = rw (← e, ← f) kept.partial; reaches = rw (← e) kept.reaches } in
    record { months = s.kept; kept = here; here = at; agrees = runs_agree b series index s.kept m valid here at }

pub month_fits : {b : Basin} {series : Series} {index : ℕ} {m : MonthRecord} → IsValidBasin b → index < b.months →
    IsMonthOf b series index m → FitsText b m
month_fits {b} {series} {index} {m} valid l is =
    FitsText-follows b series (take index is.months) m valid (is.kept.partial.each index m is.here)
    (omega (arith, length-take index is.months))

-- it is shown, or a prefix of its lines
module _ {K : Type 0} (sink : Sink.Ghosts K) {b : Basin} {series : Series} {index : ℕ} {m : MonthRecord}
    (old new : K) (is : IsMonthOf b series index m) where
  pub show_put : (u : Unit {0}) → Extends (sink.output old) (sink.output new) (lines_of b m) →
      (sink.output new).flushed ≡ (sink.output new).taken → Answers sink b series (Show index ∷ []) (Ok u) old new
  show_put u put all =
      (m ∷ [], (is, refl), record { text = rw (append-nil (lines_of b m)) put; flushed = all })

  pub show_failed : PutsPrefix (sink.output old) (sink.output new) (lines_of b m) →
      Answers sink b series (Show index ∷ []) (Err stop.SinkFailed) old new
  show_failed prefix = record {
    shown = [];
    next = m;
    are = record { count = 1; are = (is, refl) };
    between = old;
    put = none_put sink b old;
    prefix = prefix;
  }

-- no line shows no month
none_shown : (b : Basin) (series : Series) (edits : List Edit) → HaveShown b series edits []
none_shown b series edits = record { count = 0; are = none edits }
  where
    none : (es : List Edit) → AreShown b series (take 0 es) []
    none [] = refl
    none (e ∷ es) = refl

pub nothing_shown : {K : Type 0} (sink : Sink.Ghosts K) (b : Basin) (series : Series) (edits : List Edit) (old : K) →
    Answers sink b series edits (Err stop.OutOfMemory) old old
nothing_shown sink b series edits old = ([], none_shown b series edits, none_put sink b old)

-- The whole answer, with its last line.
module _ {K : Type 0} (sink : Sink.Ghosts K) (b : Basin) (series : Series) (edits : List Edit) where
  pub whole_stops : (why : EditStop) (old new : K) → Answers sink b series edits (Err why) old new →
      AnswersWhole b series edits (Err why) (sink.output old) (sink.output new)
  whole_stops stop.SinkFailed old new h =
      let tail : List ℕ = done_bytes (shows_in edits) in (
        h.shown ++ h.next ∷ [],
        h.are,
        month_prefix (months_bytes b) (lines_of b) (one_more b) (months_bytes b (h.shown ++ h.next ∷ []) ++ tail) tail
            h.shown h.next _ (sink.output old) (sink.output h.between) (sink.output new) refl h.put.text
            (some_flushed sink b h.shown old h.between h.put.flushed) h.prefix,
      )
  whole_stops stop.OutOfMemory old new h = (h.0, h.1, h.2.text, some_flushed sink b h.0 old new h.2.flushed)

  pub stops_flushed : (why : EditStop) (old new : K) → Answers sink b series edits (Err why) old new →
      why ≡ stop.OutOfMemory → IsUntouchedOrFlushed old new (sink.output new)
  stops_flushed stop.SinkFailed old new h same = cc
  stops_flushed stop.OutOfMemory old new h same = put_untouched sink b h.0 old new h.2.flushed

  pub whole_failed : (old mid : K) (new : Output) (u : Unit {0}) → Answers sink b series edits (Ok u) old mid →
      PutsPrefix (sink.output mid) new (done_bytes (shows_in edits)) →
      AnswersWhole b series edits (Err stop.SinkFailed) (sink.output old) new
  whole_failed old mid new u h prefix = (
    h.0,
    record { count = length edits; are = rw (take-length edits) h.1 },
    tail_prefix (months_bytes b) (lines_of b) (one_more b) _ (done_bytes (shows_in edits)) h.0 _ (sink.output old)
        (sink.output mid) new refl h.1 h.2.text (some_flushed sink b h.0 old mid h.2.flushed) prefix,
  )
