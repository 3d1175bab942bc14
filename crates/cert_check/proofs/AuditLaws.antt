-- What an audit answers at the end of a text.
use Rattle.std.proofs.Common.{◌≡◌, ℕ, ◌<◌, Bool, refl, sym, ap, subst, ◌∙◌, arith, inl, inr, List, [], ◌∷◌}
use Rattle.std.proofs.Common.{take, zero, suc, ◌++◌, map}
use Rattle.std.specs.Prelude.{Option, Some, Ok, Err, IsOk, is_ok, slice_get, unwrap_or, None, Result, IfSome}
use Rattle.std.proofs.lemmas.Bool.{cases_eq, cases_lt}
use Rattle.water_model.specs.Cuts.{IsReach}
use Rattle.water_model.specs.History.{IsHistory, HasReaches, HaveReaches}
use Rattle.result_lines.specs.Text.{items_of, text_bytes}
use Rattle.water_model.specs.Valid.{IsValidBasin, IsSeriesOf}
use Rattle.water_model.specs.declared.types.Basin.{Basin}
use Rattle.water_model.specs.declared.types.Series.{Series}
use Rattle.water_model.specs.declared.types.MonthRecord.{MonthRecord}
use Rattle.water_model.proofs.Seniority.{senior_total}
use Rattle.plan_residual.specs.Reaches.{IsFirstOther}
use Rattle.result_reader.proofs.OneReading.{texts_have_one_reading}
use Rattle.cert_check.specs.Audit.{IsAuditedText, IsCallLine, IsFirstOtherLine, IsOtherText, IsAuditAnswer}
use Rattle.cert_check.specs.Laws.{AuditedExactlyForReaches, AuditsHaveOneAnswer}
use Rattle.cert_check.specs.Whole.{text_verdict, pieces_of}
use Rattle.cert_check.specs.declared.refuted.Refuted.{Refuted}
use Rattle.cert_check.proofs.Amounts.{history_texts}
use Rattle.cert_check.proofs.ByteLaws.{yes_exactly_for_histories, ok_of, spelled_text}
use Rattle.cert_check.proofs.CallLines.{one_call_line}
use Rattle.cert_check.proofs.Fitting.{clash}
use Rattle.result_lines.specs.Spelling.{line_of}
use Rattle.result_lines.specs.declared.item.Item.{Item}
use Rattle.result_reader.specs.ReadSoFar.{read_so_far}
use Rattle.result_reader.proofs.AllRead.{are_all_read}
use Rattle.result_reader.proofs.WholeMonth.{records_read}
use Rattle.cert_check.specs.Auditing.{IsAuditIfAny, IsAuditOf, IsFound, audit_answer}
use Rattle.cert_check.specs.Checking.{verdict}
use Rattle.cert_check.specs.Standing.{CheckerView, IsAnswer, IsProgressOf, CheckerStandsFor}
use Rattle.cert_check.specs.declared.audit.Audit.{Audit}
use Rattle.cert_check.proofs.RunSound.{yes_gives_history}
use Rattle.cert_check.proofs.Standings.{good_is}
use Rattle.cert_check.proofs.Verdicts.{yes_says}

-- a text that is accepted
accepted_answer : (b : Basin) (series : Series) (text : List ℕ) (lines : List (List ℕ)) (rest : List ℕ)
    (items : List Item) (a : Audit) → IsValidBasin b → IsSeriesOf b series → pieces_of text ≡ lines ++ rest ∷ [] →
    verdict b series lines rest ≡ Ok items → IsAuditOf b (read_so_far b series items) items a →
    IsAuditAnswer b series text (audit_answer a.other b.months)
accepted_answer b series text lines rest items a valid fits pieces accepts audit = by_other a.other found
  where
    said : (records : List MonthRecord) × IsHistory b series records × (lines ≡ map (line_of b) (items_of b records)) ×
        (rest ≡ []) × (items ≡ items_of b records)
    said = yes_gives_history b series lines rest items valid accepts

    spelled : text ≡ text_bytes b said.0
    spelled = spelled_text b (items_of b said.0)
        (pieces ∙ (ap (λ ls. ls ++ rest ∷ []) said.2 ∙ ap (λ r. map (line_of b) (items_of b said.0) ++ r ∷ []) said.3))

    so_far : (read_so_far b series (items_of b said.0)).months ≡ said.0
    so_far = records_read b series said.0 (are_all_read b series said.0 (history_texts valid fits said.1.partial))

    found : IsFound b said.0 (items_of b said.0) a.other
    found = subst (λ (ms : List MonthRecord). IsFound b ms (items_of b said.0) a.other) so_far
        (subst (λ (is : List Item). IsFound b (read_so_far b series is).months is a.other) said.4 audit.found)

    by_other : (o : Option ℕ) → IsFound b said.0 (items_of b said.0) o →
        IsAuditAnswer b series text (audit_answer o b.months)
    by_other None h = (record { records = said.0; history = said.1; reaches = h; text = spelled }, refl)
    by_other (Some number) h =
        inr (record { records = said.0; history = said.1; text = spelled; kind = refl; first = h })

not_refused : (o : Option Refuted) (r : Result ℕ Refuted) (months : ℕ) → r ≡ Ok months → IfSome o (λ e. r ≡ Err e) →
    o ≡ None
not_refused o r months is h = grind arith

-- a checker that accepts, and audits
pub audited_answer : (c : CheckerView) (lines : List (List ℕ)) (text rest : List ℕ) (months : ℕ)
    (finished : Result ℕ Refuted) (a : Audit) →
    IsValidBasin c.basin → IsSeriesOf c.basin c.series → finished ≡ Ok months →
    IfSome c.refused (λ e. finished ≡ Err e) → IsAnswer c.basin finished (verdict c.basin c.series lines rest) →
    c.progress.audit ≡ Some a → CheckerStandsFor c lines → pieces_of text ≡ lines ++ rest ∷ [] →
    IsAuditAnswer c.basin c.series text (audit_answer a.other months)
audited_answer c lines text rest months finished a valid fits is stays answer has stands pieces =
    subst (λ (n : ℕ). IsAuditAnswer c.basin c.series text (audit_answer a.other n)) (sym ok.1)
    (accepted_answer c.basin c.series text lines rest accepted.0 a valid fits pieces accepted.1 audit)
  where
    ok : IsOk (verdict c.basin c.series lines rest) × (months ≡ c.basin.months)
    ok = subst (λ (r : Result ℕ Refuted). IsAnswer c.basin r (verdict c.basin c.series lines rest)) is answer

    accepted : (items : List Item) × (verdict c.basin c.series lines rest ≡ Ok items)
    accepted = ok_of (verdict c.basin c.series lines rest) ok.0

    progress : IsProgressOf c.basin c.series c.progress lines
    progress = good_is (not_refused c.refused finished months is stays) stands

    same : progress.items ≡ accepted.0
    same =
        let both : Ok progress.items ≡ Ok accepted.0 =
        sym progress.verdict ∙ (yes_says accepted.1).lines_good in
        cc

    audit : IsAuditOf c.basin (read_so_far c.basin c.series accepted.0) accepted.0 a
    audit = subst (λ (items : List Item). IsAuditOf c.basin (read_so_far c.basin c.series items) items a) same
        (subst (IsAuditIfAny c.basin (read_so_far c.basin c.series progress.items) progress.items) has progress.audit)

-- An audit says yes exactly for reaches, and has one answer.

never_ok : {X : Type 0} (e : Refuted) → IsOk {T = ℕ} {E = Refuted} (Err e) → X
never_ok e h = clash h

-- the records of one text are the same
one_history : {b : Basin} {series : Series} {bytes : List ℕ} {records others : List MonthRecord} → IsValidBasin b →
    IsSeriesOf b series → IsHistory b series records → IsHistory b series others → bytes ≡ text_bytes b records →
    bytes ≡ text_bytes b others → records ≡ others
one_history {b} {series} {bytes} {records} {others} valid fits h k e f =
    texts_have_one_reading b series records others valid (history_texts valid fits h.partial)
    (history_texts valid fits k.partial) (sym e ∙ f)

-- a month with another set than a reach has no reaches
not_reaches : {X : Type 0} (b : Basin) (m : MonthRecord) (r : ℕ) → IsFirstOther b m (Some r) → HasReaches b m → X
not_reaches b m r first reaches =
    let cut = reaches.short r first.0 first.1 in
    absurd (first.2 (subst (λ (set : List Bool). IsReach b m.month m.supply m.delivered r set)
    (sym (ap (λ (o : Option (List Bool)). unwrap_or o []) cut.1)) cut.2))

-- a text of a history is not refuted by the verdict
never_refuted : {X : Type 0} (b : Basin) (series : Series) (bytes : List ℕ) (records : List MonthRecord)
    (e : Refuted) → IsValidBasin b → IsSeriesOf b series → IsHistory b series records → bytes ≡ text_bytes b records →
    text_verdict b series bytes ≡ Err e → X
never_refuted b series bytes records e valid fits h text refuted =
    let accepts : IsOk (text_verdict b series bytes) =
    (yes_exactly_for_histories b series bytes valid fits).1 (records, h, text) in
    clash (sym (ap is_ok refuted) ∙ accepts)

other_unaudited : {X : Type 0} (b : Basin) (series : Series) (bytes : List ℕ) (e : Refuted) → IsValidBasin b →
    IsSeriesOf b series → IsOtherText b series bytes e → IsAuditedText b series bytes → X
other_unaudited b series bytes e valid fits o a =
    let same = one_history valid fits a.history o.history a.text o.text in
    let reaches : HaveReaches b o.records = subst (HaveReaches b) same a.reaches in
    not_reaches b o.first.outcome o.first.right o.first.other (reaches o.first.month o.first.outcome o.first.is)

pub audited_exactly_for_reaches : AuditedExactlyForReaches
audited_exactly_for_reaches b series bytes (Ok months) valid fits h = (λ accepts. h.0, λ a. refl)
audited_exactly_for_reaches b series bytes (Err e) valid fits (inl refuted) = (
  λ accepts. never_ok e accepts,
  λ a. never_refuted b series bytes a.records e valid fits a.history a.text refuted,
)
audited_exactly_for_reaches b series bytes (Err e) valid fits (inr other) = (
  λ accepts. never_ok e accepts,
  λ a. other_unaudited b series bytes e valid fits other a,
)

-- The first set that isn't a reach.

-- a month before another has reaches
reaches_before : {b : Basin} (records : List MonthRecord) {i k : ℕ} {m : MonthRecord} → HaveReaches b (take k records) →
    i < k → slice_get records i ≡ Some m → HasReaches b m
reaches_before {b} records {i} {k} {m} h l e = h i m (get_taken records i k m l e)
  where
    get_taken : (records : List MonthRecord) (i k : ℕ) (m : MonthRecord) → i < k → slice_get records i ≡ Some m →
        slice_get (take k records) i ≡ Some m
    get_taken [] i k m l e = cc
    get_taken (x ∷ records) i zero m l e = absurd (omega arith)
    get_taken (x ∷ records) zero (suc k) m l e = e
    get_taken (x ∷ records) (suc i) (suc k) m l e = get_taken records i k m (omega arith) e

same_month : {b : Basin} (records : List MonthRecord) {f g : ℕ} {m n : MonthRecord} {r s : ℕ} →
    slice_get records f ≡ Some m → slice_get records g ≡ Some n → IsFirstOther b m (Some r) →
    IsFirstOther b n (Some s) → HaveReaches b (take f records) → HaveReaches b (take g records) → f ≡ g
same_month {b} records {f} {g} {m} {n} {r} {s} at also one other before after = elim (cases_lt f g) [
  | inl less ↦ not_reaches b m r one (reaches_before records after less at)
  | inr more ↦ elim (cases_lt g f) [
    | inl less ↦ not_reaches b n s other (reaches_before records before less also)
    | inr same ↦ omega arith
  ]
]

same_right : {b : Basin} → IsValidBasin b → (m : MonthRecord) {r s : ℕ} → IsFirstOther b m (Some r) →
    IsFirstOther b m (Some s) → r ≡ s
same_right {b} valid m {r} {s} one other = elim (cases_eq r s) [
  | inl same ↦ same
  | inr apart ↦ elim (senior_total b.rights valid.roll.strict r s one.0 other.0 apart) [
    | inl senior ↦ absurd (one.2 (other.3 r one.0 senior one.1))
    | inr senior ↦ absurd (other.2 (one.3 s other.0 senior other.1))
  ]
]

same_line : {b : Basin} → IsValidBasin b → {records : List MonthRecord} {one other : ℕ} →
    IsFirstOtherLine b records (items_of b records) one → IsFirstOtherLine b records (items_of b records) other →
    one ≡ other
same_line {b} valid {records} {one} {other} f g = one_call_line valid records
    (subst (λ (r : ℕ). IsCallLine (items_of b records) g.month r one) right
    (subst (λ (i : ℕ). IsCallLine (items_of b records) i f.right one) month f.call)) g.call
  where
    month : f.month ≡ g.month
    month = same_month records f.is g.is f.other g.other f.before g.before

    outcome : f.outcome ≡ g.outcome
    outcome =
        let both : Some f.outcome ≡ Some g.outcome = sym f.is ∙ (ap (slice_get records) month ∙ g.is) in
        cc

    right : f.right ≡ g.right
    right = same_right valid g.outcome
        (subst (λ (m : MonthRecord). IsFirstOther b m (Some f.right)) outcome f.other) g.other

same_refusal : {e f : Refuted} → e.line ≡ f.line → e.kind ≡ f.kind → e ≡ f
same_refusal line kind = rw (← line, ← kind) refl

-- Two answers.

one_error : (b : Basin) (series : Series) (bytes : List ℕ) {e f : Refuted} → text_verdict b series bytes ≡ Err e →
    text_verdict b series bytes ≡ Err f → e ≡ f
one_error b series bytes one other = cc

pub audits_have_one_answer : AuditsHaveOneAnswer
audits_have_one_answer b series bytes (Ok months) (Ok others) valid fits h k = ap (λ (n : ℕ). Ok n) (h.1 ∙ sym k.1)
audits_have_one_answer b series bytes (Ok months) (Err e) valid fits h k =
    never_ok e ((audited_exactly_for_reaches b series bytes (Err e) valid fits k).1 h.0)
audits_have_one_answer b series bytes (Err e) (Ok months) valid fits h k =
    never_ok e ((audited_exactly_for_reaches b series bytes (Err e) valid fits h).1 k.0)
audits_have_one_answer b series bytes (Err e) (Err f) valid fits (inl one) (inl other) =
    ap (λ (x : Refuted). Err x) (one_error b series bytes one other)
audits_have_one_answer b series bytes (Err e) (Err f) valid fits (inl one) (inr other) =
    never_refuted b series bytes other.records e valid fits other.history other.text one
audits_have_one_answer b series bytes (Err e) (Err f) valid fits (inr one) (inl other) =
    never_refuted b series bytes one.records f valid fits one.history one.text other
audits_have_one_answer b series bytes (Err e) (Err f) valid fits (inr one) (inr other) = ap (λ (x : Refuted). Err x)
    (same_refusal (same_line valid
    (subst (λ (records : List MonthRecord). IsFirstOtherLine b records (items_of b records) e.line)
    (one_history valid fits one.history other.history one.text other.text)
    one.first) other.first) (one.kind ∙ sym other.kind))
