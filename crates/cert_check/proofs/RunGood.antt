-- The lines of a history are not refuted.
use Rattle.std.proofs.Math.Bool.{or-true}
use Rattle.std.proofs.Common.{◌≡◌, ℕ, true, false, refl, sym, ap, subst, ◌∙◌, List, [], ◌∷◌, ◌++◌, length, map}
use Rattle.std.proofs.Common.{fold, take, append_assoc, length-append, arith}
use Rattle.std.specs.Prelude.{None, Ok, slice_get, slice_index}
use Rattle.std.specs.List.{flat_map}
use Rattle.std.proofs.lemmas.List.Folds.{list_any-append}
use Rattle.std.proofs.Math.Seq.{take-append_seam}
use Rattle.std.proofs.lemmas.Bool.{or_from, or_parts}
use Rattle.water_model.proofs.Lists.{get_after}
use Rattle.water_model.specs.Blank.{blank_month}
use Rattle.water_model.specs.History.{IsPartialHistory, IsHistory, Follows, cut_of, calling_right}
use Rattle.water_model.specs.Indices.{seniors_first}
use Rattle.result_lines.specs.Quantities.{amounts_of, entries_with_line}
use Rattle.result_lines.specs.Spelling.{line_of}
use Rattle.result_lines.specs.Text.{call_items, items_of_month, items_of_head, items_of}
use Rattle.water_model.specs.Valid.{IsValidBasin}
use Rattle.result_lines.specs.declared.item.Item.{Item}
use Rattle.result_lines.specs.declared.item.Item.TheVariants as line
use Rattle.result_lines.specs.declared.item.Section.{Section}
use Rattle.result_lines.specs.declared.item.Section.TheVariants as section
use Rattle.result_lines.specs.declared.item.TheConstants.{SECTIONS}
use Rattle.water_model.specs.declared.types.Basin.{Basin}
use Rattle.water_model.specs.declared.types.Series.{Series}
use Rattle.water_model.specs.declared.types.MonthRecord.{MonthRecord}
use Rattle.result_reader.specs.Records.{AreTextMonths}
use Rattle.result_reader.specs.ReadSoFar.{ReadSoFar, read_item, nothing_read}
use Rattle.result_reader.proofs.AllRead.{month_of, are_all_read}
use Rattle.result_reader.proofs.Telling.{fold-both}
use Rattle.result_reader.proofs.TextForm.{texts_are_accepted}
use Rattle.result_reader.proofs.WholeMonth.{AreAllRead, month_read}
use Rattle.cert_check.specs.Checking.{callers_due, is_done, is_whole, verdict}
use Rattle.cert_check.proofs.Callers.{called_line}
use Rattle.cert_check.proofs.Follows.{follows_good}
use Rattle.cert_check.proofs.Month.{At, begun, month_is, inner_lines, section_lines, onto}
use Rattle.cert_check.proofs.GoodMonth.{inner_good}
use Rattle.cert_check.proofs.Rows.{AreGood, good_both}
use Rattle.cert_check.proofs.Sections.{title_good, run_good, month_good, last_good}
use Rattle.cert_check.proofs.Verdicts.{verdict_good, says_yes}
use Rattle.cert_check.specs.Laws.{HistoriesGiveYes}
use Rattle.cert_check.proofs.Amounts.{history_texts}

-- after the last line of a month no call is open
unfoldable pub Calm : Basin → Series → List Item → Type 0
Calm b series items = (t : ReadSoFar) → (fold (read_item b series) t items).calling ≡ None

calm_after : (b : Basin) (series : Series) (xs ys : List Item) → Calm b series ys → Calm b series (xs ++ ys)
unfolding Calm
calm_after b series xs ys h t = ap (λ u. u.calling) (fold-both (read_item b series) t xs ys) ∙
    h (fold (read_item b series) t xs)

end_calm : (b : Basin) (series : Series) → Calm b series (line.End ∷ [])
unfolding Calm
end_calm b series t = refl

calm_onto : (b : Basin) (series : Series) (f : Section → List Item) (ks : List Section) (ys : List Item) →
    Calm b series ys → Calm b series (onto f ks ys)
calm_onto b series f [] ys h = h
calm_onto b series f (k ∷ ks) ys h = calm_after b series (f k) (onto f ks ys) (calm_onto b series f ks ys h)

pub inner_calm : (b : Basin) (series : Series) (m : MonthRecord) (dues : List (ℕ × ℕ)) →
    Calm b series (inner_lines b m dues)
inner_calm b series m dues = calm_onto b series (section_lines b m dues) SECTIONS (line.End ∷ []) (end_calm b series)

pub calm : (b : Basin) (series : Series) (items : List Item) (t : ReadSoFar) → Calm b series items →
    (fold (read_item b series) t items).calling ≡ None
unfolding Calm
calm b series items t h = h t

-- The months of a history.

pub follows_of : {b : Basin} {series : Series} {records before : List MonthRecord} (ms : List MonthRecord)
    {m : MonthRecord} → IsPartialHistory b series records → records ≡ before ++ m ∷ ms → Follows b series before m
follows_of {b} {series} {records} {before} ms {m} h is = subst (λ (xs : List MonthRecord). Follows b series xs m)
    (ap (take (length before)) is ∙ take-append_seam before (m ∷ ms))
    (h.each (length before) m (ap (λ xs. slice_get xs (length before)) is ∙ get_after before ms m))

pub items_are : (b : Basin) (m : MonthRecord) →
    items_of_month b m ≡ line.Month m.month ∷ inner_lines b m (callers_due b m)
items_are b m = month_is b m (calling_right b m)

months_good : {b : Basin} {series : Series} {records before : List MonthRecord} (ms : List MonthRecord) →
    IsValidBasin b → IsPartialHistory b series records → AreTextMonths b series records → records ≡ before ++ ms →
    AreAllRead b series (length before) ms → (t : ReadSoFar) → t.calling ≡ None → t.months ≡ before →
    AreGood b series t (flat_map (items_of_month b) ms) ×
    ((fold (read_item b series) t (flat_map (items_of_month b) ms)).calling ≡ None)
months_good [] valid history texts is so_far t c months = (tt, c)
months_good {b} {series} {records} {before} (m ∷ ms) valid history texts is so_far t c months =
    let f = follows_of ms history is in
    let text = month_of b series records before ms m texts is in
    let count : length t.months ≡ length before = ap length months in
    let at : At b before (begun b m) (read_item b series t (line.Month m.month)) = record {
      calling = refl;
      months = months;
      now_is = ap (λ n. blank_month b n m.month) (count ∙ sym f.after.index);
      called = refl;
    } in
    let good = follows_good f text in
    let inner = inner_good valid.roll.strict so_far.1 good
    at in
    let here : AreGood b series t (items_of_month b m) =
    subst (λ (xs : List Item). AreGood b series t xs) (sym (items_are b m))
    (month_good b series t m.month c, inner) in
    let after : ReadSoFar = fold (read_item b series) t (items_of_month b m) in
    let still : after.calling ≡ None = ap (λ xs. (fold (read_item b series) t xs).calling) (items_are b m)
    ∙ calm b series (inner_lines b m (callers_due b m)) (read_item b series t (line.Month m.month))
    (inner_calm b series m (callers_due b m)) in
    let later : after.months ≡ before ++ m ∷ [] =
    month_read b series m (calling_right b m) t (f.after.index ∙ sym count) so_far.1 ∙ ap (λ xs. xs ++ m ∷ []) months in
    let rest =
    months_good ms valid history texts (is ∙ sym (append_assoc before (m ∷ []) ms))
    (subst (λ (i : ℕ). AreAllRead b series i ms) (sym (length-append before (m ∷ []))) so_far.2) after still later in (
      good_both b series t (items_of_month b m) (flat_map (items_of_month b) ms) here rest.0,
      ap (λ u. u.calling) (fold-both (read_item b series) t (items_of_month b m) (flat_map (items_of_month b) ms)) ∙
          rest.1,
    )

run_items_good : {b : Basin} {series : Series} {records : List MonthRecord} → IsValidBasin b →
    IsPartialHistory b series records → AreTextMonths b series records →
    AreGood b series (nothing_read b) (items_of b records)
run_items_good {b} {series} {records} valid history texts =
    let months =
    months_good records valid history texts refl (are_all_read b series records texts)
    (nothing_read b) refl refl in (
      title_good b series (nothing_read b) refl,
      (
        run_good b series (nothing_read b) refl,
        good_both b series (nothing_read b) (flat_map (items_of_month b) records) (line.Done b.months ∷ []) months.0 (
          last_good b series (fold (read_item b series) (nothing_read b) (flat_map (items_of_month b) records)) b.months
              months.1,
          tt,
        ),
      ),
    )

-- Only the last line of a text is `done`.

pub open_both : (xs ys : List Item) → is_whole xs ≡ false → is_whole ys ≡ false → is_whole (xs ++ ys) ≡ false
open_both xs ys h k = list_any-append is_done xs ys ∙ or_from (is_whole xs) (is_whole ys) h k

open_each : {X : Type 0} (item : X → Item) → ((x : X) → is_done (item x) ≡ false) → (xs : List X) →
    is_whole (map item xs) ≡ false
open_each item h [] = refl
open_each item h (x ∷ xs) = rw (h x) (open_each item h xs)

open_calls : (m : MonthRecord) (xs : List ℕ) → is_whole (flat_map (λ r. call_items r (cut_of m r)) xs) ≡ false
open_calls m [] = refl
open_calls m (x ∷ xs) =
    (let members = open_each {X = ℕ} (λ n. line.Member n) (λ n. refl) in
    grind (arith, members, open_both, open_calls m xs))

open_section : (b : Basin) (m : MonthRecord) (dues : List (ℕ × ℕ)) (k : Section) →
    is_whole (section_lines b m dues k) ≡ false
open_section b m dues (section.Amounts q) =
    open_each {X = ℕ} (λ x. line.Amount q x (slice_index (amounts_of q m) x)) (λ x. refl) (entries_with_line b q)
open_section b m dues section.Deliveries =
    open_each {X = ℕ} (λ x. line.Deliver x (slice_index m.delivered x) (slice_index m.want x)) (λ x. refl)
    (seniors_first b)
open_section b m dues section.Calls = open_calls m (seniors_first b)
open_section b m dues section.Called = open_each called_line (λ x. refl) dues

open_onto : (f : Section → List Item) → ((k : Section) → is_whole (f k) ≡ false) →
    (ks : List Section) (ys : List Item) → is_whole ys ≡ false → is_whole (onto f ks ys) ≡ false
open_onto f h [] ys k = k
open_onto f h (x ∷ xs) ys k = open_both (f x) (onto f xs ys) (h x) (open_onto f h xs ys k)

pub inner_open : (b : Basin) (m : MonthRecord) (dues : List (ℕ × ℕ)) → is_whole (inner_lines b m dues) ≡ false
inner_open b m dues = open_onto (section_lines b m dues) (open_section b m dues) SECTIONS (line.End ∷ []) refl

months_open : (b : Basin) (ms : List MonthRecord) → is_whole (flat_map (items_of_month b) ms) ≡ false
months_open b [] = refl
months_open b (m ∷ ms) = open_both (items_of_month b m) (flat_map (items_of_month b) ms)
    (ap is_whole (items_are b m) ∙ inner_open b m (callers_due b m)) (months_open b ms)

prefix_open : (xs x y : List Item) (d i : Item) → xs ++ d ∷ [] ≡ x ++ i ∷ y → is_whole xs ≡ false → is_whole x ≡ false
prefix_open xs [] y d i e h = refl
prefix_open [] (z ∷ []) y d i e h = cc
prefix_open [] (z ∷ w ∷ x) y d i e h = cc
prefix_open (v ∷ xs) (z ∷ x) y d i e h =
    let head : v ≡ z = cc in
    let tail : xs ++ d ∷ [] ≡ x ++ i ∷ y = cc in
    let two = or_parts (is_done v) (is_whole xs) h in
    rw (← head, two.0) (prefix_open xs x y d i tail two.1)

ends_whole : (xs : List Item) (n : ℕ) → is_whole (xs ++ line.Done n ∷ []) ≡ true
ends_whole xs n = list_any-append is_done xs (line.Done n ∷ []) ∙ or-true (is_whole xs)

-- the verdict on the text of records of a history
pub text_good : {b : Basin} {series : Series} {records : List MonthRecord} → IsValidBasin b →
    IsHistory b series records → AreTextMonths b series records →
    verdict b series (map (line_of b) (items_of b records)) [] ≡ Ok (items_of b records)
text_good {b} {series} {records} valid history texts = says_yes b series (map (line_of b) (items_of b records))
    (verdict_good b series (items_of b records) [] refl
    (λ x y i e. texts_are_accepted b series records x y i valid texts history.whole e)
    (λ x y i e. prefix_open (items_of_head b ++ flat_map (items_of_month b) records) x y (line.Done b.months) i e
    (months_open b records)) (run_items_good valid history.partial texts))
    (ends_whole (items_of_head b ++ flat_map (items_of_month b) records) b.months)

-- The text of each history is accepted.

pub histories_give_yes : HistoriesGiveYes
histories_give_yes b series records valid fits history =
    text_good valid history (history_texts valid fits history.partial)
