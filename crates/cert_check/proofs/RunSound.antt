-- The lines that are not refuted are those of a history.
use Rattle.std.proofs.Common.{◌≡◌, ℕ, zero, suc, ◌+◌, ◌<◌, Bool, true, false, refl, sym, ap, subst, ◌∙◌, arith}
use Rattle.std.proofs.Common.{inl, inr, List, [], ◌∷◌, ◌++◌, length, map, fold, append_assoc, append-nil, length-append}
use Rattle.std.specs.Prelude.{Some, None, ◌||◌, ◌⊎◌}
use Rattle.std.specs.List.{flat_map}
use Rattle.std.proofs.lemmas.List.{length-map}
use Rattle.std.proofs.lemmas.Bool.{or_parts}
use Rattle.water_model.specs.Blank.{blank_month}
use Rattle.water_model.specs.History.{IsPartialHistory, IsHistory, Follows, opening_after, calling_right}
use Rattle.water_model.specs.Hydrology.{run_month}
use Rattle.water_model.specs.Indices.{numbers_from}
use Rattle.result_lines.specs.Spelling.{line_of}
use Rattle.result_lines.specs.Text.{items_of_month, items_of}
use Rattle.water_model.specs.Valid.{IsValidBasin}
use Rattle.result_lines.specs.declared.item.Item.{Item}
use Rattle.result_lines.specs.declared.item.Item.TheVariants as line
use Rattle.water_model.specs.declared.types.Basin.{Basin}
use Rattle.water_model.specs.declared.types.Series.{Series}
use Rattle.water_model.specs.declared.types.MonthRecord.{MonthRecord}
use Rattle.water_model.proofs.Histories.{nothing_is_partial, one_month_more, opens_with_last}
use Rattle.result_reader.specs.Form.{Fills, IsPrefix, due, due_in_month, due_for_month}
use Rattle.result_reader.specs.ReadSoFar.{ReadSoFar, read_item, nothing_read}
use Rattle.result_reader.specs.declared.shape.Shape.{Shape}
use Rattle.result_reader.specs.declared.shape.Shape.TheVariants as shape
use Rattle.result_reader.proofs.WholeMonth.{IsAllRead, month_read}
use Rattle.cert_check.specs.Checking.{callers_due, rows, is_done, is_whole}
use Rattle.cert_check.specs.Laws.{YesGivesHistory}
use Rattle.cert_check.proofs.Follows.{good_follows}
use Rattle.cert_check.proofs.GoodMonth.{inner_is_good}
use Rattle.cert_check.proofs.Inverts.{one_line}
use Rattle.cert_check.proofs.Month.{At, begun, inner_lines, IsGoodMonth}
use Rattle.cert_check.proofs.MonthLines.{inner_filled}
use Rattle.cert_check.proofs.Rows.{NoneHolds, AreGood, good_first, good_rest}
use Rattle.cert_check.proofs.RunGood.{calm, inner_calm, items_are, open_both, inner_open}
use Rattle.cert_check.proofs.Sections.{head_is}
use Rattle.cert_check.proofs.Sheets.{Sheet, sheet_lines, record_of, record_read, record_lines}
use Rattle.cert_check.proofs.SomeOutlet.{some_outlet}
use Rattle.cert_check.proofs.Verdicts.{AreJudged, verdict_says, IsYes, yes_says}

-- what is due from a month on
abbrev pub from_month : Basin → ℕ → ℕ → List Shape
from_month b i n = flat_map (due_for_month b) (numbers_from i n) ++ shape.Done b.months ∷ []

-- the lines of one more month
pub record OneMonth (b : Basin) (i n : ℕ) (items : List Item) : Type 0 where
  pub sheet : Sheet
  pub dues : List (ℕ × ℕ)
  pub sized : (r : ℕ) (set : List Bool) → sheet.cut r ≡ Some set → length set ≡ length b.nodes
  pub others : List Item
  pub are : items ≡ line.Month (run_month b i) ∷ (sheet_lines b sheet dues ++ others)
  pub rest : Fills b (from_month b (suc i) n) others

pub one_month : {b : Basin} → IsValidBasin b → {i n : ℕ} {items : List Item} → Fills b (from_month b i (suc n)) items →
    OneMonth b i n items
unfolding numbers_from
one_month {b} valid {i} {n} {items} h =
    let first =
    one_line b (shape.Month (run_month b i)) (due_in_month b ++ from_month b (suc i) n) items refl
    (subst (λ (xs : List Shape). Fills b xs items) regroup h) in
    let inner = inner_filled valid first.rest in
    record {
      sheet = inner.sheet;
      dues = inner.dues;
      sized = inner.sized;
      others = inner.others;
      are = first.are ∙ (ap (λ ms. line.Month (run_month b i) ∷ (ms ++ first.others)) first.followed
          ∙ ap (λ ys. line.Month (run_month b i) ∷ ys) inner.are);
      rest = inner.rest;
    }
  where
    regroup : (due_for_month b i ++ flat_map (due_for_month b) (numbers_from (suc i) n)) ++ shape.Done b.months ∷ []
        ≡ shape.Month (run_month b i) ∷
        (due_in_month b ++ (flat_map (due_for_month b) (numbers_from (suc i) n) ++ shape.Done b.months ∷ []))
    regroup = append_assoc (due_for_month b i) (flat_map (due_for_month b) (numbers_from (suc i) n))
        (shape.Done b.months ∷ [])

-- The last line is `done`, and no other is.
record Ends (n : ℕ) (items : List Item) : Type 0 where
  prefix : List Item
  are : items ≡ prefix ++ line.Done n ∷ []
  open_yet : is_whole prefix ≡ false

pub last_line : (b : Basin) {items : List Item} → Fills b (shape.Done b.months ∷ []) items →
    items ≡ line.Done b.months ∷ []
last_line b {items} h =
    let last = one_line b (shape.Done b.months) [] items refl h in
    last.are ∙ (ap (λ ms. line.Done b.months ∷ (ms ++ last.others)) last.followed
    ∙ ap (λ ys. line.Done b.months ∷ ys) last.rest)

months_end : {b : Basin} → IsValidBasin b → (series : Series) (n i : ℕ) {items : List Item} →
    Fills b (from_month b i n) items → Ends b.months items
unfolding numbers_from
months_end {b} valid series zero i h = record { prefix = []; are = last_line b h; open_yet = refl }
months_end {b} valid series (suc n) i h =
    let m = one_month valid h in
    let later = months_end valid series n (suc i) m.rest in
    record {
      prefix = line.Month (run_month b i) ∷ (sheet_lines b m.sheet m.dues ++ later.prefix);
      are = m.are ∙ ap (λ ys. line.Month (run_month b i) ∷ ys) (ap (λ ys. sheet_lines b m.sheet m.dues ++ ys) later.are
          ∙ sym (append_assoc (sheet_lines b m.sheet m.dues) later.prefix (line.Done b.months ∷ [])));
      open_yet =
          open_both (sheet_lines b m.sheet m.dues) later.prefix (ap is_whole (record_lines b series i m.sheet m.dues)
          ∙ inner_open b (record_of b series i m.sheet) m.dues) later.open_yet;
    }

nothing_after : (xs items : List Item) {rest : List Item} (d : Item) → items ++ rest ≡ xs ++ d ∷ [] →
    is_whole xs ≡ false → is_whole items ≡ true → rest ≡ []
nothing_after xs [] d e none some = cc
nothing_after [] (i ∷ []) d e none some = cc
nothing_after [] (i ∷ j ∷ items) d e none some = cc
nothing_after (x ∷ xs) (i ∷ items) {rest} d e none some =
    let head : i ≡ x = cc in
    let tail : items ++ rest ≡ xs ++ d ∷ [] = cc in
    let two = or_parts (is_done x) (is_whole xs) none in
    nothing_after xs items d tail two.1 (other (is_done i) (is_whole items) (ap is_done head ∙ two.0) some)
  where
    other : (p q : Bool) → p ≡ false → p || q ≡ true → q ≡ true
    other p q e k = rw e at k

-- The months.

-- what stands after some months that are not refuted
pub record AfterMonths (b : Basin) (series : Series) (before : List MonthRecord) (t : ReadSoFar) : Type 0 where
  pub calling : t.calling ≡ None
  pub months : t.months ≡ before
  pub partial : IsPartialHistory b series before
  pub opens : length (opening_after b before) ≡ length b.reservoirs

-- one more month that is not refuted
pub record NextMonth (b : Basin) (series : Series) (before : List MonthRecord) (t : ReadSoFar) (i : ℕ) (s : Sheet)
    (dues : List (ℕ × ℕ)) : Type 0 where
  pub lines_are : line.Month (run_month b i) ∷ sheet_lines b s dues ≡ items_of_month b (record_of b series i s)
  pub after : AfterMonths b series (before ++ record_of b series i s ∷ [])
      (fold (read_item b series) t (items_of_month b (record_of b series i s)))

pub next_month : {b : Basin} → IsValidBasin b →
    {series : Series} {before : List MonthRecord} {t : ReadSoFar} (i : ℕ) (s : Sheet) (dues : List (ℕ × ℕ)) →
    ((r : ℕ) (set : List Bool) → s.cut r ≡ Some set → length set ≡ length b.nodes) → i ≡ length before → i < b.months →
    AfterMonths b series before t →
    AreGood b series t (line.Month (run_month b i) ∷ sheet_lines b s dues) → NextMonth b series before t i s dues
next_month {b} valid {series} {before} {t} i s dues sized at left stands g =
    record {
      lines_are = ap (λ ys. line.Month (run_month b i) ∷ ys)
          (record_lines b series i s dues ∙ ap (inner_lines b m) (sym good.1)) ∙ sym (items_are b m);
      after = record {
        calling = ap (λ xs. (fold (read_item b series) t xs).calling) (items_are b m)
            ∙ calm b series (inner_lines b m (callers_due b m)) (read_item b series t (line.Month m.month))
            (inner_calm b series m (callers_due b m));
        months = month_read b series m (calling_right b m) t (at ∙ sym count) so_far
            ∙ ap (λ xs. xs ++ m ∷ []) stands.months;
        partial = one_month_more b series before m stands.partial (omega (arith, at, left)) follows;
        opens = ap length (opens_with_last b before m) ∙ follows.after.fits.closing;
      };
    }
  where
    m : MonthRecord
    m = record_of b series i s

    so_far : IsAllRead b series m
    so_far = record_read series i s sized

    count : length t.months ≡ length before
    count = ap length stands.months

    begins : At b before (begun b m) (read_item b series t (line.Month (run_month b i)))
    begins = record {
      calling = refl;
      months = stands.months;
      now_is = ap (λ n. blank_month b n (run_month b i)) (count ∙ sym at);
      called = refl;
    }

    good : IsGoodMonth b series before m × (callers_due b m ≡ dues)
    good = inner_is_good (some_outlet valid) so_far begins
        (subst (λ (xs : List Item). AreGood b series (read_item b series t (line.Month (run_month b i))) xs)
        (record_lines b series i s dues) g.1)

    follows : Follows b series before m
    follows = good_follows valid so_far good.0 at refl stands.opens

-- the months of a text that is not refuted are those of a history
record Months (b : Basin) (series : Series) (before : List MonthRecord) (n : ℕ) (items : List Item) : Type 0 where
  records : List MonthRecord
  count : length records ≡ n
  partial : IsPartialHistory b series (before ++ records)
  are : items ≡ flat_map (items_of_month b) records ++ line.Done b.months ∷ []

months_sound : {b : Basin} → IsValidBasin b →
    {series : Series} (n : ℕ) {i : ℕ} {before : List MonthRecord} {t : ReadSoFar} {items : List Item} →
    i ≡ length before → i + n ≡ b.months → AfterMonths b series before t → Fills b (from_month b i n) items →
    AreGood b series t items → Months b series before n items
unfolding numbers_from
months_sound {b} valid {series} zero {i} {before} at all stands h g = record {
  records = [];
  count = refl;
  partial = subst (IsPartialHistory b series) (sym (append-nil before)) stands.partial;
  are = last_line b h;
}
months_sound {b} valid {series} (suc n) {i} {before} {t} {items} at all stands h g =
    let o = one_month valid h in
    let m : MonthRecord = record_of b series i o.sheet in
    let good = subst (λ (xs : List Item). AreGood b series t xs) o.are g in
    let next = next_month valid i o.sheet o.dues o.sized at (omega (arith, all)) stands
    (good_first b series t (line.Month (run_month b i) ∷ sheet_lines b o.sheet o.dues) o.others good) in
    let here : items ≡ items_of_month b m ++ o.others = o.are ∙ ap (λ xs. xs ++ o.others) next.lines_are in
    let later =
    months_sound valid n (omega (arith, at, length-append before (m ∷ []))) (omega (arith, all)) next.after o.rest
    (good_rest b series t (items_of_month b m) o.others (subst (λ (xs : List Item). AreGood b series t xs) here g)) in
    record {
      records = m ∷ later.records;
      count = ap suc later.count;
      partial = subst (IsPartialHistory b series) (append_assoc before (m ∷ []) later.records) later.partial;
      are = here ∙ (ap (λ ys. items_of_month b m ++ ys) later.are
          ∙ sym (append_assoc (items_of_month b m) (flat_map (items_of_month b) later.records)
          (line.Done b.months ∷ [])));
    }

-- The whole text.

-- the first two lines, and the months after them
record Head (b : Basin) (items : List Item) : Type 0 where
  others : List Item
  first : Item
  not_done : is_done first ≡ false
  is_run : (t : ReadSoFar) (series : Series) → NoneHolds (rows b series t first) → first ≡ line.Run b.first b.months
  are : items ≡ line.Title ∷ first ∷ others
  rest : Fills b (from_month b 0 b.months) others

head_of : {b : Basin} {items : List Item} → Fills b (due b) items → Head b items
unfolding due
head_of {b} {items} h =
    let title = one_line b shape.Title (shape.Run ∷ from_month b 0 b.months) items refl h in
    let run = one_line b shape.Run (from_month b 0 b.months) title.others refl title.rest in
    record {
      others = run.others;
      first = line.Run run.fields.first run.fields.one;
      not_done = refl;
      is_run = λ t series n. (let e = head_is b series t n in rw (e.0, e.1) refl);
      are = title.are ∙ (ap (λ ms. line.Title ∷ (ms ++ title.others)) title.followed ∙ ap (λ ys. line.Title ∷ ys)
          (run.are ∙ ap (λ ms. line.Run run.fields.first run.fields.one ∷ (ms ++ run.others)) run.followed));
      rest = run.rest;
    }

-- the last line of a whole text is `done`
pub ends_with_done : {b : Basin} → IsValidBasin b → Series → {items : List Item} → Fills b (due b) items →
    (prefix : List Item) × (items ≡ prefix ++ line.Done b.months ∷ [])
ends_with_done {b} valid series h =
    let head = head_of h in
    let ends = months_end valid series b.months 0 head.rest in (
      line.Title ∷ head.first ∷ ends.prefix,
      head.are ∙ ap (λ ys. line.Title ∷ head.first ∷ ys) ends.are,
    )

-- lines that begin a whole text, and have its last line, are one
whole_fills : {b : Basin} → IsValidBasin b → Series → {items : List Item} → is_whole items ≡ true → IsPrefix b items →
    Fills b (due b) items
whole_fills {b} valid series {items} whole prefix =
    let head = head_of prefix.whole in
    let ends = months_end valid series b.months 0 head.rest in
    let none : prefix.rest ≡ [] =
    nothing_after (line.Title ∷ head.first ∷ ends.prefix) items (line.Done b.months)
    (head.are ∙ ap (λ ys. line.Title ∷ head.first ∷ ys) ends.are)
    (first_open head.first ends.prefix (head_open head) ends.open_yet) whole in
    subst (λ (xs : List Item). Fills b (due b) xs) (ap (λ ys. items ++ ys) none ∙ append-nil items) prefix.whole
  where
    first_open : (i : Item) (xs : List Item) → is_done i ≡ false → is_whole xs ≡ false →
        is_done i || is_whole xs ≡ false
    first_open i xs e f = rw (e, f) refl

    head_open : (h : Head b (items ++ prefix.rest)) → is_done h.first ≡ false
    head_open h = h.not_done

-- a yes is for the text of a history
pub record IsOfHistory (b : Basin) (series : Series) (items : List Item) : Type 0 where
  pub records : List MonthRecord
  pub history : IsHistory b series records
  pub are : items ≡ items_of b records

pub items_sound : {b : Basin} → IsValidBasin b → {series : Series} {items : List Item} → is_whole items ≡ true →
    IsPrefix b items → AreGood b series (nothing_read b) items → IsOfHistory b series items
items_sound {b} valid {series} whole prefix g =
    let head = head_of (whole_fills valid series whole prefix) in
    let good = subst (λ (xs : List Item). AreGood b series (nothing_read b) xs) head.are g in
    let run = head.is_run (read_item b series (nothing_read b) line.Title) series good.1.0 in
    let good_run = subst (λ (i : Item). AreGood b series (nothing_read b) (line.Title ∷ i ∷ head.others)) run good in
    let months = months_sound valid b.months refl (omega arith) (record {
      calling = refl;
      months = refl;
      partial = nothing_is_partial b series;
      opens = length-map b.reservoirs (λ v. v.opening);
    }) head.rest good_run.1.1 in
    record {
      records = months.records;
      history = record { partial = months.partial; whole = months.count };
      are = head.are ∙ (ap (λ i. line.Title ∷ i ∷ head.others) run
          ∙ ap (λ ys. line.Title ∷ line.Run b.first b.months ∷ ys) months.are);
    }

pub yes_gives_history : YesGivesHistory
yes_gives_history b series lines rest items valid h =
    let yes' = yes_says h in
    let said = verdict_says valid [] lines yes'.lines_good in
    by_prefix yes' said said.prefix
  where
    by_prefix : IsYes b series lines rest items → (said : AreJudged b series [] items lines) → (said.more ≡ []) ⊎
        IsPrefix b items →
        (records : List MonthRecord) × IsHistory b series records × (lines ≡ map (line_of b) (items_of b records)) ×
        (rest ≡ []) × (items ≡ items_of b records)
    by_prefix y said (inl none) = let never : false ≡ true = sym (ap is_whole (said.are ∙ none)) ∙ y.whole in cc
    by_prefix y said (inr prefix) =
        let sound =
        items_sound valid y.whole prefix
        (subst (λ (xs : List Item). AreGood b series (nothing_read b) xs) (sym said.are) said.good) in (
          sound.records,
          sound.history,
          said.spelled ∙ ap (map (line_of b)) (sym said.are ∙ sound.are),
          y.no_rest,
          sound.are,
        )
