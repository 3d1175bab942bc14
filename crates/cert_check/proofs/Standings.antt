-- Check progress with one more line.
use Rattle.std.proofs.Common.{◌≡◌, ℕ, ◌+◌, ◌*◌, ◌^◌, ◌<◌, ◌≤◌, true, false, refl, sym, ap, subst, ◌∙◌, arith, List, []}
use Rattle.std.proofs.Common.{◌∷◌, ◌++◌, length, append_assoc, append-nil}
use Rattle.std.specs.Prelude.{Option, Some, None, Result, Ok, Err, IfSome, IfNone}
use Rattle.std.specs.Option.{option_and_then}
use Rattle.std.proofs.Math.Nat.{mul-le-mul}
use Rattle.water_model.specs.History.{IsPartialHistory}
use Rattle.water_model.specs.Valid.{IsValidBasin, IsSeriesOf}
use Rattle.result_lines.specs.declared.item.Item.{Item}
use Rattle.result_lines.specs.declared.item.Item.TheVariants as line
use Rattle.water_model.proofs.Histories.{last_follows}
use Rattle.water_model.specs.declared.types.Basin.{Basin}
use Rattle.water_model.specs.declared.types.Series.{Series}
use Rattle.result_reader.specs.Due.{Due, all_due, due_after, is_call, step}
use Rattle.result_reader.specs.Form.{due, due_in_month, Fills, IsPrefix}
use Rattle.result_reader.specs.Reading.{read_line}
use Rattle.result_reader.specs.Standing.{max_lines}
use Rattle.result_reader.specs.Standing as reader
use Rattle.result_reader.specs.ReadSoFar.{ReadSoFar, nothing_read, read_item, read_so_far, with_supply}
use Rattle.result_reader.specs.declared.bad_line.BadLine.{BadLine}
use Rattle.result_reader.specs.declared.shape.Shape.{Shape}
use Rattle.result_reader.proofs.Accepting.{prefixes_are_accepted}
use Rattle.result_reader.proofs.LinesLeft.{step-fewer, most_of_run, bounded_due}
use Rattle.cert_check.specs.Auditing.{MonthFollows}
use Rattle.cert_check.specs.Checking.{first_row, is_whole, judge, judge_row, ok_then, rows, verdict_from}
use Rattle.cert_check.specs.Coming.{MayCome}
use Rattle.cert_check.specs.Standing.{CheckerView, IsProgressOf, CheckerStandsFor}
use Rattle.cert_check.specs.Taking.{HasLines, TakesItem, TakesLine}
use Rattle.cert_check.specs.declared.progress.CheckProgress.{CheckProgress}
use Rattle.cert_check.specs.declared.refuted.Refuted.{Refuted}
use Rattle.cert_check.specs.declared.refuted.RefutedKind.TheVariants as kind
use Rattle.cert_check.proofs.Prefixes.{may_come}
use Rattle.cert_check.proofs.Rows.{AreGood, NoneHolds, good_both, good_row}
use Rattle.cert_check.proofs.RunSound.{ends_with_done}
use Rattle.cert_check.proofs.Verdicts.{AreJudged, read_more, verdict_says}

-- A text has fewer lines than fit 64 bits.

lines_left : (b : Basin) (items : List Item) (s : Due) {after : Due} → due_after b s items ≡ Some after →
    length items + max_lines b after.dues ≤ max_lines b s.dues
lines_left b [] s {after} h = let same : Some s ≡ Some after = h in let is : s ≡ after = cc in rw is (omega arith)
lines_left b (item ∷ items) s {after} h = by_step (step b s.must s.dues item) refl h
    (λ ds e. lines_left b items (record { must = is_call item; dues = ds }) e)
  where
    by_step : (o : Option (List Shape)) → step b s.must s.dues item ≡ o →
        option_and_then (λ dues. due_after b (record { must = is_call item; dues = dues }) items) o ≡ Some after →
        ((ds : List Shape) → due_after b (record { must = is_call item; dues = ds }) items ≡ Some after →
        length items + max_lines b after.dues ≤ max_lines b ds) →
        length (item ∷ items) + max_lines b after.dues ≤ max_lines b s.dues
    by_step None e k further = cc
    by_step (Some ds) e k further = omega (arith, further ds k, step-fewer b s.must s.dues item ds e)

pub bounded_items : {b : Basin} (r : reader.ReaderView) (items : List Item) → IsValidBasin b → r.basin ≡ b →
    reader.ReaderStandsFor r items → length items + 1 < 2 ^ 64
bounded_items {b} r items valid is reads =
    let stands : due_after b (all_due b) items ≡ Some r.due =
    subst (λ (c : Basin). due_after c (all_due c) items ≡ Some r.due) is reads in
    let left = lines_left b items (all_due b) stands in
    let run = most_of_run b (length (due_in_month b)) b.months (length b.nodes) (length b.rights) refl refl refl refl in
    let fits =
    run_fits_more (length (due_in_month b)) b.months (length b.nodes) (length b.rights) (bounded_due b valid)
    valid.run.months.1 valid.bounded.nodes valid.bounded.rights in
    omega (arith, left, run, fits)
  where
    run_fits_more : (dues count nodes rights : ℕ) → dues ≤ 50000 → count ≤ 1200 → nodes ≤ 2000 → rights ≤ 2000 →
        count * (1 + dues + rights * nodes) + 3 + 1 < 2 ^ 64
    run_fits_more dues count nodes rights d m n r =
        let members : rights * nodes ≤ 2000 * 2000 = mul-le-mul r n in
        let month : 1 + dues + rights * nodes ≤ 1 + 50000 + 2000 * 2000 = omega arith in
        let all : count * (1 + dues + rights * nodes) ≤ 1200 * (1 + 50000 + 2000 * 2000) = mul-le-mul m month in
        omega arith

pub bounded_lines : {b : Basin} {series : Series} {k : CheckProgress} {lines : List (List ℕ)} → IsValidBasin b →
    IsProgressOf b series k lines → k.read + 1 < 2 ^ 64
bounded_lines {b} {series} {k} valid s =
    omega (arith, bounded_items k.reader s.items valid s.basin s.reader, s.counts.read)

-- The verdict with one more line.

one_more : (b : Basin) (series : Series) (before : List Item) (lines : List (List ℕ)) (bytes : List ℕ) →
    verdict_from b series before (lines ++ bytes ∷ [])
    ≡ ok_then (λ items. ok_then (λ item. Ok (items ++ item ∷ [])) (judge b series items bytes))
    (verdict_from b series before lines)
one_more b series before [] bytes = refl
one_more b series before (line ∷ lines) bytes =
    (let further = λ (item : Item). one_more b series (before ++ item ∷ []) lines bytes in grind arith)

pub still_refused : (b : Basin) (series : Series) (lines : List (List ℕ)) (bytes : List ℕ) {e : Refuted} →
    verdict_from b series [] lines ≡ Err e → verdict_from b series [] (lines ++ bytes ∷ []) ≡ Err e
still_refused b series lines bytes h = one_more b series [] lines bytes
    ∙ ap (ok_then (λ items. ok_then (λ item. Ok (items ++ item ∷ [])) (judge b series items bytes))) h

pub line_judged : (b : Basin) (series : Series) (lines : List (List ℕ)) (bytes : List ℕ) {items : List Item}
    {r : Result Item Refuted} → verdict_from b series [] lines ≡ Ok items → judge b series items bytes ≡ r →
    verdict_from b series [] (lines ++ bytes ∷ []) ≡ ok_then (λ item. Ok (items ++ item ∷ [])) r
line_judged b series lines bytes {items} h j = one_more b series [] lines bytes
    ∙ (ap (ok_then (λ items. ok_then (λ item. Ok (items ++ item ∷ [])) (judge b series items bytes))) h
    ∙ ap (ok_then (λ item. Ok (items ++ item ∷ []))) j)

-- what a line is judged by
pub judged_ended : (b : Basin) (series : Series) (items : List Item) (bytes : List ℕ) → is_whole items ≡ true →
    judge b series items bytes ≡ Err (record { line = length items + 1; kind = kind.AfterEnd })
unfolding judge
judged_ended b series items bytes whole = rw whole refl

pub judged_bad : (b : Basin) (series : Series) (items : List Item) (bytes : List ℕ) {why : BadLine} →
    is_whole items ≡ false → read_line b items bytes ≡ Err why →
    judge b series items bytes ≡ Err (record { line = length items + 1; kind = kind.BadLine })
unfolding judge
judged_bad b series items bytes open_yet read = rw (open_yet, read) refl

pub judged_item : (b : Basin) (series : Series) (items : List Item) (bytes : List ℕ) {item : Item} →
    is_whole items ≡ false → read_line b items bytes ≡ Ok item →
    judge b series items bytes ≡ judge_row items item (first_row b series (read_so_far b series items) item)
unfolding judge
judged_item b series items bytes open_yet read = rw (open_yet, read) refl

-- what is known of a line that is read
pub line_comes : {b : Basin} {series : Series} (lines : List (List ℕ)) (bytes : List ℕ) {items : List Item}
    {item : Item} → IsValidBasin b → IsSeriesOf b series → verdict_from b series [] lines ≡ Ok items →
    read_line b items bytes ≡ Ok item → MayCome b series (read_so_far b series items) item
line_comes {b} {series} lines bytes {items} {item} valid fits h read =
    let said = verdict_says valid [] lines h in
    let prefix = ((prefixes_are_accepted b items bytes item valid).0 read).2 in
    may_come valid fits items (rw said.are said.good) prefix

last_same : (xs ys : List Item) {i j : Item} → xs ++ i ∷ [] ≡ ys ++ j ∷ [] → i ≡ j
last_same [] [] e = cc
last_same [] (y ∷ []) e = cc
last_same [] (y ∷ z ∷ ys) e = cc
last_same (x ∷ []) [] e = cc
last_same (x ∷ z ∷ xs) [] e = cc
last_same (x ∷ xs) (y ∷ ys) {i} {j} e = let tail : xs ++ i ∷ [] ≡ ys ++ j ∷ [] = cc in last_same xs ys tail

-- the month that a good `end` line ends follows those before it
pub line_ends : {b : Basin} {series : Series} (lines : List (List ℕ)) (bytes : List ℕ) {items : List Item}
    {item : Item} → IsValidBasin b → IsSeriesOf b series → verdict_from b series [] lines ≡ Ok items →
    read_line b items bytes ≡ Ok item → item ≡ line.End → first_row b series (read_so_far b series items) item ≡ None →
    MonthFollows b series (read_so_far b series items)
line_ends {b} {series} lines bytes {items} {item} valid fits h read is none =
    last_follows b series (read_so_far b series items).months (with_supply b series (read_so_far b series items).now)
    (subst (λ (t : ReadSoFar). IsPartialHistory b series t.months) more (by_rest prefix.rest prefix.whole))
  where
    prefix : IsPrefix b (items ++ line.End ∷ [])
    prefix = subst (λ (i : Item). IsPrefix b (items ++ i ∷ [])) is
        ((prefixes_are_accepted b items bytes item valid).0 read).2

    said : AreJudged b series [] items lines
    said = verdict_says valid [] lines h

    good : AreGood b series (nothing_read b) (items ++ line.End ∷ [])
    good = good_both b series (nothing_read b) items (line.End ∷ []) (rw said.are said.good) (
      subst (λ (i : Item). NoneHolds (rows b series (read_so_far b series items) i)) is
          (good_row b series (read_so_far b series items) item none),
      tt,
    )

    more : read_so_far b series (items ++ line.End ∷ []) ≡ read_item b series (read_so_far b series items) line.End
    more = read_more b series items line.End

    by_rest : (rest : List Item) → Fills b (due b) ((items ++ line.End ∷ []) ++ rest) →
        IsPartialHistory b series (read_so_far b series (items ++ line.End ∷ [])).months
    by_rest [] whole =
        let ends = ends_with_done valid series
        (subst (λ (xs : List Item). Fills b (due b) xs) (append-nil (items ++ line.End ∷ [])) whole) in
        let never : line.End ≡ line.Done b.months = last_same items ends.0 ends.1 in
        cc
    by_rest (next ∷ rest) whole =
        (may_come valid fits (items ++ line.End ∷ []) good (record {
          rest = rest;
          whole = subst (λ (xs : List Item). Fills b (due b) xs)
              (sym (append_assoc (items ++ line.End ∷ []) (next ∷ []) rest)) whole;
        })).partial

-- a line that is taken, or refused by a row
pub took : {b : Basin} (series : Series) (k : CheckProgress) (lines : List (List ℕ)) (bytes : List ℕ)
    {items : List Item} (item : Item) (result : Result (Unit {0}) Refuted) → verdict_from b series [] lines ≡ Ok items →
    judge b series items bytes ≡ judge_row items item (first_row b series (read_so_far b series items) item) →
    k.reader.basin ≡ b → reader.ReaderStandsFor k.reader (items ++ item ∷ []) → TakesItem b series k items item result →
    TakesLine b series k (lines ++ bytes ∷ []) result
took {b} series k lines bytes {items} item (Ok done) good judged basin stands (none, keeps, counts, audit) = record {
  items = items ++ item ∷ [];
  verdict = line_judged b series lines bytes good (judged ∙ ap (judge_row items item) none);
  basin = basin;
  reader = stands;
  state = keeps;
  counts = counts;
  audit = audit;
}
took {b} series k lines bytes item (Err e) good judged basin stands refuted =
    line_judged b series lines bytes good (judged ∙ refuted)

-- check progress after a line that may be taken
pub lines_after : {T : Type 0} {b : Basin} {series : Series} {k after : CheckProgress} (o : Option T)
    (now : T → List ℕ) → IfSome o (λ text. (lines : List (List ℕ)) → IsProgressOf b series k lines → IsProgressOf b
    series after (lines ++ now text ∷ [])) → IfNone o (after ≡ k) → HasLines b series k → HasLines b series after
lines_after {T} {b} {series} None now taken none h = subst (λ (k : CheckProgress). HasLines b series k) (sym none) h
lines_after (Some text) now taken none h = record {
  lines = h.lines ++ now text ∷ [];
  stands = taken h.lines h.stands;
}

-- The whole checker.

pub refusal_is : (c : CheckerView) (lines : List (List ℕ)) {e : Refuted} → c.refused ≡ Some e →
    CheckerStandsFor c lines → verdict_from c.basin c.series [] lines ≡ Err e
refusal_is c lines is stands = rw is at stands

pub refusal_stands : (c : CheckerView) (lines : List (List ℕ)) {e : Refuted} → c.refused ≡ Some e →
    verdict_from c.basin c.series [] lines ≡ Err e → CheckerStandsFor c lines
refusal_stands c lines is h = rw is h

pub good_is : {c : CheckerView} {lines : List (List ℕ)} → c.refused ≡ None → CheckerStandsFor c lines →
    IsProgressOf c.basin c.series c.progress lines
good_is is stands = rw is at stands

pub good_stands : {c : CheckerView} {lines : List (List ℕ)} → c.refused ≡ None →
    IsProgressOf c.basin c.series c.progress lines → CheckerStandsFor c lines
good_stands is h = rw is h
