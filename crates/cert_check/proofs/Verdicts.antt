-- What the verdict on lines says of the lines.
use Rattle.std.proofs.Common.{◌≡◌, ℕ, true, false, refl, sym, ap, subst, ◌∙◌, inl, inr, List, [], ◌∷◌, ◌++◌}
use Rattle.std.proofs.Common.{map, append_assoc, append-nil, arith}
use Rattle.std.specs.Prelude.{None, Result, Ok, Err, ◌⊎◌}
use Rattle.result_lines.specs.Spelling.{line_of}
use Rattle.water_model.specs.Valid.{IsValidBasin}
use Rattle.result_lines.specs.declared.item.Item.{Item}
use Rattle.water_model.specs.declared.types.Basin.{Basin}
use Rattle.water_model.specs.declared.types.Series.{Series}
use Rattle.result_reader.specs.Form.{IsPrefix}
use Rattle.result_reader.specs.Reading.{read_line}
use Rattle.result_reader.specs.ReadSoFar.{ReadSoFar, read_item, read_so_far, nothing_read}
use Rattle.result_reader.proofs.Accepting.{prefixes_are_accepted}
use Rattle.result_reader.proofs.Telling.{fold-both}
use Rattle.cert_check.specs.Checking.{first_row, judge, ok_then, verdict_from}
use Rattle.cert_check.specs.Checking.{verdict, is_whole}
use Rattle.cert_check.specs.declared.refuted.Refuted.{Refuted}
use Rattle.cert_check.proofs.Rows.{AreGood, good_row, row_good}

pub read_more : (b : Basin) (series : Series) (before : List Item) (i : Item) →
    read_so_far b series (before ++ i ∷ []) ≡ read_item b series (read_so_far b series before) i
read_more b series before i = fold-both (read_item b series) (nothing_read b) before (i ∷ [])

-- Lines that are read, and that no row holds of, are good.

judged_good : (b : Basin) (series : Series) (before : List Item) (bytes : List ℕ) {i : Item} →
    is_whole before ≡ false → read_line b before bytes ≡ Ok i →
    first_row b series (read_so_far b series before) i ≡ None → judge b series before bytes ≡ Ok i
unfolding judge
judged_good b series before bytes open_yet read none = rw (open_yet, read, none) refl

pub verdict_good : (b : Basin) (series : Series) {all : List Item} (items before : List Item) → all ≡ before ++ items →
    ((x y : List Item) (i : Item) → all ≡ x ++ i ∷ y → read_line b x (line_of b i) ≡ Ok i) →
    ((x y : List Item) (i : Item) → all ≡ x ++ i ∷ y → is_whole x ≡ false) →
    AreGood b series (read_so_far b series before) items → verdict_from b series before (map (line_of b) items) ≡ Ok all
verdict_good b series [] before is read none g = ap Ok (sym (append-nil before) ∙ sym is)
verdict_good b series {all} (i ∷ items) before is read none g =
    ap (λ r. ok_then (λ item. verdict_from b series (before ++ item ∷ []) (map (line_of b) items)) r)
    (judged_good b series before (line_of b i) (none before items i is) (read before items i is)
    (row_good b series (read_so_far b series before) i g.0))
    ∙ verdict_good b series items (before ++ i ∷ []) (is ∙ sym (append_assoc before (i ∷ []) items)) read none
    (subst (λ (t : ReadSoFar). AreGood b series t items) (sym (read_more b series before i)) g.1)

-- The converse.

pub record IsJudged (b : Basin) (series : Series) (before : List Item) (bytes : List ℕ) (i : Item) : Type 0 where
  pub open_yet : is_whole before ≡ false
  pub read : read_line b before bytes ≡ Ok i
  pub none : first_row b series (read_so_far b series before) i ≡ None

judged : {b : Basin} {series : Series} {before : List Item} {bytes : List ℕ} {i : Item} →
    judge b series before bytes ≡ Ok i → IsJudged b series before bytes i
unfolding judge
judged h = grind arith

-- what a good verdict says of lines after others
pub record AreJudged (b : Basin) (series : Series) (before items : List Item) (lines : List (List ℕ)) : Type 0 where
  pub more : List Item
  pub are : items ≡ before ++ more
  pub spelled : lines ≡ map (line_of b) more
  pub good : AreGood b series (read_so_far b series before) more
  pub prefix : (more ≡ []) ⊎ IsPrefix b items

through : {X Y : Type 0} (f : X → Result Y Refuted) (r : Result X Refuted) (y : Y) → ok_then f r ≡ Ok y → (x : X) ×
    (r ≡ Ok x) × (f x ≡ Ok y)
through f (Ok x) y h = (x, refl, h)
through f (Err e) y h = let never : Err e ≡ Ok y = h in cc

pub verdict_says : {b : Basin} → IsValidBasin b →
    {series : Series} (before : List Item) {items : List Item} (lines : List (List ℕ)) →
    verdict_from b series before lines ≡ Ok items → AreJudged b series before items lines
verdict_says {b} valid {series} before {items} [] h =
    let same : Ok before ≡ Ok items = h in
    let is : before ≡ items = cc in
    record { more = []; are = sym is ∙ sym (append-nil before); spelled = refl; good = tt; prefix = inl refl }
verdict_says {b} valid {series} before {items} (bytes ∷ lines) h =
    let t = through (λ item. verdict_from b series (before ++ item ∷ []) lines) (judge b series before bytes) items h in
    let j = judged t.1 in
    let said = (prefixes_are_accepted b before bytes t.0 valid).0 j.read in
    let rest = verdict_says valid (before ++ t.0 ∷ []) lines t.2 in
    record {
      more = t.0 ∷ rest.more;
      are = rest.are ∙ append_assoc before (t.0 ∷ []) rest.more;
      spelled = cons bytes (line_of b t.0) lines (map (line_of b) rest.more) said.0 rest.spelled;
      good = (
        good_row b series (read_so_far b series before) t.0 j.none,
        subst (λ (u : ReadSoFar). AreGood b series u rest.more)
            (read_more b series before t.0) rest.good,
      );
      prefix = inr (by_prefix t.0 rest.more rest.are rest.prefix said.2);
    }
  where
    cons : (x y : List ℕ) (xs ys : List (List ℕ)) → x ≡ y → xs ≡ ys → x ∷ xs ≡ y ∷ ys
    cons x y xs ys e f = rw (e, f) refl

    by_prefix : (i : Item) → (more : List Item) → items ≡ (before ++ i ∷ []) ++ more → (more ≡ []) ⊎ IsPrefix b items →
        IsPrefix b (before ++ i ∷ []) → IsPrefix b items
    by_prefix i more are (inr prefix) own = prefix
    by_prefix i more are (inl none) own = subst (λ (xs : List Item). IsPrefix b xs)
        (sym (are ∙ (ap (λ ys. (before ++ i ∷ []) ++ ys) none ∙ append-nil (before ++ i ∷ [])))) own

-- a yes to a whole text
pub record IsYes (b : Basin) (series : Series) (lines : List (List ℕ)) (rest : List ℕ) (items : List Item) : Type 0
  where
    pub lines_good : verdict_from b series [] lines ≡ Ok items
    pub whole : is_whole items ≡ true
    pub no_rest : rest ≡ []

pub yes_says : {b : Basin} {series : Series} {lines : List (List ℕ)} {rest : List ℕ} {items : List Item} →
    verdict b series lines rest ≡ Ok items → IsYes b series lines rest items
yes_says h = grind arith

pub says_yes : (b : Basin) (series : Series) (lines : List (List ℕ)) {items : List Item} →
    verdict_from b series [] lines ≡ Ok items → is_whole items ≡ true → verdict b series lines [] ≡ Ok items
says_yes b series lines good whole = rw (good, whole) refl
