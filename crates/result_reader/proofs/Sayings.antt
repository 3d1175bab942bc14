-- What is read is what the line says.
use Rattle.std.proofs.Common.{◌≡◌, subst, ℕ, ◌^◌, ◌<◌, ◌≤◌, Bool, true, false, refl, sym, ap, ◌∙◌, arith, List, [], ◌∷◌}
use Rattle.std.proofs.Common.{length, Option, Some, None}
use Rattle.std.specs.Prelude.{Result, Ok, Err, nat_le, nat_lt, codes, if◌then◌else◌}
use Rattle.std.specs.Fmt.{decimal}
use Rattle.std.specs.List.{join_with_byte}
use Rattle.std.specs.Option.{ok_or}
use Rattle.std.specs.Str.{bytes_eq}
use Rattle.std.proofs.lemmas.Bool.Decides.{nat_tests}
use Rattle.std.proofs.lemmas.List.Splits.{join_with_byte-slice_split}
use Rattle.std.proofs.lemmas.Slice.Eq.{bytes_eq-Decides}
use Rattle.water_text.proofs.AmountLaws.{plain_is_read}
use Rattle.water_text.proofs.MonthLaws.{month_is_read}
use Rattle.water_text.specs.Amounts.{read_plain}
use Rattle.water_text.specs.Fields.{pieces_of}
use Rattle.water_text.specs.Months.{IsMonth, month_digits}
use Rattle.water_text.specs.declared.month.Month.{Month}
use Rattle.water_model.specs.Entries.{count_in, name_in}
use Rattle.result_lines.specs.Quantities.{space_of}
use Rattle.result_lines.specs.Spelling.{fields_of, line_of}
use Rattle.result_lines.specs.declared.item.Item.{Item}
use Rattle.result_lines.specs.declared.item.Item.TheVariants as line
use Rattle.water_model.specs.declared.space.Space.{Space}
use Rattle.water_model.specs.declared.space.Space.TheVariants as space
use Rattle.water_model.specs.declared.types.Basin.{Basin}
use Rattle.basin_names.specs.Named.{named}
use Rattle.basin_names.proofs.Names.{named_is}
use Rattle.result_reader.specs.OfText.{IsOfText}
use Rattle.result_reader.specs.Reading.{and_then, no_field, one_field, two_fields, three_fields, name_field}
use Rattle.result_reader.specs.Reading.{month_field, amount_field, count_field, entry_named, item_with, item_in}
use Rattle.result_reader.specs.Reading.{item_of}
use Rattle.result_reader.specs.Words.{spelling_of, word_of}
use Rattle.result_reader.specs.declared.bad_line.BadLine.{BadLine}
use Rattle.result_reader.specs.declared.bad_line.BadLine.TheVariants as bad
use Rattle.result_reader.specs.declared.words.Word.{Word}
use Rattle.result_reader.specs.declared.words.Word.TheVariants as word
use Rattle.result_reader.proofs.WordLaws.{word_spelled}

-- a good answer comes from good answers
pub through : {X Y : Type 0} (r : Result X BadLine) (f : X → Result Y BadLine) (y : Y) → and_then r f ≡ Ok y → (x : X) ×
    (r ≡ Ok x) × (f x ≡ Ok y)
through (Ok x) f y h = (x, refl, h)
through (Err why) f y h = let never : Err why ≡ Ok y = h in cc

ok_or-Ok : {X : Type 0} (o : Option X) (why : BadLine) (x : X) → ok_or o why ≡ Ok x → o ≡ Some x
ok_or-Ok None why x h = let never : Err why ≡ Ok x = h in cc
ok_or-Ok (Some y) why x h = let same : Ok y ≡ Ok x = h in cc

-- The fields.

no_field-Ok : (fields : List (List ℕ)) (u : Unit {0}) → no_field fields ≡ Ok u → fields ≡ []
no_field-Ok [] u h = refl
no_field-Ok (x ∷ fields) u h = cc

one_field-Ok : (fields : List (List ℕ)) (x : List ℕ) → one_field fields ≡ Ok x → fields ≡ x ∷ []
one_field-Ok [] x h = cc
one_field-Ok (y ∷ fields) x h = grind (arith, nat_tests, through, no_field-Ok)

two_fields-Ok : (fields : List (List ℕ)) (f : List ℕ × List ℕ) → two_fields fields ≡ Ok f → fields ≡ f.0 ∷ f.1 ∷ []
two_fields-Ok [] f h = cc
two_fields-Ok (x ∷ fields) f h = grind (arith, nat_tests, through, one_field-Ok)

three_fields-Ok : (fields : List (List ℕ)) (f : List ℕ × List ℕ × List ℕ) → three_fields fields ≡ Ok f →
    fields ≡ f.0 ∷ f.1 ∷ f.2 ∷ []
three_fields-Ok [] f h = cc
three_fields-Ok (x ∷ fields) f h = grind (arith, nat_tests, through, two_fields-Ok)

name_field-Ok : (field name : List ℕ) → name_field field ≡ Ok name → field ≡ name
name_field-Ok field name h = grind (arith, nat_tests)

-- a field that is read as a number is its spelling
pub amount_field-Ok : (field : List ℕ) (n : ℕ) → amount_field field ≡ Ok n → (field ≡ decimal n) × (n ≤ 10 ^ 15)
amount_field-Ok field n h =
    let r = plain_is_read field (10 ^ 15) n (ok_or-Ok (read_plain field (10 ^ 15)) bad.BadField n h) in
    (r.spelled, r.within)

count_field-Ok : (field : List ℕ) (n : ℕ) → count_field field ≡ Ok n → (field ≡ decimal n) × (1 ≤ n) × (n ≤ 1200)
count_field-Ok field n h =
    let t = through (ok_or (read_plain field 1200) bad.BadField)
    (λ count. if nat_le 1 count then Ok count else Err bad.BadField) n h in
    let r = plain_is_read field 1200 t.0 (ok_or-Ok (read_plain field 1200) bad.BadField t.0 t.1) in
    let s = by_test t.0 (nat_le 1 t.0) refl t.2 in
    (r.spelled ∙ ap decimal s.0, s.1, omega (arith, r.within, s.0))
  where
    some : (k : ℕ) → nat_le 1 k ≡ true → 1 ≤ k
    some k e = grind (arith, nat_tests)

    by_test : (k : ℕ) (t : Bool) → nat_le 1 k ≡ t → (if t then Ok k else Err bad.BadField) ≡ Ok n → (k ≡ n) × (1 ≤ n)
    by_test k true e g = let is : k ≡ n = cc in (is, omega (arith, some k e))
    by_test k false e g = cc

month_field-Ok : (field : List ℕ) (m : Month) → month_field field ≡ Ok m → (field ≡ month_digits m) × IsMonth m
month_field-Ok field m h =
    let r = month_is_read field m (ok_or-Ok _ bad.BadField m h) in
    (r.spelled, r.month)

-- an entry that is named has the name
entry_named-Ok : (b : Basin) (space : Space) (name : List ℕ) (at : ℕ) → entry_named b space name ≡ Ok at →
    (name ≡ name_in space b at) × (at < count_in space b)
entry_named-Ok b space name at h =
    let n = named_is b space name at (ok_or-Ok (named b space name) bad.OutOfPlace at h) in (sym n.0, n.1)

-- Word by word.

-- the word and the fields are those of an item of the basin
record Says (b : Basin) (w : Word) (fields : List (List ℕ)) (i : Item) : Type 0 where
  spelled : spelling_of w ∷ fields ≡ fields_of b i
  of_text : IsOfText b i

-- the same for an item that is known
says : {b : Basin} {w : Word} {fields xs : List (List ℕ)} {i j : Item} → fields ≡ xs →
    spelling_of w ∷ xs ≡ fields_of b i → IsOfText b i → i ≡ j → Says b w fields j
says {b} {w} {fields} are spelled of_text same = subst (λ (k : Item). Says b w fields k) same (record {
  spelled = ap (λ ys. spelling_of w ∷ ys) are ∙ spelled;
  of_text = of_text;
})

two : {x x' y y' : List ℕ} → x ≡ x' → y ≡ y' → x ∷ y ∷ [] ≡ x' ∷ y' ∷ []
two e f = rw (e, f) refl

three : {x x' y y' z z' : List ℕ} → x ≡ x' → y ≡ y' → z ≡ z' → x ∷ y ∷ z ∷ [] ≡ x' ∷ y' ∷ z' ∷ []
three e f g = rw (e, f, g) refl

Ok-same : {X : Type 0} {x y : X} → (let r : Result X BadLine = Ok x in r) ≡ Ok y → x ≡ y
Ok-same h = cc

item_with-Ok : (b : Basin) (w : Word) (fields : List (List ℕ)) (i : Item) → item_with b w fields ≡ Ok i →
    Says b w fields i
unfolding item_with fields_of
item_with-Ok b word.Title fields i h =
    let x = through (one_field fields) _ i h in
    by_test x.0 (bytes_eq x.0 (codes "1")) refl (one_field-Ok fields x.0 x.1) x.2
  where
    by_test : (x : List ℕ) (t : Bool) → bytes_eq x (codes "1") ≡ t → fields ≡ x ∷ [] →
        (if t then Ok line.Title else Err bad.BadField) ≡ Ok i → Says b word.Title fields i
    by_test x true e are g =
        says (are ∙ ap (λ y. y ∷ []) ((bytes_eq-Decides x (codes "1")).0 e)) refl
        (record { of_basin = tt; numbers = tt }) (Ok-same g)
    by_test x false e are g = cc
item_with-Ok b word.Run fields i h =
    let f = through (two_fields fields) _ i h in
    let m = through (month_field f.0.0) _ i f.2 in
    let n = through (count_field f.0.1) _ i m.2 in
    let month = month_field-Ok f.0.0 m.0 m.1 in
    let count = count_field-Ok f.0.1 n.0 n.1 in
    says (two_fields-Ok fields f.0 f.1 ∙ two month.0 count.0) refl
    (record { of_basin = month.1; numbers = (count.1, count.2) }) (Ok-same n.2)
item_with-Ok b word.Month fields i h =
    let x = through (one_field fields) _ i h in
    let m = through (month_field x.0) _ i x.2 in
    let month = month_field-Ok x.0 m.0 m.1 in
    says (one_field-Ok fields x.0 x.1 ∙ ap (λ y. y ∷ []) month.0) refl
    (record { of_basin = month.1; numbers = tt }) (Ok-same m.2)
item_with-Ok b (word.Amount q) fields i h =
    let f = through (two_fields fields) _ i h in
    let name = through (name_field f.0.0) _ i f.2 in
    let n = through (amount_field f.0.1) _ i name.2 in
    let at = through (entry_named b (space_of q) name.0) _ i n.2 in
    let number = amount_field-Ok f.0.1 n.0 n.1 in
    let entry = entry_named-Ok b (space_of q) name.0 at.0 at.1 in
    says (two_fields-Ok fields f.0 f.1 ∙ two (name_field-Ok f.0.0 name.0 name.1 ∙ entry.0) number.0) refl
    (record { of_basin = entry.1; numbers = number.1 }) (Ok-same at.2)
item_with-Ok b word.Deliver fields i h =
    let f = through (three_fields fields) _ i h in
    let name = through (name_field f.0.0) _ i f.2 in
    let n = through (amount_field f.0.1) _ i name.2 in
    let w = through (amount_field f.0.2) _ i n.2 in
    let at = through (entry_named b space.Rights name.0) _ i w.2 in
    let number = amount_field-Ok f.0.1 n.0 n.1 in
    let want = amount_field-Ok f.0.2 w.0 w.1 in
    let entry = entry_named-Ok b space.Rights name.0 at.0 at.1 in
    says (three_fields-Ok fields f.0 f.1 ∙ three (name_field-Ok f.0.0 name.0 name.1 ∙ entry.0) number.0 want.0) refl
    (record { of_basin = entry.1; numbers = (number.1, want.1) }) (Ok-same at.2)
item_with-Ok b word.Call fields i h =
    let x = through (one_field fields) _ i h in
    let name = through (name_field x.0) _ i x.2 in
    let at = through (entry_named b space.Rights name.0) _ i name.2 in
    let entry = entry_named-Ok b space.Rights name.0 at.0 at.1 in
    says (one_field-Ok fields x.0 x.1 ∙ ap (λ y. y ∷ []) (name_field-Ok x.0 name.0 name.1 ∙ entry.0)) refl
    (record { of_basin = entry.1; numbers = tt }) (Ok-same at.2)
item_with-Ok b word.Member fields i h =
    let x = through (one_field fields) _ i h in
    let name = through (name_field x.0) _ i x.2 in
    let at = through (entry_named b space.Nodes name.0) _ i name.2 in
    let entry = entry_named-Ok b space.Nodes name.0 at.0 at.1 in
    says (one_field-Ok fields x.0 x.1 ∙ ap (λ y. y ∷ []) (name_field-Ok x.0 name.0 name.1 ∙ entry.0)) refl
    (record { of_basin = entry.1; numbers = tt }) (Ok-same at.2)
item_with-Ok b word.Called fields i h =
    let f = through (two_fields fields) _ i h in
    let name = through (name_field f.0.0) _ i f.2 in
    let other = through (name_field f.0.1) _ i name.2 in
    let at = through (entry_named b space.Rights name.0) _ i other.2 in
    let by' = through (entry_named b space.Rights other.0) _ i at.2 in
    let entry = entry_named-Ok b space.Rights name.0 at.0 at.1 in
    let caller = entry_named-Ok b space.Rights other.0 by'.0 by'.1 in
    says (two_fields-Ok fields f.0 f.1
    ∙ two (name_field-Ok f.0.0 name.0 name.1 ∙ entry.0) (name_field-Ok f.0.1 other.0 other.1 ∙ caller.0)) refl
    (record { of_basin = (entry.1, caller.1); numbers = tt }) (Ok-same by'.2)
item_with-Ok b word.End fields i h =
    let x = through (no_field fields) _ i h in
    says (no_field-Ok fields x.0 x.1) refl (record { of_basin = tt; numbers = tt }) (Ok-same x.2)
item_with-Ok b word.Done fields i h =
    let x = through (one_field fields) _ i h in
    let n = through (count_field x.0) _ i x.2 in
    let count = count_field-Ok x.0 n.0 n.1 in
    says (one_field-Ok fields x.0 x.1 ∙ ap (λ y. y ∷ []) count.0) refl
    (record { of_basin = tt; numbers = (count.1, count.2) }) (Ok-same n.2)

-- The bytes.

-- what a line is, if something is read
pub record IsSaying (b : Basin) (bytes : List ℕ) (i : Item) : Type 0 where
  pub spelled : bytes ≡ line_of b i
  pub of_text : IsOfText b i
  pub short : length bytes ≤ 128

pub item_is_said : (b : Basin) (bytes : List ℕ) (i : Item) → item_of b bytes ≡ Ok i → IsSaying b bytes i
unfolding item_of line_of
item_is_said b bytes i h = by_length (nat_lt 128 (length bytes)) refl h
  where
    short : (n : ℕ) → nat_lt 128 n ≡ false → n ≤ 128
    short n e = grind (arith, nat_tests)

    by_pieces : (pieces : List (List ℕ)) → pieces_of bytes ≡ pieces → item_in b pieces ≡ Ok i →
        (pieces ≡ fields_of b i) × IsOfText b i
    by_pieces [] are g = cc
    by_pieces (first ∷ fields) are g =
        let w = through (ok_or (word_of first) bad.UnknownWord) (λ w. item_with b w fields) i g in
        let s = item_with-Ok b w.0 fields i w.2 in (
          ap (λ x. x ∷ fields) (word_spelled first w.0 (ok_or-Ok (word_of first) bad.UnknownWord w.0 w.1))
              ∙ s.spelled,
          s.of_text,
        )

    by_length : (t : Bool) → nat_lt 128 (length bytes) ≡ t →
        (if t then Err bad.OverLong else item_in b (pieces_of bytes)) ≡ Ok i → IsSaying b bytes i
    by_length true e g = cc
    by_length false e g =
        let p = by_pieces (pieces_of bytes) refl g in
        record {
          spelled = sym (join_with_byte-slice_split 32 bytes) ∙ ap (join_with_byte 32) p.0;
          of_text = p.1;
          short = short (length bytes) e;
        }
