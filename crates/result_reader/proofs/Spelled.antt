-- What is spelled is read.
use Rattle.std.proofs.Common.{◌≡◌, ℕ, ◌+◌, ◌%◌, ◌^◌, ◌<◌, ◌≤◌, Bool, true, false, refl, ap, ◌∙◌, arith, List}
use Rattle.std.proofs.Common.{[], ◌∷◌, ◌++◌, length, length-append}
use Rattle.std.specs.Prelude.{Some, Ok, ◌==◌, nat_le}
use Rattle.std.specs.Fmt.{decimal}
use Rattle.std.specs.List.{All, list_all, join_with_byte, slice_split}
use Rattle.std.proofs.lemmas.Bool.Decides.{nat_tests}
use Rattle.std.proofs.lemmas.Fmt.{decimal_by_steps}
use Rattle.std.proofs.lemmas.List.Folds.{list_all-append}
use Rattle.std.proofs.lemmas.List.Elements.{All-append, All-cons, All-head, All-nil, All-tail, All-weaker}
use Rattle.std.proofs.lemmas.List.Splits.{slice_split_at, slice_split_none}
use Rattle.std.proofs.lemmas.List.Sums.{AllPass-from_list_all, list_all-from_AllPass}
use Rattle.std.proofs.lemmas.Bool.{and_parts}
use Rattle.water_text.proofs.AmountLaws.{read_plain-decimal, decimal_short}
use Rattle.water_text.proofs.MonthLaws.{read_month-month_digits, length-month_digits}
use Rattle.water_text.specs.Amounts.{read_plain}
use Rattle.water_text.specs.Fields.{pieces_of}
use Rattle.water_text.specs.Months.{IsMonth, month_digits}
use Rattle.water_text.specs.Names.{is_name, is_name_byte}
use Rattle.water_text.specs.declared.month.Month.{Month}
use Rattle.water_model.specs.Entries.{count_in, name_in}
use Rattle.result_lines.specs.Quantities.{amount_word}
use Rattle.result_lines.specs.Spelling.{fields_of, line_of}
use Rattle.water_model.specs.Valid.{IsValidBasin}
use Rattle.result_lines.specs.declared.item.Item.{Item}
use Rattle.result_lines.specs.declared.item.Item.TheVariants as line
use Rattle.result_lines.specs.declared.quantity.Quantity.{Quantity}
use Rattle.water_model.specs.declared.space.Space.{Space}
use Rattle.water_model.specs.declared.space.Space.TheVariants as space
use Rattle.water_model.specs.declared.types.Basin.{Basin}
use Rattle.result_reader.specs.OfText.{IsOfText}
use Rattle.result_reader.specs.Reading.{count_field, item_with, item_in, item_of}
use Rattle.result_reader.specs.Words.{word_of}
use Rattle.result_reader.specs.declared.words.Word.TheVariants as word
use Rattle.basin_names.proofs.Names.{named-at}
use Rattle.result_reader.proofs.NameLaws.{name_is}
use Rattle.result_reader.proofs.WordLaws.{word_read}

-- bytes without a byte: a space, or a line feed
abbrev pub Lacks : ℕ → List ℕ → Type 0
Lacks byte bytes = All (λ c. (c == byte) ≡ false) bytes

-- what stands between the bytes at which a list is cut
abbrev pub cut_at : ℕ → List ℕ → List (List ℕ)
cut_at byte bytes = slice_split (λ c. c == byte) bytes

pub cut-first : (byte : ℕ) (x rest : List ℕ) → Lacks byte x → cut_at byte (x ++ (byte ∷ rest)) ≡ x ∷ cut_at byte rest
cut-first byte x rest h = grind (arith, nat_tests, slice_split_at)

-- the pieces of joined fields are the fields
pieces-join : (x : List ℕ) (xs : List (List ℕ)) → All (Lacks 32) (x ∷ xs) →
    pieces_of (join_with_byte 32 (x ∷ xs)) ≡ x ∷ xs
pieces-join x [] h = slice_split_none (λ c. c == 32) x (All-head (Lacks 32) x [] h)
pieces-join x (y ∷ ys) h =
    cut-first 32 x (join_with_byte 32 (y ∷ ys)) (All-head (Lacks 32) x (y ∷ ys) h)
    ∙ ap (λ t. x ∷ t) (pieces-join y ys (All-tail (Lacks 32) x (y ∷ ys) h))

-- No field has a byte below `-` (45), and so neither a space nor a line feed.

abbrev is_plain : List ℕ → Bool
is_plain bytes = list_all (λ c. nat_le 45 c) bytes

plain-lacks : (byte : ℕ) → byte < 45 → (bytes : List ℕ) → is_plain bytes ≡ true → Lacks byte bytes
plain-lacks byte low bytes h =
    All-weaker (λ c. nat_le 45 c ≡ true) (λ c. (c == byte) ≡ false) apart bytes
    (AllPass-from_list_all (λ c. nat_le 45 c) bytes h)
  where
    apart : (c : ℕ) → nat_le 45 c ≡ true → (c == byte) ≡ false
    apart c e = grind (arith, nat_tests)

plain-all : (byte : ℕ) → byte < 45 → (xs : List (List ℕ)) → list_all is_plain xs ≡ true → All (Lacks byte) xs
plain-all byte low xs h =
    All-weaker (λ x. is_plain x ≡ true) (Lacks byte) (plain-lacks byte low) xs (AllPass-from_list_all is_plain xs h)

digit : (d : ℕ) → nat_le 45 (48 + d) ≡ true
digit d = grind (arith, nat_tests)

decimal_plain : (n : ℕ) → n < 2 ^ 64 → is_plain (decimal n) ≡ true
decimal_plain n h = decimal_by_steps (λ m ds. is_plain ds ≡ true) one more n h
  where
    one : (m : ℕ) → m < 10 → is_plain ((48 + m) ∷ []) ≡ true
    one m l = rw (digit m) refl

    more : (m : ℕ) (ds : List ℕ) → 10 ≤ m → is_plain ds ≡ true → is_plain (ds ++ ((48 + m % 10) ∷ [])) ≡ true
    more m ds l k = list_all-append (λ c. nat_le 45 c) ds ((48 + m % 10) ∷ []) ∙ rw (k, digit (m % 10)) refl

month_plain : (m : Month) → IsMonth m → is_plain (month_digits m) ≡ true
month_plain m h = grind (arith, nat_tests, list_all-append, decimal_plain, digit)

name_plain : (bytes : List ℕ) → is_name bytes ≡ true → is_plain bytes ≡ true
unfolding is_name
name_plain bytes h =
    let two = and_parts (nat_le 1 (length bytes)) _ h in
    list_all-from_AllPass (λ c. nat_le 45 c) bytes (All-weaker (λ c. is_name_byte c ≡ true) (λ c. nat_le 45 c ≡ true)
    plain bytes (AllPass-from_list_all is_name_byte bytes (and_parts (nat_le (length bytes) 32) _ two.1).1))
  where
    plain : (c : ℕ) → is_name_byte c ≡ true → nat_le 45 c ≡ true
    plain c h = grind (arith, nat_tests)

entry_plain : (b : Basin) → IsValidBasin b → (s : Space) (at : ℕ) → at < count_in s b → is_plain (name_in s b at) ≡ true
entry_plain b valid s at l = name_plain (name_in s b at) (name_is b valid s at l)

-- The words of quantities.

word_plain : (q : Quantity) → is_plain (amount_word q) ≡ true
word_plain q = grind arith

word_short : (q : Quantity) → length (amount_word q) ≤ 12
word_short q = grind arith

fields_plain : (b : Basin) → IsValidBasin b → (i : Item) → IsOfText b i → list_all is_plain (fields_of b i) ≡ true
unfolding fields_of
fields_plain b valid line.Title o = refl
fields_plain b valid (line.Run first months) o = grind (arith, nat_tests, month_plain, decimal_plain)
fields_plain b valid (line.Month month) o = rw (month_plain month o.of_basin) refl
fields_plain b valid (line.Amount q entry amount) o = grind (arith, nat_tests, word_plain, entry_plain, decimal_plain)
fields_plain b valid (line.Deliver right amount want) o =
    rw (
      entry_plain b valid space.Rights right o.of_basin,
      decimal_plain amount (omega (arith, o.numbers.0)),
      decimal_plain want (omega (arith, o.numbers.1)),
    ) refl
fields_plain b valid (line.Call right) o = rw (entry_plain b valid space.Rights right o.of_basin) refl
fields_plain b valid (line.Member node) o = rw (entry_plain b valid space.Nodes node o.of_basin) refl
fields_plain b valid (line.Called right by') o =
    rw (entry_plain b valid space.Rights right o.of_basin.0, entry_plain b valid space.Rights by' o.of_basin.1) refl
fields_plain b valid line.End o = refl
fields_plain b valid (line.Done months) o = rw (decimal_plain months (omega (arith, o.numbers))) refl

some_fields : (b : Basin) (i : Item) → 0 < length (fields_of b i)
unfolding fields_of
some_fields b i = grind arith

line_pieces : (b : Basin) (i : Item) → All (Lacks 32) (fields_of b i) → pieces_of (line_of b i) ≡ fields_of b i
unfolding line_of
line_pieces b i h = by_fields (fields_of b i) h (some_fields b i)
  where
    by_fields : (xs : List (List ℕ)) → All (Lacks 32) xs → 0 < length xs → pieces_of (join_with_byte 32 xs) ≡ xs
    by_fields [] h l = absurd (omega arith)
    by_fields (x ∷ xs) h l = pieces-join x xs h

-- A line is short.

name_short : (bytes : List ℕ) → is_name bytes ≡ true → length bytes ≤ 32
unfolding is_name
name_short bytes h = grind (arith, nat_tests)

entry_short : (b : Basin) → IsValidBasin b → (s : Space) (at : ℕ) → at < count_in s b → length (name_in s b at) ≤ 32
entry_short b valid s at l = name_short (name_in s b at) (name_is b valid s at l)

number_short : (n : ℕ) → n ≤ 10 ^ 15 → length (decimal n) ≤ 20
number_short n h = decimal_short n (omega arith)

pub line_short : (b : Basin) → IsValidBasin b → (i : Item) → IsOfText b i → length (line_of b i) ≤ 128
unfolding line_of fields_of
line_short b valid line.Title o = omega arith
line_short b valid (line.Run first months) o =
    grind (arith, nat_tests, length-append, length-month_digits, number_short)
line_short b valid (line.Month month) o = grind (arith, length-append, length-month_digits month o.of_basin)
line_short b valid (line.Amount q entry amount) o =
    grind (arith, nat_tests, length-append, word_short, entry_short, number_short)
line_short b valid (line.Deliver right amount want) o =
    grind (
      arith,
      length-append,
      entry_short b valid space.Rights right o.of_basin,
      number_short amount o.numbers.0,
      number_short want o.numbers.1,
    )
line_short b valid (line.Call right) o = grind (arith, length-append, entry_short b valid space.Rights right o.of_basin)
line_short b valid (line.Member node) o = grind (arith, length-append, entry_short b valid space.Nodes node o.of_basin)
line_short b valid (line.Called right by') o =
    grind (
      arith,
      length-append,
      entry_short b valid space.Rights right o.of_basin.0,
      entry_short b valid space.Rights by' o.of_basin.1,
    )
line_short b valid line.End o = omega arith
line_short b valid (line.Done months) o = grind (arith, length-append, number_short months (omega (arith, o.numbers)))

-- The fields are read.

amount_read : (n : ℕ) → n ≤ 10 ^ 15 → read_plain (decimal n) (10 ^ 15) ≡ Some n
amount_read n h = read_plain-decimal n (10 ^ 15) h (omega arith)

count_read : (n : ℕ) → 1 ≤ n → n ≤ 1200 → count_field (decimal n) ≡ Ok n
count_read n low high = grind (arith, nat_tests, read_plain-decimal)

item_in-fields : (b : Basin) → IsValidBasin b → (i : Item) → IsOfText b i → item_in b (fields_of b i) ≡ Ok i
unfolding fields_of word_of item_with
item_in-fields b valid line.Title o = refl
item_in-fields b valid (line.Run first months) o = grind (arith, nat_tests, read_month-month_digits, count_read)
item_in-fields b valid (line.Month month) o = rw (read_month-month_digits month o.of_basin) refl
item_in-fields b valid (line.Amount q entry amount) o =
    grind (arith, nat_tests, word_read (word.Amount q), name_is, amount_read, named-at)
item_in-fields b valid (line.Deliver right amount want) o =
    rw (
      name_is b valid space.Rights right o.of_basin,
      amount_read amount o.numbers.0,
      amount_read want o.numbers.1,
      named-at b valid space.Rights right o.of_basin,
    ) refl
item_in-fields b valid (line.Call right) o =
    rw (name_is b valid space.Rights right o.of_basin, named-at b valid space.Rights right o.of_basin) refl
item_in-fields b valid (line.Member node) o =
    rw (name_is b valid space.Nodes node o.of_basin, named-at b valid space.Nodes node o.of_basin) refl
item_in-fields b valid (line.Called right by') o =
    rw (
      name_is b valid space.Rights right o.of_basin.0,
      name_is b valid space.Rights by' o.of_basin.1,
      named-at b valid space.Rights right o.of_basin.0,
      named-at b valid space.Rights by' o.of_basin.1,
    ) refl
item_in-fields b valid line.End o = refl
item_in-fields b valid (line.Done months) o = rw (count_read months o.numbers.0 o.numbers.1) refl

-- A line that is spelled says its item.
pub item-line : (b : Basin) → IsValidBasin b → (i : Item) → IsOfText b i → item_of b (line_of b i) ≡ Ok i
unfolding item_of
item-line b valid i o = grind (arith, nat_tests, line_short, line_pieces, plain-all, fields_plain, item_in-fields)

-- A line has no line feed.
pub line_lacks_feed : (b : Basin) → IsValidBasin b → (i : Item) → IsOfText b i → Lacks 10 (line_of b i)
unfolding line_of
line_lacks_feed b valid i o =
    joined (fields_of b i) (plain-all 10 (omega arith) (fields_of b i) (fields_plain b valid i o))
  where
    joined : (xs : List (List ℕ)) → All (Lacks 10) xs → Lacks 10 (join_with_byte 32 xs)
    joined [] h = All-nil (λ c. (c == 10) ≡ false)
    joined (x ∷ []) h = All-head (Lacks 10) x [] h
    joined (x ∷ y ∷ ys) h =
        All-append (λ c. (c == 10) ≡ false) x (32 ∷ join_with_byte 32 (y ∷ ys)) (All-head (Lacks 10) x (y ∷ ys) h)
        (All-cons (λ c. (c == 10) ≡ false) 32 (join_with_byte 32 (y ∷ ys)) refl
        (joined (y ∷ ys) (All-tail (Lacks 10) x (y ∷ ys) h)))
