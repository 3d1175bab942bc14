-- Plain amounts are read as they are spelled, and spelled as they are read.
use Rattle.std.proofs.Common.{◌≡◌, ℕ, ◌^◌, ◌<◌, ◌≤◌, Bool, true, false, refl, sym, ap, ◌∙◌, arith, List, length, get_or}
use Rattle.std.proofs.Common.{inl, inr}
use Rattle.std.specs.Prelude.{Some, None, ◌&&◌, ◌==◌, nat_lt, nat_le, if◌then◌else◌}
use Rattle.std.specs.Fmt.{decimal}
use Rattle.std.specs.Str.{all_ascii_digits}
use Rattle.std.specs.Str.Parse.{digits_value}
use Rattle.std.proofs.lemmas.Bool.{cases_lt}
use Rattle.std.proofs.lemmas.Bool.Decides.{nat_tests}
use Rattle.std.proofs.lemmas.Fmt.{decimal_digit, decimal_nonempty, first_decimal, length-decimal-le, digits_decimal}
use Rattle.std.proofs.lemmas.Fmt.{digits_value-decimal, decimal-digits_value}
use Rattle.water_text.specs.Amounts.{is_amount, has_leading_zero, read_amount, read_plain}
use Rattle.water_text.proofs.Values.{numerals, value_within}

-- the spelling of a number has 1 to 19 digits
spelling_is_amount : (n : ℕ) → n < 10 ^ 19 → is_amount (decimal n) ≡ true
spelling_is_amount n h =
    tests (length (decimal n)) (all_ascii_digits (decimal n)) (decimal_nonempty n (omega arith))
    (length-decimal-le 19 n (omega arith) h (omega arith)) (digits_decimal numerals n (omega arith))
  where
    tests : (k : ℕ) (d : Bool) → 0 < k → k ≤ 19 → d ≡ true → (nat_le 1 k && nat_le k 19) && d ≡ true
    tests k d some short e = grind (arith, nat_tests)

-- and no leading zero
no_leading_zero : (n : ℕ) → n < 10 ^ 19 → has_leading_zero (decimal n) ≡ false
no_leading_zero n h = elim (cases_lt n 10) [
  | inl one ↦ ap has_leading_zero (decimal_digit n one)
  | inr more ↦ tests (length (decimal n)) (get_or (decimal n) 0 0) (first_decimal n (omega arith) (omega arith))
]
  where
    tests : (k c : ℕ) → 48 < c → nat_lt 1 k && c == 48 ≡ false
    tests k c l = grind (arith, nat_tests)

-- a number that is spelled is read
pub read_plain-decimal : (n limit : ℕ) → n ≤ limit → n < 10 ^ 19 → read_plain (decimal n) limit ≡ Some n
unfolding read_plain read_amount
read_plain-decimal n limit within fits =
    let value : digits_value 10 (decimal n) ≡ n = digits_value-decimal numerals n (omega arith) in
    let less : nat_le n limit ≡ true = at_most n limit within in
    rw (no_leading_zero n fits, spelling_is_amount n fits, value, less) refl
  where
    at_most : (x y : ℕ) → x ≤ y → nat_le x y ≡ true
    at_most x y h = grind (arith, nat_tests)

-- what a reading says of the text
pub record IsRead (text : List ℕ) (limit n : ℕ) : Type 0 where
  pub some : 0 < length text
  pub short : length text ≤ 19
  pub digits : all_ascii_digits text ≡ true
  pub value : digits_value 10 text ≡ n
  pub within : n ≤ limit
  pub fits : n < 10 ^ 19

-- what the reader of amounts answers
pub amount_is_read : (text : List ℕ) (limit n : ℕ) → read_amount text limit ≡ Some n → IsRead text limit n
unfolding read_amount
amount_is_read text limit n h =
    by_tests (nat_le 1 (length text)) (nat_le (length text) 19) (all_ascii_digits text)
    (nat_le (digits_value 10 text) limit) refl refl refl refl h
  where
    by_tests : (a b c d : Bool) → nat_le 1 (length text) ≡ a → nat_le (length text) 19 ≡ b → all_ascii_digits text ≡ c →
        nat_le (digits_value 10 text) limit ≡ d →
        (if ((a && b) && c) && d then Some (digits_value 10 text) else None) ≡ Some n → IsRead text limit n
    by_tests true true true true p q r s e =
        let value : digits_value 10 text ≡ n = cc in
        let short : length text ≤ 19 = at_most (length text) 19 q in
        let within : digits_value 10 text ≤ limit = at_most (digits_value 10 text) limit s in
        record {
          some = at_most 1 (length text) p;
          short = short;
          digits = r;
          value = value;
          within = omega arith;
          fits = omega (arith, value_within text 19 r short);
        }
      where
        at_most : (x y : ℕ) → nat_le x y ≡ true → x ≤ y
        at_most x y h = grind (arith, nat_tests)
    by_tests false b c d p q r s e = cc
    by_tests true false c d p q r s e = cc
    by_tests true true false d p q r s e = cc
    by_tests true true true false p q r s e = cc

-- what is read as a plain number is its spelling
pub record IsPlainlyRead (text : List ℕ) (limit n : ℕ) : Type 0 where
  pub spelled : text ≡ decimal n
  pub within : n ≤ limit

-- what the reader of plain amounts answers
pub plain_is_read : (text : List ℕ) (limit n : ℕ) → read_plain text limit ≡ Some n → IsPlainlyRead text limit n
unfolding read_plain
plain_is_read text limit n h = by_test (has_leading_zero text) refl h
  where
    leading : (k c : ℕ) → 0 < k → nat_lt 1 k && c == 48 ≡ false → c ≡ 48 → k ≡ 1
    leading k c some e same = grind (arith, nat_tests)

    by_test : (t : Bool) → has_leading_zero text ≡ t → (if t then None else read_amount text limit) ≡ Some n →
        IsPlainlyRead text limit n
    by_test true e h = cc
    by_test false e h =
        let r = amount_is_read text limit n h in
        let v : digits_value 10 text < 2 ^ 64 = omega arith in
        let same : decimal (digits_value 10 text) ≡ text =
        decimal-digits_value numerals text r.digits r.some (leading (length text) (get_or text 0 0) r.some e) v in
        record { spelled = sym same ∙ ap decimal r.value; within = r.within }

-- a number of 64 bits has at most 20 digits
pub decimal_short : (n : ℕ) → n < 2 ^ 64 → length (decimal n) ≤ 20
decimal_short n h = length-decimal-le 20 n (omega arith) (omega arith) h
