-- The value of decimal digits, digit by digit.
use Rattle.std.proofs.Common.{◌≡◌, refl, ℕ, ◌+◌, ◌-◌, ◌*◌, ◌^◌, ◌<◌, ◌≤◌, true, ◌∙◌, ap, arith, List, [], ◌∷◌, length}
use Rattle.std.proofs.Common.{take, get_or, take_all}
use Rattle.std.specs.Char.{digit_value, is_ascii_digit}
use Rattle.std.specs.List.{list_all}
use Rattle.std.specs.Int.{IsInRange}
use Rattle.std.specs.Str.{all_ascii_digits}
use Rattle.std.specs.Str.Parse.{digits_value}
use Rattle.std.proofs.lemmas.Int.Digits.{digits_value_more}
use Rattle.std.proofs.lemmas.Str.Parse.{IsNumeralModel, numerals_by_value, tells_all_ascii_digits, digits_value_short}
use Rattle.std.proofs.lemmas.Str.Parse.{digits_value-take-le, digit_at}
use Rattle.std.proofs.lemmas.Bool.Decides.{nat_tests}

-- std's words on numerals, for texts that pass the test
pub numerals : IsNumeralModel (λ ds. all_ascii_digits ds ≡ true) (digits_value 10)
numerals = numerals_by_value (λ ds. all_ascii_digits ds ≡ true) tells_all_ascii_digits

-- a digit of such a text
pub digit_within : (ds : List ℕ) (i : ℕ) → all_ascii_digits ds ≡ true → i < length ds → IsInRange 48 57 (get_or ds i 0)
digit_within ds i h l = digit_at ds i (numerals.to ds h) l

-- the value of a digit
digit_is : (c : ℕ) → IsInRange 48 57 c → digit_value c ≡ c - 48
digit_is c h = grind (arith, nat_tests)

-- one digit more
pub value_more : (ds : List ℕ) (i : ℕ) → all_ascii_digits ds ≡ true → i < length ds →
    digits_value 10 (take (i + 1) ds) ≡ digits_value 10 (take i ds) * 10 + (get_or ds i 0 - 48)
value_more ds i h l =
    let at : digit_value (get_or ds i 0) ≡ get_or ds i 0 - 48 = digit_is (get_or ds i 0) (digit_within ds i h l) in
    omega (arith, digits_value_more 10 ds i l)

-- k digits write a number below 10 ^ k
pub value_within : (ds : List ℕ) (k : ℕ) → all_ascii_digits ds ≡ true → length ds ≤ k → digits_value 10 ds < 10 ^ k
value_within ds k h l = digits_value_short numerals ds k h l

-- the value with one digit more is within 10 ^ 19
pub next_within : (ds : List ℕ) (i value : ℕ) → all_ascii_digits ds ≡ true → length ds ≤ 19 → i < length ds →
    value ≡ digits_value 10 (take i ds) → value * 10 + (get_or ds i 0 - 48) < 10 ^ 19
next_within ds i value h short l e =
    omega (arith, value_more ds i h l, digits_value-take-le 10 ds (i + 1) (omega arith), value_within ds 19 h short)

-- the whole text at the end
pub value_whole : (ds : List ℕ) (i value : ℕ) → length ds ≤ i → value ≡ digits_value 10 (take i ds) →
    value ≡ digits_value 10 ds
value_whole ds i value l e = e ∙ ap (digits_value 10) (take_all i ds l)

-- the test of a text as one of each byte
pub digits_by_list : (ds : List ℕ) → all_ascii_digits ds ≡ list_all is_ascii_digit ds
digits_by_list [] = refl
digits_by_list (d ∷ ds) = rw (digits_by_list ds) refl
