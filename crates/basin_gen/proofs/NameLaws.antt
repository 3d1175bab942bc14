-- A letter and a number are a name.
use Rattle.std.proofs.Common.{◌≡◌, ℕ, ◌^◌, ◌<◌, ◌≤◌, Bool, true, refl, sym, ◌∙◌, arith, List, [], ◌∷◌, ◌++◌, length}
use Rattle.std.proofs.Common.{length-append}
use Rattle.std.specs.Prelude.{◌&&◌, nat_le, Option, Some, None, if◌then◌else◌}
use Rattle.std.specs.Char.{is_ascii_digit}
use Rattle.std.specs.Fmt.{decimal}
use Rattle.std.specs.List.{list_all}
use Rattle.std.proofs.lemmas.Bool.{and_parts, and_from}
use Rattle.std.proofs.lemmas.Bool.Decides.{nat_tests}
use Rattle.std.proofs.lemmas.Fmt.{digits_decimal}
use Rattle.std.proofs.lemmas.List.Folds.{list_all-append}
use Rattle.water_text.specs.Names.{is_name, is_name_byte}
use Rattle.water_text.proofs.AmountLaws.{decimal_short}
use Rattle.water_text.proofs.Values.{numerals, digits_by_list}

digit_in_name : (c : ℕ) → is_ascii_digit c ≡ true → is_name_byte c ≡ true
digit_in_name c h = grind (arith, nat_tests)

digits_in_name : (ds : List ℕ) → list_all is_ascii_digit ds ≡ true → list_all is_name_byte ds ≡ true
digits_in_name [] h = refl
digits_in_name (d ∷ ds) h =
    let both = and_parts (is_ascii_digit d) (list_all is_ascii_digit ds) h in
    and_from (is_name_byte d) (list_all is_name_byte ds) (digit_in_name d both.0) (digits_in_name ds both.1)

decimal_in_name : (n : ℕ) → n < 2 ^ 64 → list_all is_name_byte (decimal n) ≡ true
decimal_in_name n h = digits_in_name (decimal n) (sym (digits_by_list (decimal n)) ∙ digits_decimal numerals n h)

-- few bytes that may stand in names
name_of : (text : List ℕ) → 1 ≤ length text → length text ≤ 32 → list_all is_name_byte text ≡ true → is_name text ≡ true
unfolding is_name
name_of text some bounded each = tests (length text) (list_all is_name_byte text) some bounded each
  where
    tests : (n : ℕ) (t : Bool) → 1 ≤ n → n ≤ 32 → t ≡ true → nat_le 1 n && (nat_le n 32 && t) ≡ true
    tests n t a b c = grind (arith, nat_tests)

pub numbered_is_name : (letter n : ℕ) → is_name_byte letter ≡ true → n < 2 ^ 64 → is_name (letter ∷ decimal n) ≡ true
numbered_is_name letter n h small =
    let short = decimal_short n small in
    name_of (letter ∷ decimal n) (omega arith) (omega arith)
    (and_from (is_name_byte letter) (list_all is_name_byte (decimal n)) h (decimal_in_name n small))

pub zone_is_name : (mark n : ℕ) → is_name_byte mark ≡ true → n < 2 ^ 64 → is_name (122 ∷ decimal n ++ mark ∷ []) ≡ true
zone_is_name mark n h small =
    let short = decimal_short n small in
    let long = length-append (decimal n) (mark ∷ []) in
    name_of (122 ∷ decimal n ++ mark ∷ []) (omega arith) (omega arith)
    (list_all-append is_name_byte (decimal n) (mark ∷ [])
    ∙ and_from (list_all is_name_byte (decimal n)) (list_all is_name_byte (mark ∷ [])) (decimal_in_name n small)
    (and_from (is_name_byte mark) true h refl))

-- a name is read
pub read_name : (text : List ℕ) (read : Option (List ℕ)) → read ≡ (if is_name text then Some text else None) →
    is_name text ≡ true →
    read ≡ None → ⊥
read_name text read is good none = let some : read ≡ Some text = rw good at is in cc

pub ruleset names = (numbered_is_name, zone_is_name, read_name, decimal_short)
