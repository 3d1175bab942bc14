-- Months are read as they are spelled, and spelled as they are read.
use Rattle.std.proofs.Common.{◌≡◌, ℕ, ◌+◌, ◌*◌, ◌/◌, ◌%◌, ◌<◌, ◌≤◌, Bool, true, false, refl, sym, ap, ◌∙◌, arith}
use Rattle.std.proofs.Common.{List, [], ◌∷◌, ◌++◌, length, subst}
use Rattle.std.specs.Prelude.{Some, None, ◌&&◌, ◌==◌, nat_le, codes, slice_range, if◌then◌else◌}
use Rattle.std.specs.Char.{digit_value, is_ascii_digit}
use Rattle.std.specs.Int.{IsInRange}
use Rattle.std.specs.Fmt.{decimal}
use Rattle.std.specs.Str.{all_ascii_digits}
use Rattle.std.specs.Str.Parse.{digits_value}
use Rattle.std.proofs.lemmas.Bool.Decides.{nat_tests}
use Rattle.std.proofs.lemmas.Fmt.{decimal_step, decimal_digit, digits_value-decimal, decimal-digits_value}
use Rattle.std.proofs.lemmas.Str.{digit_value_digit}
use Rattle.water_text.specs.declared.month.Month.{Month}
use Rattle.water_text.specs.Months.{IsMonth, is_month, read_month, month_digits}
use Rattle.water_text.specs.Shapes.{has_shape}
use Rattle.water_text.proofs.Values.{numerals}
use Rattle.water_text.proofs.ShapeLaws.{both, shape_length}

-- the digits of a year
abbrev year_digits : ℕ → List ℕ
year_digits y = (48 + y / 10 / 10 / 10) ∷ (48 + y / 10 / 10 % 10) ∷ (48 + y / 10 % 10) ∷ (48 + y % 10) ∷ []

-- a number of four digits is spelled by them
pub decimal_year : (y : ℕ) → 1000 ≤ y → y ≤ 9999 → decimal y ≡ year_digits y
decimal_year y low high =
    decimal_step y (omega arith) (omega arith)
    ∙ ap (λ ds. ds ++ ((48 + y % 10) ∷ [])) (
    decimal_step (y / 10) (omega arith) (omega arith)
    ∙ ap (λ ds. ds ++ ((48 + y / 10 % 10) ∷ [])) (
    decimal_step (y / 10 / 10) (omega arith) (omega arith)
    ∙ ap (λ ds. ds ++ ((48 + y / 10 / 10 % 10) ∷ [])) (decimal_digit (y / 10 / 10 / 10) (omega arith))))

-- a month has seven bytes
pub length-month_digits : (m : Month) → IsMonth m → length (month_digits m) ≡ 7
length-month_digits m h =
    ap (λ ds. length (ds ++ (45 ∷ (48 + m.month / 10) ∷ (48 + m.month % 10) ∷ [])))
    (decimal_year m.year (omega (arith, h.year)) (omega (arith, h.year)))

-- months of one year and one number are one
pub same_month : (m n : Month) → m.year ≡ n.year → m.month ≡ n.month → m ≡ n
same_month m n years months = λ i. record { year = years i; month = months i }

-- a number below ten has a digit
pub is_digit : (d : ℕ) → d < 10 → is_ascii_digit (48 + d) ≡ true
is_digit d h = grind (arith, nat_tests)

-- six digits round a dash have the shape of a month
spelling_has_shape : (a b c d e f : ℕ) → a < 10 → b < 10 → c < 10 → d < 10 → e < 10 → f < 10 →
    has_shape (codes "dddd-dd") ((48 + a) ∷ (48 + b) ∷ (48 + c) ∷ (48 + d) ∷ 45 ∷ (48 + e) ∷ (48 + f) ∷ []) ≡ true
unfolding has_shape
spelling_has_shape a b c d e f ha hb hc hd he hf =
    rw (is_digit a ha, is_digit b hb, is_digit c hc, is_digit d hd, is_digit e he, is_digit f hf) refl

-- two digits have the value that they spell
pub two_digits : (m : ℕ) → m ≤ 99 → digits_value 10 ((48 + m / 10) ∷ (48 + m % 10) ∷ []) ≡ m
two_digits m h =
    let tens : digit_value (48 + m / 10) + 48 ≡ 48 + m / 10 =
    digit_value_digit (48 + m / 10) (omega arith, omega arith) in
    let ones : digit_value (48 + m % 10) + 48 ≡ 48 + m % 10 =
    digit_value_digit (48 + m % 10) (omega arith, omega arith) in
    omega arith

-- a month within the range passes the test
passes : (m : Month) → IsMonth m → is_month m ≡ true
passes m h = tests m.year m.month h.year.0 h.year.1 h.month.0 h.month.1
  where
    tests : (y k : ℕ) → 1800 ≤ y → y ≤ 2999 → 1 ≤ k → k ≤ 12 →
        (nat_le 1800 y && nat_le y 2999) && (nat_le 1 k && nat_le k 12) ≡ true
    tests y k a b c d = grind (arith, nat_tests)

-- a month that is spelled is read
pub read_month-month_digits : (m : Month) → IsMonth m → read_month (month_digits m) ≡ Some m
unfolding read_month
read_month-month_digits m h =
    let low : 1000 ≤ m.year = omega (arith, h.year) in
    let high : m.year ≤ 9999 = omega (arith, h.year) in
    let year_is = decimal_year m.year low high in
    let year : digits_value 10 (year_digits m.year) ≡ m.year =
    ap (digits_value 10) (sym year_is) ∙ digits_value-decimal numerals m.year (omega arith) in
    let month : digits_value 10 ((48 + m.month / 10) ∷ (48 + m.month % 10) ∷ []) ≡ m.month =
    two_digits m.month (omega (arith, h.month)) in
    let shape =
    spelling_has_shape (m.year / 10 / 10 / 10) (m.year / 10 / 10 % 10) (m.year / 10 % 10) (m.year % 10)
    (m.month / 10) (m.month % 10)
    (omega arith) (omega arith) (omega arith) (omega arith) (omega (arith, h.month)) (omega arith) in
    rw (year_is, shape, year, month, passes m h) refl

-- a month that passes the test is within the range
pub is_within : (m : Month) → is_month m ≡ true → IsMonth m
is_within m h = record {
  year = (grind (arith, nat_tests), grind (arith, nat_tests));
  month = (grind (arith, nat_tests), grind (arith, nat_tests));
}

-- a fact of each text of seven bytes
seven : (P : List ℕ → Type 0) → ((a b c d e f g : ℕ) → P (a ∷ b ∷ c ∷ d ∷ e ∷ f ∷ g ∷ [])) → (text : List ℕ) →
    length text ≡ 7 → P text
seven P p (a ∷ b ∷ c ∷ d ∷ e ∷ f ∷ g ∷ []) h = p a b c d e f g
seven P p [] h = absurd (omega arith)
seven P p (a ∷ []) h = absurd (omega arith)
seven P p (a ∷ b ∷ []) h = absurd (omega arith)
seven P p (a ∷ b ∷ c ∷ []) h = absurd (omega arith)
seven P p (a ∷ b ∷ c ∷ d ∷ []) h = absurd (omega arith)
seven P p (a ∷ b ∷ c ∷ d ∷ e ∷ []) h = absurd (omega arith)
seven P p (a ∷ b ∷ c ∷ d ∷ e ∷ f ∷ []) h = absurd (omega arith)
seven P p (a ∷ b ∷ c ∷ d ∷ e ∷ f ∷ g ∷ h' ∷ t) h = absurd (omega arith)

-- the numbers of a text of seven bytes
abbrev month_in : List ℕ → Month
month_in text = record { year = digits_value 10 (slice_range text 0 4); month = digits_value 10 (slice_range text 5 7) }

-- a digit is less than ten
record IsDigit (c : ℕ) : Type 0 where
  is : digit_value c + 48 ≡ c
  less : digit_value c < 10

-- a byte that passes the test is a digit
digit_of : (c : ℕ) → is_ascii_digit c ≡ true → IsDigit c
digit_of c h = record { is = is c (within c h); less = less c (within c h) }
  where
    within : (c : ℕ) → nat_le 48 c && nat_le c 57 ≡ true → IsInRange 48 57 c
    within c h = grind (arith, nat_tests)

    is : (c : ℕ) → IsInRange 48 57 c → digit_value c + 48 ≡ c
    is c h = digit_value_digit c h

    less : (c : ℕ) → IsInRange 48 57 c → digit_value c < 10
    less c h = omega (arith, digit_value_digit c h)

-- what a text of the shape has at each index
record HasPlaces (a b c d e f g : ℕ) : Type 0 where
  year : all_ascii_digits (a ∷ b ∷ c ∷ d ∷ []) ≡ true
  first : IsDigit a
  second : IsDigit b
  third : IsDigit c
  fourth : IsDigit d
  dash : e ≡ 45
  tens : IsDigit f
  ones : IsDigit g

-- a text of the shape has that at each index
places : (a b c d e f g : ℕ) → has_shape (codes "dddd-dd") (a ∷ b ∷ c ∷ d ∷ e ∷ f ∷ g ∷ []) ≡ true →
    HasPlaces a b c d e f g
unfolding has_shape
places a b c d e f g h =
    let first = both (is_ascii_digit a) _ h in
    let second = both (is_ascii_digit b) _ first.1 in
    let third = both (is_ascii_digit c) _ second.1 in
    let fourth = both (is_ascii_digit d) _ third.1 in
    let dash = both (e == 45) _ fourth.1 in
    let tens = both (is_ascii_digit f) _ dash.1 in
    let ones = both (is_ascii_digit g) _ tens.1 in
    record {
      year = rw (first.0, second.0, third.0, fourth.0) refl;
      first = digit_of a first.0;
      second = digit_of b second.0;
      third = digit_of c third.0;
      fourth = digit_of d fourth.0;
      dash = same e dash.0;
      tens = digit_of f tens.0;
      ones = digit_of g ones.0;
    }
  where
    same : (e : ℕ) → (e == 45) ≡ true → e ≡ 45
    same e h = grind (arith, nat_tests)

-- two digits are those of their value
tens_of : (f g x y : ℕ) → x + 48 ≡ f → x < 10 → y + 48 ≡ g → y < 10 → (f ≡ 48 + ((0 + x) * 10 + y) / 10) ×
    (g ≡ 48 + ((0 + x) * 10 + y) % 10)
tens_of f g x y e l e' l' = (omega arith, omega arith)

-- four digits are the spelling of their value, if that is not below 1000
year_spelled : (a b c d : ℕ) → IsDigit a → IsDigit b → IsDigit c → IsDigit d →
    all_ascii_digits (a ∷ b ∷ c ∷ d ∷ []) ≡ true →
    1000 ≤ digits_value 10 (a ∷ b ∷ c ∷ d ∷ []) → decimal (digits_value 10 (a ∷ b ∷ c ∷ d ∷ [])) ≡ a ∷ b ∷ c ∷ d ∷ []
year_spelled a b c d ia ib ic id digits low =
    decimal-digits_value numerals (a ∷ b ∷ c ∷ d ∷ []) digits (omega arith) (λ zero_first. absurd (omega arith))
    (omega arith)

-- a spelling of a year, a dash and two digits make a text
joined : (a b c d e f g f' g' : ℕ) (ds : List ℕ) → ds ≡ a ∷ b ∷ c ∷ d ∷ [] → e ≡ 45 → f ≡ f' → g ≡ g' →
    a ∷ b ∷ c ∷ d ∷ e ∷ f ∷ g ∷ [] ≡ ds ++ (45 ∷ f' ∷ g' ∷ [])
joined a b c d e f g f' g' ds y dash tens ones = rw (y, dash, tens, ones) refl

-- a text of the shape whose month is within the range is that month's spelling
spelled : (text : List ℕ) → length text ≡ 7 → has_shape (codes "dddd-dd") text ≡ true → IsMonth (month_in text) →
    text ≡ month_digits (month_in text)
spelled text =
    seven (λ t. has_shape (codes "dddd-dd") t ≡ true → IsMonth (month_in t) → t ≡ month_digits (month_in t)) each text
  where
    each : (a b c d e f g : ℕ) → has_shape (codes "dddd-dd") (a ∷ b ∷ c ∷ d ∷ e ∷ f ∷ g ∷ []) ≡ true →
        IsMonth (month_in (a ∷ b ∷ c ∷ d ∷ e ∷ f ∷ g ∷ [])) →
        a ∷ b ∷ c ∷ d ∷ e ∷ f ∷ g ∷ [] ≡ month_digits (month_in (a ∷ b ∷ c ∷ d ∷ e ∷ f ∷ g ∷ []))
    each a b c d e f g h m =
        let p = places a b c d e f g h in
        let low : 1000 ≤ digits_value 10 (a ∷ b ∷ c ∷ d ∷ []) = omega (arith, m.year.0) in
        let month = tens_of f g (digit_value f) (digit_value g) p.tens.is p.tens.less p.ones.is p.ones.less in
        joined a b c d e f g _ _ _ (year_spelled a b c d p.first p.second p.third p.fourth p.year low) p.dash month.0
        month.1

-- what is read as a month is its spelling
pub record IsMonthSpelling (text : List ℕ) (m : Month) : Type 0 where
  pub month : IsMonth m
  pub spelled : text ≡ month_digits m

-- what the reader of months answers
pub month_is_read : (text : List ℕ) (m : Month) → read_month text ≡ Some m → IsMonthSpelling text m
unfolding read_month
month_is_read text m h =
    by_tests (has_shape (codes "dddd-dd") text) (is_month (month_in text)) refl refl h
  where
    by_tests : (s t : Bool) → has_shape (codes "dddd-dd") text ≡ s → is_month (month_in text) ≡ t →
        (if s && t then Some (month_in text) else None) ≡ Some m → IsMonthSpelling text m
    by_tests true true shape within h =
        let same : month_in text ≡ m = cc in
        let at : IsMonthSpelling text (month_in text) = record {
          month = is_within (month_in text) within;
          spelled =
              spelled text (sym (shape_length (codes "dddd-dd") text shape)) shape (is_within (month_in text) within);
        } in
        subst (λ (k : Month). IsMonthSpelling text k) same at
    by_tests false t shape within h = cc
    by_tests true false shape within h = cc
