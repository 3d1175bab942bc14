-- Values: each number that is spelled lies in its range, and what stands in the table of a basin is read back.
use Rattle.std.proofs.lemmas.Bool.{and_from, le-leb, eq-eqb, leb-true, ltb-false, ne_eqb, cases_Bool, and_parts}
use Rattle.std.proofs.Common.{◌≡◌, ◌+◌, ◌^◌, List, [], ◌∷◌, length, Bool, true, false, ◌||◌, Option, Some, None}
use Rattle.std.proofs.Common.{is_some, refl, ap, ◌∙◌, ℕ, suc, ◌*◌, ◌-◌, ◌/◌, ◌≤◌, ◌&&◌, option_and_then, unwrap_or}
use Rattle.std.proofs.Common.{is_none, inl, inr, arith, All, nat_le, nat_lt, ℤ, pos, negsuc, if◌then◌else◌, ◌%◌, ◌<◌}
use Rattle.std.proofs.Common.{get_or, ◌≢◌, zero, sym, map, ◌==◌, codes}
use Rattle.std.specs.Prelude.{replicate, option_map}
use Rattle.std.specs.List.{list_any, range_with_len, list_all}
use Rattle.std.specs.Option.{option_map_or}
use Rattle.std.proofs.lemmas.List.FromFn.{length-map-range_with_len, fill_by_all}
use Rattle.std.proofs.lemmas.Bool.Decides.{nat_tests}
use Rattle.toml.specs.Data.{Data, as_array, as_str, Items, no_items, item, get_item, as_integer, array}
use Rattle.toml.specs.Data as toml
use Rattle.toml.specs.View.{view, items_view, items_of}
use Rattle.toml.specs.declared.value.Value.{Value}
use Rattle.toml_tree.specs.Values.{monthly_of, is_between, ranged, integer_of, month_number}
use Rattle.basin_tree.specs.Kinds.{is_want}
use Rattle.water_model.specs.Valid.{IsAlwaysOpen, IsMonthly, IsValidInflow, IsValidCarry, IsValidPoint, IsValidVolume}
use Rattle.water_model.specs.Valid.{IsValidWant, is_series}
use Rattle.basin_file.specs.Spelled.{items_any, lists_month, shut_of, carry_of, inflow_of, volume_of, want_of}
use Rattle.basin_file.specs.Spelled.{point_in, points_in, no_area, area_of, first_of, date_of, name_of}
use Rattle.toml_tree.specs.Items.{items_len}
use Rattle.water_text.specs.Months.{IsMonth, read_month, month_after, month_within, month_digits, days_in}
use Rattle.water_text.specs.declared.month.Month.{Month}
use Rattle.water_model.specs.declared.types.Inflow.TheVariants.{Monthly, Gauged}
use Rattle.water_model.specs.declared.types.RightKind.{RightKind}
use Rattle.water_model.specs.declared.types.RightKind.TheVariants as kind
use Rattle.water_model.specs.declared.types.Want.{Want}
use Rattle.water_model.specs.declared.types.Want.TheVariants as wants
use Rattle.water_text.proofs.MonthLaws.{month_is_read, read_month-month_digits, is_digit, two_digits as two_read}
use Rattle.std.proofs.lemmas.List.Elements.{All-cons, All-map, All-nil, All-tail}
use Rattle.std.specs.Str.{IsAscii}
use Rattle.std.proofs.lemmas.List.Sums.{AllPass-from_list_all}
use Rattle.std.proofs.lemmas.Str.{digit_value_digit}
use Rattle.std.proofs.lemmas.Str.Ascii.{IsAscii-cons, IsAscii-from_all, IsAscii-nil}
use Rattle.std.specs.Char.{digit_value}
use Rattle.std.specs.Str.Parse.{digits_value}
use Rattle.water_text.specs.Days.{is_date, read_day}
use Rattle.water_text.specs.Names.{is_name, is_name_byte}
use Rattle.water_text.proofs.DayNumbers.{days_in-days_in_month, days_in_month-le}
use Rattle.basin_file.specs.Upgraded.{day_text, closed_data, inflow_data, number, numbers, per_day_data, point_data}
use Rattle.basin_file.specs.Upgraded.{shut_months, some_items, want_data}
use Rattle.water_text.specs.declared.day.Day.{Day}
use Rattle.water_text.specs.Shapes.{fits_at, has_shape}
use Rattle.water_model.specs.declared.types.AreaPoint.{AreaPoint}
use Rattle.water_model.specs.declared.types.Carry.{Carry}
use Rattle.water_model.specs.declared.types.Carry.TheVariants.{River, Canal}
use Rattle.water_model.specs.declared.types.Inflow.{Inflow}

items_any-view : (test : Data → Bool) (vs : List Value) →
    items_any test (items_view vs) ≡ list_any (λ v. test (view v)) vs
items_any-view test [] = refl
items_any-view test (v ∷ vs) = ap (λ t. test (view v) || t) (items_any-view test vs)

-- a test of some item of a value
pub any_or : (test : Data → Bool) (d : Data) (vs : List Value) → Some (items_view vs) ≡ as_array d →
    option_map_or (items_any test) (as_array d) false ≡ list_any (λ v. test (view v)) vs
any_or test d vs e = rw (← e) (items_any-view test vs)

pub length-shut : (closed : Option Data) → length (shut_of closed) ≡ 12
unfolding shut_of
length-shut closed = length-map-range_with_len (λ i. option_map_or (lists_month (i + 1)) closed false) 0 12

never_shut : shut_of None ≡ replicate 12 false
unfolding shut_of
never_shut = refl

-- a link that says nothing of closed months is open in all
pub always_open : (per_day closed : Option Data) → closed ≡ None → IsAlwaysOpen (carry_of per_day closed)
always_open None closed e = tt
always_open (Some d) closed e = ap shut_of e ∙ never_shut

-- in format 1 a want is no text
pub no_text : (d : Data) → is_want 1 d ≡ true → is_series (want_of (Some d)) ≡ false
no_text (toml.string text) e = cc
no_text _ e = refl

bounds_of : (least most n : ℕ) → (nat_le least n && nat_le n most) ≡ true → (least ≤ n) × (n ≤ most)
bounds_of least most n e = grind (arith, nat_tests)

ranged_in : (least most default : ℕ) (z : ℤ) → least ≤ default → default ≤ most →
    (least ≤ ranged least most default z) × (ranged least most default z ≤ most)
ranged_in least most default (pos n) low high =
    elim (cases_Bool (is_between least most (pos n))) [
      | inl there ↦ rw there (bounds_of least most n there)
      | inr other ↦ rw other (low, high)
    ]
ranged_in least most default (negsuc n) low high = (low, high)

-- a number that is spelled lies in its range where the default does
pub whole_in : (least most default : ℕ) (value : Option Data) → least ≤ default → default ≤ most →
    (least ≤ integer_of least most default value) × (integer_of least most default value ≤ most)
whole_in least most default value low high = by (option_and_then as_integer value)
  where
    by : (o : Option ℤ) → (least ≤ option_map_or (ranged least most default) o default) ×
        (option_map_or (ranged least most default) o default ≤ most)
    by None = (low, high)
    by (Some z) = ranged_in least most default z low high

month_number_most : (most : ℕ) (value : Option Data) (month : ℕ) → month_number most value month ≤ most
month_number_most most value month = by (option_and_then as_array value)
  where
    by : (o : Option Items) →
        option_map_or (λ items. integer_of 0 most 0 (get_item month items)) o (integer_of 0 most 0 value) ≤ most
    by None = (whole_in 0 most 0 value (omega arith) (omega arith)).1
    by (Some items) = (whole_in 0 most 0 (get_item month items) (omega arith) (omega arith)).1

pub monthly_in : (most : ℕ) (value : Option Data) → IsMonthly most (monthly_of most value)
unfolding monthly_of
monthly_in most value = record {
  twelve = length-map-range_with_len (month_number most value) 0 12;
  each = All-map (λ n. n ≤ most) (month_number most value) (range_with_len 0 12)
      (λ k d h. month_number_most most value _);
}

point_valid : (pair : Items) → IsValidPoint (point_in pair)
point_valid pair = record {
  storage = (whole_in 0 (16 * 10 ^ 9) 0 (get_item 0 pair) (omega arith) (omega arith)).1;
  area = (whole_in 0 (10 ^ 9) 0 (get_item 1 pair) (omega arith) (omega arith)).1;
}

pub points_valid : (value : Option Data) → All IsValidPoint (area_of value)
points_valid value = by (option_and_then as_array value)
  where
    points : (items : Items) → All IsValidPoint (points_in items)
    points no_items = All-nil IsValidPoint
    points (item d ds) =
        All-cons IsValidPoint _ (points_in ds) (point_valid (unwrap_or (as_array d) no_items)) (points ds)

    by : (o : Option Items) → All IsValidPoint (option_map_or points_in o no_area)
    by None =
        All-cons IsValidPoint _ [] (record { storage = omega arith; area = omega arith }) (All-nil IsValidPoint)
    by (Some items) = points items

-- an area table has at most 64 points where its list has
pub bounded_points : (value : Option Data) →
    option_map_or (λ points. nat_lt 64 (items_len points)) (option_and_then as_array value) false ≡ false →
    length (area_of value) ≤ 64
bounded_points value e = by (option_and_then as_array value) e
  where
    len : (items : Items) → length (points_in items) ≡ items_len items
    len no_items = refl
    len (item d ds) = ap suc (len ds)

    by : (a : Option Items) → option_map_or (λ points. nat_lt 64 (items_len points)) a false ≡ false →
        length (option_map_or points_in a no_area) ≤ 64
    by None e = omega arith
    by (Some items) e = rw (len items) (ltb-false 64 (items_len items) e)

pub inflow_valid : (value : Option Data) → IsValidInflow (inflow_of value)
inflow_valid value = by (option_and_then as_str value)
  where
    by : (o : Option (List ℕ)) → IsValidInflow (option_map_or (λ text. Gauged) o (Monthly (monthly_of (10 ^ 9) value)))
    by None = monthly_in (10 ^ 9) value
    by (Some text) = tt

pub want_valid : (value : Option Data) → IsValidWant (want_of value)
want_valid value = by (option_and_then as_str value)
  where
    by : (o : Option (List ℕ)) →
        IsValidWant (option_map_or (λ text. wants.Series) o (wants.Monthly (monthly_of (10 ^ 9) value)))
    by None = monthly_in (10 ^ 9) value
    by (Some text) = tt

pub volume_valid : (node : ℕ) (value : Option Data) → IsValidVolume (kind.Diversion node) (volume_of value) 0
volume_valid node None = refl
volume_valid node (Some d) =
    (refl, (whole_in 0 (16 * 10 ^ 9) 0 (Some d) (omega arith) (omega arith)).1, omega arith)

pub carry_valid : (per_day closed : Option Data) → IsValidCarry (carry_of per_day closed)
carry_valid None closed = tt
carry_valid (Some d) closed = ((whole_in 0 (10 ^ 9) 0 (Some d) (omega arith) (omega arith)).1, length-shut closed)

-- the first month of the run is one, and the run ends by 2999-12
pub first_valid : (text : List ℕ) → IsMonth (first_of text)
first_valid text = by (read_month text) refl
  where
    by : (o : Option Month) → read_month text ≡ o → IsMonth (unwrap_or o (record { year = 1800; month = 1 }))
    by None e = record { year = (omega arith, omega arith); month = (omega arith, omega arith) }
    by (Some m) e = (month_is_read text m e).month

pub run_ends : (text : List ℕ) (months : ℕ) → 1 ≤ months → months ≤ 1200 →
    option_map_or (λ first. is_none (month_within first (months - 1))) (read_month text) false ≡ false →
    12 * (first_of text).year + (first_of text).month + months ≤ 36001
run_ends text months low high e = by (read_month text) refl e
  where
    ends : (y m : ℕ) → 1 ≤ m → y + (m - 1 + (months - 1)) / 12 ≤ 2999 → 12 * y + m + months ≤ 36001
    ends y m first h = omega arith

    within : (m : Month) (b : Bool) → nat_le (month_after m (months - 1)).year 2999 ≡ b →
        is_none (if b then Some (month_after m (months - 1)) else None) ≡ false →
        (month_after m (months - 1)).year ≤ 2999
    within m true t e = leb-true (month_after m (months - 1)).year 2999 t
    within m false t e = cc

    by : (o : Option Month) → read_month text ≡ o →
        option_map_or (λ first. is_none (month_within first (months - 1))) o false ≡ false →
        12 * (unwrap_or o (record { year = 1800; month = 1 })).year +
        (unwrap_or o (record { year = 1800; month = 1 })).month + months ≤ 36001
    by None same e = omega arith
    by (Some m) same e = ends m.year m.month (month_is_read text m same).month.month.0 (within m _ refl e)

low : (byte : ℕ) → is_name_byte byte ≡ true → byte < 128
low byte h = grind (arith, nat_tests)

pub name_ascii : (text : List ℕ) → is_name text ≡ true → IsAscii text
unfolding is_name
name_ascii text h =
    let some = and_parts (nat_le 1 (length text)) (nat_le (length text) 32 && list_all is_name_byte text) h in
    let each = AllPass-from_list_all is_name_byte text
    (and_parts (nat_le (length text) 32) (list_all is_name_byte text) some.1).1 in
    IsAscii-from_all text (λ k d l. low (get_or text k d) (each k d l))

-- a text of a shape
shape_ascii : (shape text : List ℕ) → list_all (λ p. nat_lt p 128) shape ≡ true → has_shape shape text ≡ true →
    IsAscii text
unfolding has_shape
shape_ascii [] [] l h = IsAscii-nil
shape_ascii [] (byte ∷ text) l h = cc
shape_ascii (p ∷ shape) [] l h = cc
shape_ascii (p ∷ shape) (byte ∷ text) l h =
    let ascii = and_parts (nat_lt p 128) (list_all (λ p. nat_lt p 128) shape) l in
    let fits = and_parts (fits_at p byte) (has_shape shape text) h in
    IsAscii-cons byte text (low_at p byte ascii.0 fits.0) (shape_ascii shape text ascii.1 fits.1)
  where
    low_at : (p byte : ℕ) → nat_lt p 128 ≡ true → fits_at p byte ≡ true → byte < 128
    low_at p byte l h = grind (arith, nat_tests)

-- the numbers of a date have as many digits as their texts
pub record HasShortNumbers (d : Day) : Type 0 where
  pub year : d.year ≤ 2999
  pub month : d.month ≤ 12
  pub day : d.day ≤ 31

pub short_date : (d : Day) → is_date d ≡ true → HasShortNumbers d
unfolding is_date
short_date d h = record { year = its.0; month = its.2; day = omega (arith, its.3, most) }
  where
    parts : (y m k n : ℕ) →
        (nat_le 1 y && nat_le y 2999) && (nat_le 1 m && nat_le m 12) && (nat_le 1 k && nat_le k n) ≡ true →
        (y ≤ 2999) × (1 ≤ m) × (m ≤ 12) × (k ≤ n)
    parts y m k n e =
        (grind (arith, nat_tests), grind (arith, nat_tests), grind (arith, nat_tests), grind (arith, nat_tests))

    its : (d.year ≤ 2999) × (1 ≤ d.month) × (d.month ≤ 12) × (d.day ≤ days_in d.year d.month)
    its = parts d.year d.month d.day (days_in d.year d.month) h

    most : days_in d.year d.month ≤ 31
    most = rw (days_in-days_in_month d.year d.month its.1 its.2) (days_in_month-le (pos d.year) d.month)

pub between : (least n most : ℕ) → least ≤ n → n ≤ most → is_between least most (pos n) ≡ true
between least n most low high =
    and_from (nat_le least n) (nat_le n most) (le-leb least n low) (le-leb n most high)

-- a number within its range
pub whole_read : (least most default n : ℕ) → least ≤ n → n ≤ most → integer_of least most default (Some (number n)) ≡ n
whole_read least most default n low high = rw (between least n most low high) refl

-- twelve numbers, each at its index
item_read : (most : ℕ) (ns : List ℕ) (k : ℕ) → k < length ns → get_or ns k 0 ≤ most →
    integer_of 0 most 0 (get_item k (numbers ns)) ≡ get_or ns k 0
item_read most [] k within bounded = absurd (omega arith)
item_read most (n ∷ ns) zero within bounded = whole_read 0 most 0 n (omega arith) bounded
item_read most (n ∷ ns) (suc k) within bounded = item_read most ns k (omega arith) bounded

pub monthly_read : (most : ℕ) (ns : List ℕ) → IsMonthly most ns → monthly_of most (Some (array (numbers ns))) ≡ ns
unfolding monthly_of
monthly_read most ns h =
    sym (fill_by_all (month_number most (Some (array (numbers ns)))) ns 12 0 h.twelve
    (λ k l. let within : k < length ns = omega (arith, h.twelve) in
    sym (item_read most ns k within (h.each k 0 within))))

pub inflow_read : (i : Inflow) → IsValidInflow i → inflow_of (Some (inflow_data i)) ≡ i
inflow_read (Monthly amounts) h = ap Monthly (monthly_read (10 ^ 9) amounts h)
inflow_read Gauged h = refl

pub volume_read : (kind : RightKind) (volume : Option ℕ) (used : ℕ) → IsValidVolume kind volume used →
    volume_of (option_map number volume) ≡ volume
volume_read kind None used h = refl
volume_read kind (Some n) used h = ap Some (whole_read 0 (16 * 10 ^ 9) 0 n (omega arith) h.1)

pub want_read : (want : Want) → IsValidWant want → want_of (Some (want_data want)) ≡ want
want_read wants.Series valid = refl
want_read (wants.Monthly amounts) valid = ap wants.Monthly (monthly_read (10 ^ 9) amounts valid)

-- the points of an area table
pub area_read : (area : List AreaPoint) → All IsValidPoint area → points_in (items_of (map point_data area)) ≡ area
area_read [] h = refl
area_read (p ∷ area) h =
    let here = h 0 p (omega arith) in
    rw (
      whole_read 0 (16 * 10 ^ 9) 0 p.storage (omega arith) here.storage,
      whole_read 0 (10 ^ 9) 0 p.area (omega arith) here.area,
      area_read area (All-tail IsValidPoint p area h),
    ) refl

-- the months in which a canal is shut: only a month itself names it
other_month : (n month : ℕ) → 1 ≤ n → n ≤ 12 → n ≢ month → (integer_of 1 12 0 (Some (number n)) == month) ≡ false
other_month n month low high other = rw (whole_read 1 12 0 n low high) (ne_eqb n month other)

this_month : (n : ℕ) → 1 ≤ n → n ≤ 12 → (integer_of 1 12 0 (Some (number n)) == n) ≡ true
this_month n low high = rw (whole_read 1 12 0 n low high) (eq-eqb n n refl)

not_after : (from month : ℕ) (shut : List Bool) → 1 ≤ from → from + length shut ≤ 13 → month < from →
    items_any (λ x. integer_of 1 12 0 (Some x) == month) (numbers (shut_months from shut)) ≡ false
not_after from month [] low high less = refl
not_after from month (true ∷ shut) low high less =
    rw (other_month from month low (omega arith) (omega arith))
    (not_after (from + 1) month shut (omega arith) (omega arith) (omega arith))
not_after from month (false ∷ shut) low high less =
    not_after (from + 1) month shut (omega arith) (omega arith) (omega arith)

month_read : (from k month : ℕ) (shut : List Bool) → 1 ≤ from → from + length shut ≤ 13 → k < length shut →
    month ≡ from + k →
    get_or shut k false ≡ items_any (λ x. integer_of 1 12 0 (Some x) == month) (numbers (shut_months from shut))
month_read from k month [] low high within is = absurd (omega arith)
month_read from zero month (true ∷ shut) low high within is =
    let same : month ≡ from = omega arith in rw same (rw (this_month from low (omega arith)) refl)
month_read from zero month (false ∷ shut) low high within is =
    sym (not_after (from + 1) month shut (omega arith) (omega arith) (omega arith))
month_read from (suc k) month (true ∷ shut) low high within is =
    rw (other_month from month low (omega arith) (omega arith))
    (month_read (from + 1) k month shut (omega arith) (omega arith) (omega arith) (omega arith))
month_read from (suc k) month (false ∷ shut) low high within is =
    month_read (from + 1) k month shut (omega arith) (omega arith) (omega arith) (omega arith)

listed_month : (month : ℕ) (ds : Items) →
    option_map_or (lists_month month) (some_items ds) false ≡ items_any (λ x. integer_of 1 12 0 (Some x) == month) ds
listed_month month no_items = refl
listed_month month (item d ds) = refl

pub shut_read : (shut : List Bool) → length shut ≡ 12 → shut_of (some_items (numbers (shut_months 1 shut))) ≡ shut
unfolding shut_of
shut_read shut len =
    sym (fill_by_all (λ i. option_map_or (lists_month (i + 1)) (some_items (numbers (shut_months 1 shut))) false) shut
    12 false len
    (λ k l. month_read 1 k (k + 1) shut (omega arith) (omega (arith, len)) (omega (arith, len)) (omega arith)
    ∙ sym (listed_month (k + 1) (numbers (shut_months 1 shut)))))

pub carry_read : (c : Carry) → IsValidCarry c → carry_of (per_day_data c) (closed_data c) ≡ c
carry_read River h = refl
carry_read (Canal per_day shut) h = rw (whole_read 0 (10 ^ 9) 0 per_day (omega arith) h.0, shut_read shut h.1) refl

-- texts
pub month_shape : (m : Month) → IsMonth m → has_shape (codes "dddd-dd") (month_digits m) ≡ true
unfolding read_month
month_shape m h = by (has_shape (codes "dddd-dd") (month_digits m)) refl (read_month-month_digits m h)
  where
    by : (t : Bool) → has_shape (codes "dddd-dd") (month_digits m) ≡ t → read_month (month_digits m) ≡ Some m → t ≡ true
    by true e read = refl
    by false e read = (let none = rw e at read in cc)

pub month_ascii : (m : Month) → IsMonth m → IsAscii (month_digits m)
month_ascii m h = shape_ascii (codes "dddd-dd") (month_digits m) refl (month_shape m h)

pub name_read : (text : List ℕ) → is_name text ≡ true → name_of text ≡ text
name_read text h = rw h refl

pub first_read : (m : Month) → IsMonth m → first_of (month_digits m) ≡ m
first_read m h = rw (read_month-month_digits m h) refl

-- digits have the value that they spell
digit_read : (n : ℕ) → n < 10 → digit_value (48 + n) ≡ n
digit_read n l = let is : digit_value (48 + n) + 48 ≡ 48 + n = digit_value_digit (48 + n) (omega arith, omega arith) in
    omega arith

four_read : (n : ℕ) → n ≤ 2999 →
    digits_value 10 ((48 + n / 100 / 10) ∷ (48 + n / 100 % 10) ∷ (48 + n % 100 / 10) ∷ (48 + n % 100 % 10) ∷ []) ≡ n
four_read n l =
    let thousands = digit_read (n / 100 / 10) (omega arith) in
    let hundreds = digit_read (n / 100 % 10) (omega arith) in
    let tens = digit_read (n % 100 / 10) (omega arith) in
    let ones = digit_read (n % 100 % 10) (omega arith) in
    omega arith

day_shape : (a b c d e f g h : ℕ) → a < 10 → b < 10 → c < 10 → d < 10 → e < 10 → f < 10 → g < 10 → h < 10 →
    has_shape (codes "dddd-dd-dd")
    ((48 + a) ∷ (48 + b) ∷ (48 + c) ∷ (48 + d) ∷ 45 ∷ (48 + e) ∷ (48 + f) ∷ 45 ∷ (48 + g) ∷ (48 + h) ∷ []) ≡ true
unfolding has_shape
day_shape a b c d e f g h la lb lc ld le lf lg lh =
    rw (
      is_digit a la,
      is_digit b lb,
      is_digit c lc,
      is_digit d ld,
      is_digit e le,
      is_digit f lf,
      is_digit g lg,
      is_digit h lh,
    ) refl

pub date_shape : (d : Day) → is_date d ≡ true → has_shape (codes "dddd-dd-dd") (day_text d) ≡ true
unfolding day_text
date_shape d h =
    let its = short_date d h in
    day_shape (d.year / 100 / 10) (d.year / 100 % 10) (d.year % 100 / 10) (d.year % 100 % 10) (d.month / 10)
    (d.month % 10) (d.day / 10) (d.day % 10)
    (omega (arith, its.year)) (omega arith) (omega arith) (omega arith) (omega (arith, its.month)) (omega arith)
    (omega (arith, its.day)) (omega arith)

pub day_ascii : (d : Day) → is_date d ≡ true → IsAscii (day_text d)
day_ascii d h = shape_ascii (codes "dddd-dd-dd") (day_text d) refl (date_shape d h)

day_read : (d : Day) → is_date d ≡ true → read_day (day_text d) ≡ Some d
unfolding read_day day_text
day_read d h =
    let its = short_date d h in
    rw (
      date_shape d h,
      four_read d.year its.year,
      two_read d.month (omega (arith, its.month)),
      two_read d.day (omega (arith, its.day)),
    ) refl

pub date_read : (d : Day) → is_date d ≡ true → date_of (day_text d) ≡ d
date_read d h = rw (day_read d h) refl
