-- Texts of a fixed shape, byte by byte.
use Rattle.std.proofs.Common.{◌≡◌, ◌≢◌, ℕ, zero, suc, ◌+◌, ◌<◌, ◌≤◌, Bool, true, false, refl, sym, ap, ◌∙◌, arith, List}
use Rattle.std.proofs.Common.{[], ◌∷◌, ◌++◌, length, take, drop, replicate, get_or, add-one}
use Rattle.std.specs.Prelude.{◌&&◌, codes, slice_range}
use Rattle.std.specs.Char.{is_ascii_digit}
use Rattle.std.specs.Str.{all_ascii_digits}
use Rattle.std.proofs.lemmas.List.{drop_all}
use Rattle.water_text.specs.Shapes.{has_shape, fits_at}

-- both of two tests
pub both : (a b : Bool) → a && b ≡ true → (a ≡ true) × (b ≡ true)
both true b h = (refl, h)
both false b h = (cc, cc)

-- a text of the shape is as long as the pattern
pub shape_length : (ps ts : List ℕ) → has_shape ps ts ≡ true → length ps ≡ length ts
unfolding has_shape
shape_length [] [] h = refl
shape_length [] (t ∷ ts) h = cc
shape_length (p ∷ ps) [] h = cc
shape_length (p ∷ ps) (t ∷ ts) h = ap suc (shape_length ps ts (both (fits_at p t) (has_shape ps ts) h).1)

-- a text of another length has another shape
pub other_length : (ps ts : List ℕ) → length ps ≢ length ts → has_shape ps ts ≡ false
other_length ps ts ne = by_test (has_shape ps ts) refl
  where
    by_test : (t : Bool) → has_shape ps ts ≡ t → has_shape ps ts ≡ false
    by_test true e = absurd (ne (shape_length ps ts e))
    by_test false e = e

-- the next byte
pub shape_step : (ps ts : List ℕ) (i : ℕ) → i < length ps → i < length ts →
    has_shape (drop i ps)
    (drop i ts) ≡ (fits_at (get_or ps i 0) (get_or ts i 0) && has_shape (drop (i + 1) ps) (drop (i + 1) ts))
unfolding has_shape
shape_step [] ts i l m = absurd (omega arith)
shape_step (p ∷ ps) [] i l m = absurd (omega arith)
shape_step (p ∷ ps) (t ∷ ts) zero l m = refl
shape_step (p ∷ ps) (t ∷ ts) (suc i) l m = rw add-one (shape_step ps ts i (omega arith) (omega arith) ∙ rw add-one refl)

-- and the last
pub shape_end : (ps ts : List ℕ) (i : ℕ) → length ps ≤ i → length ts ≤ i → has_shape (drop i ps) (drop i ts) ≡ true
unfolding has_shape
shape_end ps ts i l m = rw (drop_all i ps l, drop_all i ts m) refl

-- the rest of a text has the shape of the rest of the pattern
shape_rest : (ps ts : List ℕ) (n : ℕ) → has_shape ps ts ≡ true → has_shape (drop n ps) (drop n ts) ≡ true
unfolding has_shape
shape_rest ps ts zero h = h
shape_rest [] [] (suc n) h = refl
shape_rest [] (t ∷ ts) (suc n) h = cc
shape_rest (p ∷ ps) [] (suc n) h = cc
shape_rest (p ∷ ps) (t ∷ ts) (suc n) h = shape_rest ps ts n (both (fits_at p t) (has_shape ps ts) h).1

-- a prefix of digits
digits_prefix : (n : ℕ) (ps ts : List ℕ) → has_shape (replicate n 100 ++ ps) ts ≡ true →
    all_ascii_digits (take n ts) ≡ true
unfolding has_shape
digits_prefix zero ps ts h = refl
digits_prefix (suc n) ps [] h = cc
digits_prefix (suc n) ps (t ∷ ts) h =
    let parts = both (is_ascii_digit t) (has_shape (replicate n 100 ++ ps) ts) h in
    rw (parts.0, digits_prefix n ps ts parts.1) refl

-- a text has digits where the pattern has `d`
pub digits_at : (from n : ℕ) (ps qs ts : List ℕ) → has_shape ps ts ≡ true → drop from ps ≡ replicate n 100 ++ qs →
    all_ascii_digits (take n (drop from ts)) ≡ true
digits_at from n ps qs ts h e =
    digits_prefix n qs (drop from ts) (ap (λ xs. has_shape xs (drop from ts)) (sym e) ∙ shape_rest ps ts from h)

-- where a month has its digits
pub record IsMonthText (text : List ℕ) : Type 0 where
  pub bytes : length text ≡ 7
  pub year : all_ascii_digits (slice_range text 0 4) ≡ true
  pub month : all_ascii_digits (slice_range text 5 7) ≡ true

-- a text of the shape of a month has them
pub month_text : (text : List ℕ) → has_shape (codes "dddd-dd") text ≡ true → IsMonthText text
month_text text h = record {
  bytes = sym (shape_length (codes "dddd-dd") text h);
  year = digits_at 0 4 (codes "dddd-dd") (codes "-dd") text h refl;
  month = digits_at 5 2 (codes "dddd-dd") [] text h refl;
}

-- where a day has its digits
pub record IsDayText (text : List ℕ) : Type 0 where
  pub bytes : length text ≡ 10
  pub year : all_ascii_digits (slice_range text 0 4) ≡ true
  pub month : all_ascii_digits (slice_range text 5 7) ≡ true
  pub day : all_ascii_digits (slice_range text 8 10) ≡ true

-- a text of the shape of a day has them
pub day_text : (text : List ℕ) → has_shape (codes "dddd-dd-dd") text ≡ true → IsDayText text
day_text text h = record {
  bytes = sym (shape_length (codes "dddd-dd-dd") text h);
  year = digits_at 0 4 (codes "dddd-dd-dd") (codes "-dd-dd") text h refl;
  month = digits_at 5 2 (codes "dddd-dd-dd") (codes "-dd") text h refl;
  day = digits_at 8 2 (codes "dddd-dd-dd") [] text h refl;
}
