-- Marks: what a change of one word leaves, words without marks, and lists of marks.
use Rattle.std.proofs.Common.{◌≡◌, ◌≢◌, ◌==◌, ℕ, ◌+◌, ◌/◌, ◌%◌, ◌^◌, ◌<◌, Bool, false, List, length, get_or, replicate}
use Rattle.std.proofs.Common.{ap, sym, ◌∙◌, inl, inr, zero-add, arith}
use Rattle.std.specs.Prelude.{slice_set}
use Rattle.std.specs.Int.{bit_at}
use Rattle.std.proofs.lemmas.Bool.{cases_lt, cases_eq}
use Rattle.std.proofs.lemmas.List.{get_or-replicate, get_or_past, get_or-set_same, get_or-set_other, length-replicate}
use Rattle.std.proofs.lemmas.List.FromFn.{length-map-range_with_len, get_or-map-range_with_len}
use Rattle.std.proofs.lemmas.Grind.{get_or-set_at}
use Rattle.std.proofs.lemmas.Nat.{shr-shr}
use Rattle.std.proofs.lemmas.Nat.Bits.{bit_at-zero}
use Rattle.bit_words.specs.Marks.{is_marked, marks}
use Rattle.bit_words.proofs.Lists.{one_changed, all_one}

-- where only the bit of index p is changed in its word, the marks of the other indices stay
pub others_stay : (words : List ℕ) (p x : ℕ) → p / 64 < length words →
    ((i : ℕ) → i < 64 → i ≢ p % 64 → bit_at x i ≡ bit_at (get_or words (p / 64) 0) i) →
    (q : ℕ) → q ≢ p → is_marked (slice_set words (p / 64) x) q ≡ is_marked words q
others_stay words p x within same q apart = elim (cases_eq (q / 64) (p / 64)) [
  | inl e ↦
      let bit : q % 64 ≢ p % 64 = λ h. apart (omega (arith, e, h)) in
      ap (λ (w : ℕ). bit_at w (q % 64) == 1) (get_or-set_at words (p / 64) (q / 64) x 0 e within)
      ∙ ap (λ (b : ℕ). b == 1) (same (q % 64) (omega arith) bit)
      ∙ ap (λ (k : ℕ). bit_at (get_or words k 0) (q % 64) == 1) (sym e)
  | inr e ↦ ap (λ (w : ℕ). bit_at w (q % 64) == 1) (get_or-set_other words (p / 64) (q / 64) x 0 e)
]

-- and the mark of p is its new bit
pub this_marked : (words : List ℕ) (p x : ℕ) → p / 64 < length words →
    is_marked (slice_set words (p / 64) x) p ≡ (bit_at x (p % 64) == 1)
this_marked words p x within =
    ap (λ (w : ℕ). bit_at w (p % 64) == 1) (get_or-set_same words (p / 64) x 0 within)

-- the bits of a word that was shifted down
pub bit_at_shr : (word k i : ℕ) → bit_at (word / 2 ^ k) i ≡ bit_at word (k + i)
bit_at_shr word k i = ap (λ (n : ℕ). n % 2) (shr-shr word k i)

-- words that are all 0 mark nothing
pub zero_unmarked : (count p : ℕ) → is_marked (replicate count 0) p ≡ false
zero_unmarked count p =
    ap (λ (w : ℕ). bit_at w (p % 64) == 1) zero_word ∙ ap (λ (b : ℕ). b == 1) (bit_at-zero (p % 64))
  where
    zero_word : get_or {A = ℕ} (replicate count 0) (p / 64) 0 ≡ 0
    zero_word = elim (cases_lt (p / 64) count) [
      | inl below ↦ get_or-replicate count (p / 64) 0 0 below
      | inr past ↦ get_or_past (replicate count 0) (p / 64) 0 (omega (arith, length-replicate {A = ℕ} count 0))
    ]

-- the marks of n indices are n
pub length-marks : (n : ℕ) (words : List ℕ) → length (marks n words) ≡ n
length-marks n words = length-map-range_with_len (is_marked words) 0 n

pub get_or-marks : (n : ℕ) (words : List ℕ) (p : ℕ) (d : Bool) → p < n →
    get_or (marks n words) p d ≡ is_marked words p
get_or-marks n words p d below = get_or-map-range_with_len (is_marked words) 0 n p p d below (zero-add p)

-- one more mark, or one less
pub marks_one : (n : ℕ) (xs ys : List ℕ) (p : ℕ) (mark : Bool) → is_marked ys p ≡ mark →
    ((q : ℕ) → q ≢ p → is_marked ys q ≡ is_marked xs q) → marks n ys ≡ slice_set (marks n xs) p mark
marks_one n xs ys p mark on off =
    one_changed n (is_marked xs) (is_marked ys) p (λ q b apart. off q apart)
    ∙ ap (slice_set (marks n xs) p) on

-- the marks of words that are all 0
pub marks-zero : (n count : ℕ) → marks n (replicate count 0) ≡ replicate n false
marks-zero n count = all_one n (is_marked (replicate count 0)) false (λ q b. zero_unmarked count q)
