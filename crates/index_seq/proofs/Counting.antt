-- The different amounts of a list, and how often each came.
use Rattle.std.proofs.Common.{◌≡◌, ◌≢◌, ℕ, suc, ◌+◌, ◌<◌, ◌≤◌, Bool, true, false, refl, sym, ap, ◌∙◌, arith}
use Rattle.std.proofs.Common.{List, [], ◌∷◌, length, drop, map, inl, inr, get_or}
use Rattle.std.specs.Prelude.{nat_lt, ◌==◌, cond, ◌⊎◌, slice_index}
use Rattle.std.specs.List.{prefix_len}
use Rattle.std.specs.List.Sorted.{IsNonDecreasingBy, IsPermutation}
use Rattle.std.proofs.lemmas.Bool.{cases_eq, cases_lt}
use Rattle.std.proofs.lemmas.Bool.Decides.{nat_tests}
use Rattle.std.proofs.lemmas.List.Sums.{sum_by-cons}
use Rattle.std.proofs.lemmas.List.Sorted.{sum_by-IsPermutation}
use Rattle.water_model.proofs.Order.{Has, map_same}
use Rattle.index_seq.specs.Counts.{put_amount, rising, count_of}
use Rattle.index_seq.specs.Text.{yearly_lines}
use Rattle.index_seq.specs.declared.entry.EnsembleLine.TheVariants as line

is_same : (x y : ℕ) → x ≡ y → x == y ≡ true
is_same x y h = grind (arith, nat_tests)

is_other : (x y : ℕ) → x ≢ y → x == y ≡ false
is_other x y h = grind (arith, nat_tests)

is_less : (x y : ℕ) → x < y → nat_lt x y ≡ true
is_less x y h = grind (arith, nat_tests)

is_no_less : (x y : ℕ) → y ≤ x → nat_lt x y ≡ false
is_no_less x y h = grind (arith, nat_tests)

-- Rising lists.

abbrev IsRising : List ℕ → Type 0
IsRising [] = Unit {0}
IsRising (x ∷ xs) = ((y : ℕ) → Has xs y → x < y) × IsRising xs

-- two rising lists with the same members are equal
one_rising : (xs ys : List ℕ) → IsRising xs → IsRising ys → ((r : ℕ) → Has xs r → Has ys r) →
    ((r : ℕ) → Has ys r → Has xs r) → xs ≡ ys
one_rising [] [] first second there back = refl
one_rising [] (y ∷ ys) first second there back = absurd (back y (inl refl))
one_rising (x ∷ xs) [] first second there back = absurd (there x (inl refl))
one_rising (x ∷ xs) (y ∷ ys) first second there back =
    let e : x ≡ y = same_first (there x (inl refl)) (back y (inl refl)) in
    let rest : xs ≡ ys =
    one_rising xs ys first.1 second.1 (λ r h. after_y r e h (there r (inr h)))
    (λ r h. after_x r e h (back r (inr h))) in
    ap (λ z. z ∷ xs) e ∙ ap (λ zs. y ∷ zs) rest
  where
    same_first : Has (y ∷ ys) x → Has (x ∷ xs) y → x ≡ y
    same_first (inl e) k = e
    same_first (inr h) (inl e) = sym e
    same_first (inr h) (inr k) = absurd (omega (arith, second.0 x h, first.0 y k))

    after_y : (r : ℕ) → x ≡ y → Has xs r → Has (y ∷ ys) r → Has ys r
    after_y r e h (inl same) = absurd (omega (arith, first.0 r h))
    after_y r e h (inr k) = k

    after_x : (r : ℕ) → x ≡ y → Has ys r → Has (x ∷ xs) r → Has xs r
    after_x r e h (inl same) = absurd (omega (arith, second.0 r h))
    after_x r e h (inr k) = k

-- what stands in a list into which an amount was put
put_has : (x : ℕ) (ys : List ℕ) (z : ℕ) → Has (put_amount x ys) z → (z ≡ x) ⊎ Has ys z
put_has x [] z h = h
put_has x (y ∷ ys) z h = elim (cases_lt x y) [
  | inl less ↦ rw (is_less x y less) at h
  | inr no_less ↦ elim (cases_eq x y) [
    | inl same ↦ inr (rw (is_no_less x y no_less, is_same x y same) at h)
    | inr other ↦ after (put_has x ys z) (rw (is_no_less x y no_less, is_other x y other) at h)
  ]
]
  where
    after : (Has (put_amount x ys) z → (z ≡ x) ⊎ Has ys z) → Has (y ∷ put_amount x ys) z → (z ≡ x) ⊎ Has (y ∷ ys) z
    after further (inl e) = inr (inl e)
    after further (inr k) = elim (further k) [ inl e ↦ inl e | inr there ↦ inr (inr there) ]

has_put : (x : ℕ) (ys : List ℕ) (z : ℕ) → (z ≡ x) ⊎ Has ys z → Has (put_amount x ys) z
has_put x [] z h = h
has_put x (y ∷ ys) z h = elim (cases_lt x y) [
  | inl less ↦ rw (is_less x y less) h
  | inr no_less ↦ elim (cases_eq x y) [
    | inl same ↦ rw (is_no_less x y no_less, is_same x y same) (here same h)
    | inr other ↦ rw (is_no_less x y no_less, is_other x y other) (after (has_put x ys z) h)
  ]
]
  where
    after : ((z ≡ x) ⊎ Has ys z → Has (put_amount x ys) z) → (z ≡ x) ⊎ Has (y ∷ ys) z → Has (y ∷ put_amount x ys) z
    after further (inl e) = inr (further (inl e))
    after further (inr (inl e)) = inl e
    after further (inr (inr k)) = inr (further (inr k))

    here : x ≡ y → (z ≡ x) ⊎ Has (y ∷ ys) z → Has (y ∷ ys) z
    here e (inl is) = inl (is ∙ e)
    here e (inr k) = k

put_rising : (x : ℕ) (ys : List ℕ) → IsRising ys → IsRising (put_amount x ys)
put_rising x [] h = (λ z k. absurd k, tt)
put_rising x (y ∷ ys) h = elim (cases_lt x y) [
  | inl less ↦ rw (is_less x y less) (in_prefix less, h)
  | inr no_less ↦ elim (cases_eq x y) [
    | inl same ↦ rw (is_no_less x y no_less, is_same x y same) h
    | inr other ↦ rw (is_no_less x y no_less, is_other x y other) (after (omega arith), put_rising x ys h.1)
  ]
]
  where
    in_prefix : x < y → (z : ℕ) → Has (y ∷ ys) z → x < z
    in_prefix l z (inl e) = omega arith
    in_prefix l z (inr k) = omega (arith, h.0 z k)

    after : y < x → (z : ℕ) → Has (put_amount x ys) z → y < z
    after l z k = elim (put_has x ys z k) [ inl e ↦ omega arith | inr there ↦ h.0 z there ]

rising_is : (xs : List ℕ) → IsRising (rising xs)
rising_is [] = tt
rising_is (x ∷ xs) = put_rising x (rising xs) (rising_is xs)

rising_has : (xs : List ℕ) (z : ℕ) → Has (rising xs) z → Has xs z
rising_has [] z h = h
rising_has (x ∷ xs) z h = elim (put_has x (rising xs) z h) [ inl e ↦ inl e | inr there ↦ inr (rising_has xs z there) ]

has_rising : (xs : List ℕ) (z : ℕ) → Has xs z → Has (rising xs) z
has_rising [] z h = h
has_rising (x ∷ xs) z (inl e) = has_put x (rising xs) z (inl e)
has_rising (x ∷ xs) z (inr k) = has_put x (rising xs) z (inr (has_rising xs z k))

-- Counts.

abbrev unit : Bool → ℕ
unit t = cond t 1 0

count-cons : (x y : ℕ) (ys : List ℕ) → count_of x (y ∷ ys) ≡ unit (y == x) + count_of x ys
count-cons x y ys = sum_by-cons (λ z. cond (z == x) 1 0) y ys

has_counted : (xs : List ℕ) (x : ℕ) → Has xs x → 0 < count_of x xs
has_counted [] x h = absurd h
has_counted (y ∷ ys) x (inl e) = let one : unit (y == x) ≡ 1 = ap unit (is_same y x (sym e)) in
    omega (arith, count-cons x y ys)
has_counted (y ∷ ys) x (inr k) = omega (arith, count-cons x y ys, has_counted ys x k)

counted_has : (xs : List ℕ) (x : ℕ) → 0 < count_of x xs → Has xs x
counted_has [] x h = absurd (omega arith)
counted_has (y ∷ ys) x h = elim (cases_eq y x) [
  | inl same ↦ inl (sym same)
  | inr other ↦
      inr (counted_has ys x (let none : unit (y == x) ≡ 0 = ap unit (is_other y x other) in
      omega (arith, count-cons x y ys)))
]

-- lists in which each amount comes equally often have the same lines
pub same_counts : (xs ys : List ℕ) → ((x : ℕ) → count_of x xs ≡ count_of x ys) → yearly_lines xs ≡ yearly_lines ys
same_counts xs ys h =
    map_same (λ x. line.Yearly x (count_of x xs)) (λ x. line.Yearly x (count_of x ys)) (rising xs)
    (λ x k. ap (λ n. line.Yearly x n) (h x))
    ∙ ap (map (λ x. line.Yearly x (count_of x ys))) (one_rising (rising xs) (rising ys) (rising_is xs) (rising_is ys)
    (λ r k. has_rising ys r (counted_has ys r (omega (arith, h r, has_counted xs r (rising_has xs r k)))))
    (λ r k. has_rising xs r (counted_has xs r (omega (arith, h r, has_counted ys r (rising_has ys r k))))))

pub same_lines : (xs ys : List ℕ) → IsPermutation xs ys → yearly_lines xs ≡ yearly_lines ys
same_lines xs ys moved = same_counts xs ys (λ x. sym (sum_by-IsPermutation (λ y. cond (y == x) 1 0) xs ys moved))

-- A list that does not fall begins with a run of one amount, and greater ones follow.

abbrev IsNonFalling : List ℕ → Type 0
IsNonFalling [] = Unit {0}
IsNonFalling (x ∷ xs) = ((y : ℕ) → Has xs y → x ≤ y) × IsNonFalling xs

has-at : (xs : List ℕ) (x : ℕ) → Has xs x → (i : ℕ) × (i < length xs) × (get_or xs i 0 ≡ x)
has-at [] x h = absurd h
has-at (y ∷ ys) x (inl e) = (0, omega arith, sym e)
has-at (y ∷ ys) x (inr h) = let at = has-at ys x h in (suc at.0, omega (arith, at.1), at.2)

non_falling : (xs : List ℕ) → IsNonDecreasingBy (λ x. x) xs → IsNonFalling xs
non_falling [] h = tt
non_falling (x ∷ xs) h = (
  λ y k. (let at = has-at xs y k in let l : x ≤ get_or xs at.0 0 =
      h 0 (suc at.0) 0 (omega arith) (omega (arith, at.1)) in omega (arith, at.2)),
  non_falling xs (λ i j d l u. h (suc i) (suc j) d (omega arith) (omega arith)),
)

abbrev prefix : ℕ → List ℕ → ℕ
prefix x zs = prefix_len (λ y. y == x) zs

-- what comes after the run
abbrev after : ℕ → List ℕ → List ℕ
after x zs = drop (prefix x zs) zs

after-same : (x z : ℕ) (zs : List ℕ) → z ≡ x → after x (z ∷ zs) ≡ after x zs
after-same x z zs e =
    rw (is_same z x e) (let one : drop (1 + prefix x zs) (z ∷ zs) ≡ drop (prefix x zs) zs =
    ap (λ n. drop n (z ∷ zs)) (more (prefix x zs)) in one)
  where
    more : (n : ℕ) → 1 + n ≡ suc n
    more n = omega arith

after-other : (x z : ℕ) (zs : List ℕ) → z ≢ x → after x (z ∷ zs) ≡ z ∷ zs
after-other x z zs e = rw (is_other z x e) refl

greater : (x : ℕ) (zs : List ℕ) → IsNonFalling zs → ((y : ℕ) → Has zs y → x ≤ y) → (y : ℕ) → Has (after x zs) y → x < y
greater x [] h low y k = absurd k
greater x (z ∷ zs) h low y k = elim (cases_eq z x) [
  | inl same ↦
      greater x zs h.1 (λ w j. low w (inr j)) y (let there : Has (after x zs) y = rw (after-same x z zs same) at k in
      there)
  | inr other ↦ above other (let there : Has (z ∷ zs) y = rw (after-other x z zs other) at k in there)
]
  where
    above : z ≢ x → Has (z ∷ zs) y → x < y
    above other (inl e) = above_first (low z (inl refl)) other e
      where
        above_first : x ≤ z → z ≢ x → y ≡ z → x < y
        above_first l o e = grind arith
    above other (inr j) = strictly (low z (inl refl)) other (h.0 y j)
      where
        strictly : x ≤ z → z ≢ x → z ≤ y → x < y
        strictly l o m = grind arith

put-prefix : (x : ℕ) (ys : List ℕ) → ((y : ℕ) → Has ys y → x < y) → put_amount x ys ≡ x ∷ ys
put-prefix x [] h = refl
put-prefix x (y ∷ ys) h = rw (is_less x y (h y (inl refl))) refl

put-again : (x : ℕ) (ys : List ℕ) → put_amount x (x ∷ ys) ≡ x ∷ ys
put-again x ys = rw (is_no_less x x (omega arith), is_same x x refl) refl

first_rising : (x : ℕ) (zs : List ℕ) → IsNonFalling zs → ((y : ℕ) → Has zs y → x ≤ y) →
    rising (x ∷ zs) ≡ x ∷ rising (after x zs)
first_rising x [] h low = refl
first_rising x (z ∷ zs) h low = elim (cases_eq z x) [
  | inl same ↦
      ap (λ w. put_amount x (rising (w ∷ zs))) same
      ∙ (ap (put_amount x) (first_rising x zs h.1 (λ w j. low w (inr j)))
      ∙ (put-again x (rising (after x zs)) ∙ ap (λ ws. x ∷ rising ws) (sym (after-same x z zs same))))
  | inr other ↦
      put-prefix x (rising (z ∷ zs))
      (λ y k. greater x (z ∷ zs) h low y (let there : Has (after x (z ∷ zs)) y =
      rw (after-other x z zs other) (rising_has (z ∷ zs) y k) in there))
      ∙ ap (λ ws. x ∷ rising ws) (sym (after-other x z zs other))
]

none_counted : (x : ℕ) (ys : List ℕ) → ((y : ℕ) → Has ys y → x < y) → count_of x ys ≡ 0
none_counted x [] h = refl
none_counted x (y ∷ ys) h =
    let none : unit (y == x) ≡ 0 = ap unit (is_other y x (λ e. omega (arith, h y (inl refl)))) in
    omega (arith, count-cons x y ys, none_counted x ys (λ w k. h w (inr k)))

count_prefix : (x : ℕ) (zs : List ℕ) → IsNonFalling zs → ((y : ℕ) → Has zs y → x ≤ y) → count_of x zs ≡ prefix x zs
count_prefix x [] h low = refl
count_prefix x (z ∷ zs) h low = elim (cases_eq z x) [
  | inl same ↦
      let one : unit (z == x) ≡ 1 = ap unit (is_same z x same) in
      let more : prefix x (z ∷ zs) ≡ 1 + prefix x zs = rw (is_same z x same) refl in
      omega (arith, count-cons x z zs, count_prefix x zs h.1 (λ w j. low w (inr j)))
  | inr other ↦
      let end : prefix x (z ∷ zs) ≡ 0 = rw (is_other z x other) refl in
      none_counted x (z ∷ zs)
      (λ y k. greater x (z ∷ zs) h low y (let there : Has (after x (z ∷ zs)) y =
      rw (after-other x z zs other) k in there)) ∙ sym end
]

count_after : (x y : ℕ) (zs : List ℕ) → x ≢ y → count_of y zs ≡ count_of y (after x zs)
count_after x y [] other = refl
count_after x y (z ∷ zs) other = elim (cases_eq z x) [
  | inl same ↦
      let none : unit (z == y) ≡ 0 = ap unit (is_other z y (λ e. other (sym same ∙ e))) in
      let further : count_of y zs ≡ count_of y (after x zs) = count_after x y zs other in
      let whole : count_of y (z ∷ zs) ≡ count_of y zs = omega (arith, count-cons y z zs) in
      whole ∙ (further ∙ ap (count_of y) (sym (after-same x z zs same)))
  | inr not ↦ ap (count_of y) (sym (after-other x z zs not))
]

-- the lines of such a list are that of its first amount and those of what comes after
pub first_line : (x : ℕ) (zs : List ℕ) → IsNonFalling (x ∷ zs) →
    yearly_lines (x ∷ zs) ≡ line.Yearly x (1 + prefix x zs) ∷ yearly_lines (after x zs)
first_line x zs h =
    ap (map (λ y. line.Yearly y (count_of y (x ∷ zs)))) (first_rising x zs h.1 h.0)
    ∙ (ap (λ n. line.Yearly x n ∷ map (λ y. line.Yearly y (count_of y (x ∷ zs))) (rising (after x zs))) counted
    ∙ ap (λ ls. line.Yearly x (1 + prefix x zs) ∷ ls)
    (map_same (λ y. line.Yearly y (count_of y (x ∷ zs))) (λ y. line.Yearly y (count_of y (after x zs)))
    (rising (after x zs)) others))
  where
    one : unit (x == x) ≡ 1
    one = ap unit (is_same x x refl)

    counted : count_of x (x ∷ zs) ≡ 1 + prefix x zs
    counted = omega (arith, count-cons x x zs, one, count_prefix x zs h.1 h.0)

    others : (y : ℕ) → Has (rising (after x zs)) y →
        line.Yearly y (count_of y (x ∷ zs)) ≡ line.Yearly y (count_of y (after x zs))
    others y k =
        let less : x < y = greater x zs h.1 h.0 y (rising_has (after x zs) y k) in
        let other : x ≢ y = λ e. omega arith in
        let none : unit (x == y) ≡ 0 = ap unit (is_other x y other) in
        ap (λ n. line.Yearly y n) (omega (arith, count-cons y x zs, count_after x y zs other))

-- the same of the list as a whole
pub first_of_rest : (xs : List ℕ) (count : ℕ) → IsNonDecreasingBy (λ x. x) xs → 0 < length xs →
    count ≡ prefix_len (λ x. x == slice_index xs 0) xs →
    yearly_lines xs ≡ line.Yearly (slice_index xs 0) count ∷ yearly_lines (drop count xs)
first_of_rest [] count h l is = absurd (omega arith)
first_of_rest (x ∷ zs) count h l is =
    let whole : count ≡ 1 + prefix x zs = is ∙ (rw (is_same x x refl) refl) in
    let step : drop count (x ∷ zs) ≡ after x zs = ap (λ n. drop n (x ∷ zs)) (whole ∙ more (prefix x zs)) in
    first_line x zs (non_falling (x ∷ zs) h)
    ∙ (ap (λ n. line.Yearly x n ∷ yearly_lines (after x zs)) (sym whole)
    ∙ ap (λ ws. line.Yearly x count ∷ yearly_lines ws) (sym step))
  where
    more : (n : ℕ) → 1 + n ≡ suc n
    more n = omega arith
