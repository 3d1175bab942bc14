-- The indices of columns, and which of them are gauges and wants.
use Rattle.inflow_file.proofs.Words.{◌≡◌, ℕ, zero, suc, ◌+◌, ◌-◌, ◌<◌, ◌≤◌, Bool, true, false, refl, sym, ap, ◌∙◌}
use Rattle.inflow_file.proofs.Words.{arith, List, [], ◌∷◌, ◌++◌, length, get_or, slice_index, filter, if◌then◌else◌}
use Rattle.inflow_file.proofs.Words.{inl, inr, add-one, zero-add, cases_lt, lt-ltb, le-ltb, get_or_append_left}
use Rattle.inflow_file.proofs.Words.{get_or_push, length-append, get_or_at, filter-append, filter_agree}
use Rattle.inflow_file.proofs.Words.{get_or_from_slice_get, index_is, filter_short, Basin, IsColumn, column_numbers}
use Rattle.inflow_file.proofs.Words.{count_of_both, is_column, right_number, columns_from}
use Rattle.std.proofs.lemmas.List.Kept.{IsStrictlyIncreasing-filter, AllPairs-from_increasing}
use Rattle.std.specs.List.Sorted.{IsStrictlyIncreasing}
use Rattle.water_model.proofs.Lists.{numbers_more}
use Rattle.water_model.proofs.Order.{numbers_from-get, length-numbers_from}
use Rattle.water_model.specs.Hydrology.{index_in}
use Rattle.water_model.specs.Indices.{numbers_from}
use Rattle.water_model.specs.Valid.{is_gauged, gauged_nodes, is_in_series, rights_in_series}

-- how many of the numbers below another pass a test
abbrev pub passed_below : (ℕ → Bool) → ℕ → ℕ
passed_below p n = length (filter p (numbers_from 0 n))

pub filter_next : (p : ℕ → Bool) (n : ℕ) →
    filter p (numbers_from 0 (n + 1)) ≡ filter p (numbers_from 0 n) ++ (if p n then n ∷ [] else [])
filter_next p n =
    rw add-one
    (ap (filter p) (numbers_more 0 n) ∙ (filter-append p (numbers_from 0 n) ((0 + n) ∷ []) ∙ rw zero-add refl))

pub passed_most : (p : ℕ → Bool) (n : ℕ) → passed_below p n ≤ n
passed_most p n = omega (arith, filter_short p (numbers_from 0 n), length-numbers_from 0 n)

numbers_parted : (from a c : ℕ) → numbers_from from (a + c) ≡ numbers_from from a ++ numbers_from (from + a) c
unfolding numbers_from
numbers_parted from zero c = let start : from ≡ from + zero = omega arith in
    rw zero-add (ap (λ k. numbers_from k c) start)
numbers_parted from (suc a) c =
    let more : suc a + c ≡ suc (a + c) = omega arith in let on : suc from + a ≡ from + suc a = omega arith in
    rw more (ap (λ ns. from ∷ ns)
    (numbers_parted (suc from) a c ∙ ap (λ k. numbers_from (suc from) a ++ numbers_from k c) on))

-- those that pass rise
passed_rise : (p : ℕ → Bool) (n : ℕ) → IsStrictlyIncreasing (filter p (numbers_from 0 n))
passed_rise p n = IsStrictlyIncreasing-filter p (numbers_from 0 n) (λ k l.
    let within : k + 1 < n = omega (arith, length-numbers_from 0 n) in let here = read k (omega arith) in
    let next = read (k + 1) within in omega arith)
  where
    read : (k : ℕ) → k < n → get_or (numbers_from 0 n) k 0 ≡ k
    read k l = get_or_from_slice_get (numbers_from 0 n) k k 0 (numbers_from-get 0 n k k l (omega arith))

-- the index of the number that stands at an index
pub index_of_passing : (p : ℕ → Bool) (count g : ℕ) → g < passed_below p count →
    index_in (filter p (numbers_from 0 count)) (get_or (filter p (numbers_from 0 count)) g 0) ≡ g
index_of_passing p count g l =
    sym (index_is (filter p (numbers_from 0 count)) (get_or (filter p (numbers_from 0 count)) g 0) g (omega arith)
    (λ k m e. let less = AllPairs-from_increasing _ (passed_rise p count) k g 0 m l in omega arith) (λ m. refl))

-- a number that passes stands where as many are before it as pass below it
stands : (p : ℕ → Bool) (count x : ℕ) → x < count → p x ≡ true →
    (passed_below p x < passed_below p count) × (get_or (filter p (numbers_from 0 count)) (passed_below p x) 0 ≡ x)
unfolding numbers_from
stands p count x l h =
    let rest : ℕ = count - suc x in let all : count ≡ x + suc rest = omega arith in
    let parted : filter p (numbers_from 0 count) ≡ filter p (numbers_from 0 x) ++ x ∷ filter p (numbers_from
    (suc x) rest) = ap (λ n. filter p (numbers_from 0 n)) all ∙ ap (filter p) (numbers_parted 0 x (suc rest))
    ∙ filter-append p (numbers_from 0 x) (numbers_from (0 + x) (suc rest)) ∙ rw (zero-add, h) refl in
    rw parted (
      omega (arith, length-append (filter p (numbers_from 0 x)) (x ∷ filter p (numbers_from (suc x) rest))),
      get_or_at (filter p (numbers_from 0 x)) x (filter p (numbers_from (suc x) rest)) 0 _ refl,
    )

-- which is its index
pub index_passed : (p : ℕ → Bool) (count x : ℕ) → x < count → p x ≡ true →
    index_in (filter p (numbers_from 0 count)) x ≡ passed_below p x
index_passed p count x l h =
    let there = stands p count x l h in
    ap (index_in (filter p (numbers_from 0 count))) (sym there.1) ∙ index_of_passing p count (passed_below p x) there.0

pub index_holds : (p : ℕ → Bool) (count x : ℕ) → x < count → p x ≡ true →
    (index_in (filter p (numbers_from 0 count)) x < length (filter p (numbers_from 0 count)))
    × (get_or (filter p (numbers_from 0 count)) (index_in (filter p (numbers_from 0 count)) x) 0 ≡ x)
index_holds p count x l h = rw (index_passed p count x l h) (stands p count x l h)

pub none_below : (p : ℕ → Bool) → filter p (numbers_from 0 0) ≡ []
unfolding numbers_from
none_below p = refl

-- the indices of one more number
pub index_added : (p : ℕ → Bool) (indices : List ℕ) (passing : List ℕ) (n k : ℕ) → length indices ≡ n →
    passing ≡ filter p (numbers_from 0 n) → ((m : ℕ) → m < n → slice_index indices m ≡ passed_below p m) →
    k < n + 1 → slice_index (indices ++ length passing ∷ []) k ≡ passed_below p k
index_added p indices passing n k count is each l =
    elim (cases_lt k n) [
      | inl below ↦ get_or_append_left indices (length passing ∷ []) 0 k (omega arith) ∙ each k below
      | inr past ↦ let same : k ≡ n = omega arith in
          rw same (get_or_push indices (length passing) 0 n count ∙ ap length is)
    ]

-- Gauges come first among the columns, and wants after them.

pub gauge_column : (b : Basin) (node : ℕ) → node < length b.nodes → is_column b node ≡ is_gauged b node
gauge_column b node l = rw (lt-ltb node (length b.nodes) l) refl

pub want_column : (b : Basin) (right : ℕ) → is_column b (right_number b right) ≡ is_in_series b right
want_column b right =
    let cell : length b.nodes + right - length b.nodes ≡ right = omega arith in
    rw (le-ltb (length b.nodes + right) (length b.nodes) (omega arith), cell) refl

pub is_gauge : (b : Basin) (node : ℕ) → node < length b.nodes → is_gauged b node ≡ true → IsColumn b node
is_gauge b node l h = record { within = omega arith; due = gauge_column b node l ∙ h }

pub is_want : (b : Basin) (right : ℕ) → right < length b.rights → is_in_series b right ≡ true →
    IsColumn b (right_number b right)
is_want b right l h = record { within = omega arith; due = want_column b right ∙ h }

-- tests that agree pass the same numbers
same_passed : (p q : ℕ → Bool) (from count : ℕ) → ((k : ℕ) → k < from + count → p k ≡ q k) →
    filter p (numbers_from from count) ≡ filter q (numbers_from from count)
unfolding numbers_from
same_passed p q from zero h = refl
same_passed p q from (suc count) h =
    ap (λ t. if t then from ∷ filter p (numbers_from (suc from) count) else filter p (numbers_from (suc from) count))
    (h from (omega arith))
    ∙ ap (λ ns. if q from then from ∷ ns else ns) (same_passed p q (suc from) count (λ k l. h k (omega arith)))

-- as many pass a test that is moved on
moved_on : (p q : ℕ → Bool) (n from count : ℕ) → ((k : ℕ) → p (n + k) ≡ q k) →
    length (filter p (numbers_from (n + from) count)) ≡ length (filter q (numbers_from from count))
unfolding numbers_from
moved_on p q n from zero h = refl
moved_on p q n from (suc count) h =
    let next : suc (n + from) ≡ n + suc from = omega arith in
    rw (h from) (by_test (q from) _ _ (ap (λ k. length (filter p (numbers_from k count))) next
    ∙ moved_on p q n (suc from) count h))
  where
    by_test : (t : Bool) (xs ys : List ℕ) → length xs ≡ length ys →
        length (if t then (n + from) ∷ xs else xs) ≡ length (if t then from ∷ ys else ys)
    by_test true xs ys e = ap suc e
    by_test false xs ys e = e

-- the gauges, and the rights whose wants stand in the series, as the columns among nodes and among rights
pub gauges_are : (b : Basin) → columns_from b 0 (length b.nodes) ≡ gauged_nodes b
gauges_are b = same_passed _ _ 0 (length b.nodes) (λ k l. rw zero-add (gauge_column b k (omega arith)))

pub wants_are : (b : Basin) → columns_from b (length b.nodes) (length b.rights) ≡ rights_in_series b
wants_are b = filter_agree _ _ (λ k. want_column b k) (numbers_from 0 (length b.rights))

pub ruleset filters = (filter_next, none_below)

-- the columns below the number of a right: all gauges, and the wants before it
below_right : (b : Basin) (right : ℕ) → length (filter (λ n. is_column b n) (numbers_from 0 (right_number b right)))
    ≡ length (gauged_nodes b) + length (filter (λ r. is_in_series b r) (numbers_from 0 right))
below_right b right =
    let parted : filter (λ n. is_column b n) (numbers_from 0 (length b.nodes + right))
    ≡ filter (λ n. is_column b n) (numbers_from 0 (length b.nodes))
    ++ filter (λ n. is_column b n) (numbers_from (length b.nodes + 0) right) = ap (filter (λ n. is_column b n))
    (numbers_parted 0 (length b.nodes) right ∙ ap (λ k. numbers_from 0 (length b.nodes) ++ numbers_from k right) start)
    ∙ filter-append (λ n. is_column b n) (numbers_from 0 (length b.nodes)) (numbers_from (length b.nodes + 0) right) in
    omega (
      arith,
      ap length parted,
      length-append (filter (λ n. is_column b n) (numbers_from 0 (length b.nodes)))
          (filter (λ n. is_column b n) (numbers_from (length b.nodes + 0) right)),
      ap length
          (same_passed (λ n. is_column b n) (λ n. is_gauged b n) 0 (length b.nodes)
          (λ k l. gauge_column b k (omega arith))),
      moved_on (λ n. is_column b n) (λ r. is_in_series b r) (length b.nodes) 0 right (λ k. want_column b k),
    )
  where
    start : 0 + length b.nodes ≡ length b.nodes + 0
    start = omega arith

pub count_of_columns : (b : Basin) → length (column_numbers b) ≡ length (gauged_nodes b) + length (rights_in_series b)
count_of_columns b = below_right b (length b.rights)

-- a gauge has its index among the gauges, and a right its index among the wants, after all gauges
pub index_of_gauge : (b : Basin) (node : ℕ) → node < length b.nodes → is_gauged b node ≡ true →
    index_in (column_numbers b) node ≡ index_in (gauged_nodes b) node
index_of_gauge b node l h =
    index_passed (λ n. is_column b n) (count_of_both b) node (omega arith) (gauge_column b node l ∙ h)
    ∙ (ap length (same_passed (λ n. is_column b n) (λ n. is_gauged b n) 0 node (λ k m. gauge_column b k (omega arith)))
    ∙ sym (index_passed (λ n. is_gauged b n) (length b.nodes) node l h))

pub index_of_want : (b : Basin) (right : ℕ) → right < length b.rights → is_in_series b right ≡ true →
    index_in (column_numbers b) (right_number b right) ≡ length (gauged_nodes b) + index_in (rights_in_series b) right
index_of_want b right l h =
    index_passed (λ n. is_column b n) (count_of_both b) (right_number b right) (omega arith) (want_column b right ∙ h)
    ∙ (below_right b right
    ∙ ap (λ k. length (gauged_nodes b) + k) (sym (index_passed (λ r. is_in_series b r) (length b.rights) right l h)))
