-- Sums over the indices that pass a test, from one that passes to the next.
use Rattle.std.proofs.Common.{◌≡◌, ℕ, ◌+◌, ◌-◌, ◌<◌, ◌≤◌, Bool, true, false, refl, sym, ap, ◌∙◌, arith}
use Rattle.std.proofs.Common.{◌*◌, ◌^◌, List, length, subst, zero, suc, inl, inr}
use Rattle.std.specs.Prelude.{Option, Some, None, IfSome, IfNone, ◌==◌, ◌≢◌, ◌&&◌, if◌then◌else◌, unwrap_or}
use Rattle.std.specs.Prelude.{slice_index_or, ◌⊎◌}
use Rattle.std.proofs.lemmas.Bool.Decides.{nat_tests}
use Rattle.bit_words.specs.Marks.{in_both, is_marked, marks, IsNextInBoth}
use Rattle.bit_words.proofs.Marks.{get_or-marks}
use Rattle.finite_sums.specs.Sums.{total, total_where, when}
use Rattle.finite_sums.proofs.Totals.{total_grows, total_where_start, total_where_more, total_where_most}
use Rattle.water_model.specs.Basin.{is_at}
use Rattle.water_model.specs.Lookups.{has}
use Rattle.chains.specs.Chains.{AreChains, IsFirst}
use Rattle.chains.specs.declared.Chains.{Chains}
use Rattle.chains.proofs.Walking.{fewer_left, key_is}
use Rattle.cut_cert.specs.Rows.{BelongBy}

-- indices that don't pass may be left out of a sum
total_skips : (m n : ℕ) (p : ℕ → Bool) (f : ℕ → ℕ) → m ≤ n → ((k : ℕ) → m ≤ k → k < n → p k ≡ false) →
    total_where n p f ≡ total_where m p f
unfolding total
total_skips m zero p f h none = let e : 0 ≡ m = omega arith in ap (λ k. total_where k p f) e
total_skips m (suc n) p f h none = elim (at_or_below m n h) [
  | inl same ↦ ap (λ k. total_where k p f) (sym same)
  | inr below ↦
      let last : (if p n then f n else 0) ≡ 0 = ap (λ t. if t then f n else 0) (none n below (omega arith)) in
      omega (arith, last, total_skips m n p f below (λ k a c. none k a (omega arith)))
]
  where
    at_or_below : (m n : ℕ) → m ≤ suc n → (m ≡ suc n) ⊎ (m ≤ n)
    at_or_below m n h = grind arith

-- how far a sum has come, at the next index that passes
pub record IsSummedSoFar (p : ℕ → Bool) (count : ℕ) (f : ℕ → ℕ) (sum : ℕ) (next : Option ℕ) : Type 0 where
  pub start : ℕ
  pub within : start ≤ count
  pub at : IsFirst p start count next
  pub so_far : sum ≡ total_where start p f

pub sum_start : (p : ℕ → Bool) (count : ℕ) (f : ℕ → ℕ) (next : Option ℕ) → IsFirst p 0 count next →
    IsSummedSoFar p count f 0 next
sum_start p count f next at = record {
  start = 0;
  within = omega arith;
  at = at;
  so_far = sym (total_where_start p f);
}

-- up to the next index, and with it
before_next : (p : ℕ → Bool) (count : ℕ) (f : ℕ → ℕ) (sum at : ℕ) → IsSummedSoFar p count f sum (Some at) →
    total_where at p f ≡ sum
before_next p count f sum at so =
    total_skips so.start at p f so.at.0 (λ k l u. so.at.3 k l u) ∙ sym so.so_far

with_next : (p : ℕ → Bool) (count : ℕ) (f : ℕ → ℕ) (sum at : ℕ) → IsSummedSoFar p count f sum (Some at) →
    total_where (at + 1) p f ≡ sum + f at
with_next p count f sum at so = total_where_more at p f ∙ rw (before_next p count f sum at so, so.at.2) refl

-- one index more
pub sum_more : (p : ℕ → Bool) (count : ℕ) (f : ℕ → ℕ) (sum at one : ℕ) (next : Option ℕ) →
    IsSummedSoFar p count f sum (Some at) → one ≡ f at → IsFirst p (at + 1) count next →
    IsSummedSoFar p count f (sum + one) next
sum_more p count f sum at one next so is further = record {
  start = at + 1;
  within = omega (arith, so.at.1);
  at = further;
  so_far = ap (λ t. sum + t) is ∙ sym (with_next p count f sum at so);
}

-- and the sum is within the whole
pub sum_fits : (p : ℕ → Bool) (count : ℕ) (f : ℕ → ℕ) (sum at : ℕ) → IsSummedSoFar p count f sum (Some at) →
    sum + f at ≤ total_where count p f
sum_fits p count f sum at so =
    omega (
      arith,
      with_next p count f sum at so,
      so.at.1,
      total_grows (at + 1) count (λ k. if p k then f k else 0) (omega (arith, so.at.1)),
    )

-- all indices that pass
pub sum_all : (p : ℕ → Bool) (count : ℕ) (f : ℕ → ℕ) (sum : ℕ) → IsSummedSoFar p count f sum None →
    sum ≡ total_where count p f
sum_all p count f sum so =
    so.so_far ∙ sym (total_skips so.start count p f so.within (λ k l u. so.at k l u))

-- a part of a term is small
pub when_most : (t : Bool) (x m : ℕ) → x ≤ m → when t x ≤ m
when_most true x m h = h
when_most false x m h = omega arith

-- Over marked nodes.

single : (t : Bool) → t && t ≡ false → t ≡ false
single true h = h
single false h = refl

both : (t : Bool) → t && t ≡ true → t ≡ true
both true h = refl
both false h = h

of_marks_below : (words : List ℕ) (nodes from : ℕ) (o : Option ℕ) →
    IfSome o (λ p. IsNextInBoth words words from nodes p) →
    IfNone o ((q : ℕ) → from ≤ q → q < nodes → in_both words words q ≡ false) →
    IsFirst (λ n. has (marks nodes words) n) from nodes o
of_marks_below words nodes from None some none = λ q l u.
    get_or-marks nodes words q false u ∙ single (is_marked words q) (none q l u)
of_marks_below words nodes from (Some p) some none = (
  some.after,
  some.below,
  get_or-marks nodes words p false some.below ∙ both (is_marked words p) some.marked,
  λ q l u. get_or-marks nodes words q false (let b = some.below in omega arith)
      ∙ single (is_marked words q) (some.least q l u),
)

pub of_marks : (words : List ℕ) (nodes count from : ℕ) (o : Option ℕ) → nodes ≡ count →
    IfSome o (λ p. IsNextInBoth words words from nodes p) →
    IfNone o ((q : ℕ) → from ≤ q → q < nodes → in_both words words q ≡ false) →
    IsFirst (λ n. has (marks count words) n) from count o
of_marks words nodes count from o same some none =
    subst (λ m. IsFirst (λ n. has (marks m words) n) from m o) same (of_marks_below words nodes from o some none)

-- from one index of a node's chain to the next
pub chain_goes_on : (node_of : ℕ → Option ℕ) (count nodes node : ℕ) (chains : Chains) (f : ℕ → ℕ) (sum at : ℕ)
    (next : Option ℕ) →
    AreChains node_of count nodes chains → IsSummedSoFar (λ s. is_at (node_of s) node) count f sum (Some at) →
    next ≡ slice_index_or chains.next.items at None → IsFirst (λ s. is_at (node_of s) node) (at + 1) count next
chain_goes_on node_of count nodes node chains f sum at next are so is =
    rw is (are.nexts at node so.at.1 (key_is (node_of at) node so.at.2))

pub chain_smaller : (node_of : ℕ → Option ℕ) (count nodes node : ℕ) (chains : Chains) (f : ℕ → ℕ) (sum at : ℕ)
    (next : Option ℕ) →
    AreChains node_of count nodes chains → IsSummedSoFar (λ s. is_at (node_of s) node) count f sum (Some at) →
    next ≡ slice_index_or chains.next.items at None → count - unwrap_or next count < count - at
chain_smaller node_of count nodes node chains f sum at next are so is =
    fewer_left (λ s. is_at (node_of s) node) count at next so.at.1
    (chain_goes_on node_of count nodes node chains f sum at next are so is)

-- how far the sum of a node's terms has come: for each way to say to which nodes the indices belong and what their
-- terms are, and, as no term is more than 10^15, for one way with that term
pub record IsRowSum (chains : Chains) (node : ℕ) (is_term : ℕ → ℕ → Type 0) (sum : ℕ) (next : Option ℕ) : Type 0 where
  pub node_of : ℕ → Option ℕ
  pub all : BelongBy node_of chains
  pub most : ℕ
  pub within : sum ≤ most
  pub so_far : IsSummedSoFar (λ s. is_at (node_of s) node) (length chains.next.items) (λ s. 10 ^ 15) most next
  pub sums : (belongs : ℕ → Option ℕ) (count nodes : ℕ) (f : ℕ → ℕ) → AreChains belongs count nodes chains →
      ((index one : ℕ) → index < count → is_term index one → one ≡ f index) →
      IsSummedSoFar (λ s. is_at (belongs s) node) count f sum next

pub row_start : (chains : Chains) (node : ℕ) (is_term : ℕ → ℕ → Type 0) (next : Option ℕ) →
    ((node_of : ℕ → Option ℕ) × BelongBy node_of chains) → next ≡ slice_index_or chains.first.items node None →
    IsRowSum chains node is_term 0 next
row_start chains node is_term next are is = record {
  node_of = are.0;
  all = are.1;
  most = 0;
  within = omega arith;
  so_far = sum_start (λ s. is_at (are.0 s) node) (length chains.next.items) (λ s. 10 ^ 15) next
      (rw is (are.1.firsts node));
  sums = λ belongs count nodes f all terms. sum_start (λ s. is_at (belongs s) node) count f next
      (rw is (all.firsts node));
}

pub row_more : (chains : Chains) (node : ℕ) (is_term : ℕ → ℕ → Type 0) (sum at one : ℕ) (next : Option ℕ) →
    IsRowSum chains node is_term sum (Some at) → is_term at one → one ≤ 10 ^ 15 →
    next ≡ slice_index_or chains.next.items at None → IsRowSum chains node is_term (sum + one) next
row_more chains node is_term sum at one next so is small after = record {
  node_of = so.node_of;
  all = so.all;
  most = so.most + 10 ^ 15;
  within = omega (arith, so.within);
  so_far = more so.node_of (length chains.next.items) (length chains.first.items) (λ s. 10 ^ 15) so.most (10 ^ 15)
      so.all so.so_far refl;
  sums = λ belongs count nodes f all terms. let before = so.sums belongs count nodes f all terms in
      more belongs count nodes f sum one all before (terms at one before.at.1 is);
}
  where
    more : (belongs : ℕ → Option ℕ) (count nodes : ℕ) (f : ℕ → ℕ) (sum one : ℕ) →
        AreChains belongs count nodes chains → IsSummedSoFar (λ s. is_at (belongs s) node) count f sum (Some at) →
        one ≡ f at → IsSummedSoFar (λ s. is_at (belongs s) node) count f (sum + one) next
    more belongs count nodes f sum one all so is =
        sum_more (λ s. is_at (belongs s) node) count f sum at one next so is
        (chain_goes_on belongs count nodes node chains f sum at next all so after)

pub row_fits : (chains : Chains) (node : ℕ) (is_term : ℕ → ℕ → Type 0) (sum at : ℕ) →
    IsRowSum chains node is_term sum (Some at) → length chains.next.items ≤ 4000 → sum + 10 ^ 15 ≤ 4000 * 10 ^ 15
row_fits chains node is_term sum at so few =
    omega (
      arith,
      so.within,
      sum_fits (λ s. is_at (so.node_of s) node) (length chains.next.items) (λ s. 10 ^ 15) so.most at so.so_far,
      total_where_most (length chains.next.items) (10 ^ 15) (λ s. is_at (so.node_of s) node) (λ s. 10 ^ 15)
          (λ s l. omega arith),
    )

pub row_all : (chains : Chains) (node : ℕ) (is_term : ℕ → ℕ → Type 0) (sum : ℕ) →
    IsRowSum chains node is_term sum None → length chains.next.items ≤ 4000 → sum ≤ 4000 * 10 ^ 15
row_all chains node is_term sum so few =
    omega (
      arith,
      so.within,
      sum_all (λ s. is_at (so.node_of s) node) (length chains.next.items) (λ s. 10 ^ 15) so.most so.so_far,
      total_where_most (length chains.next.items) (10 ^ 15) (λ s. is_at (so.node_of s) node) (λ s. 10 ^ 15)
          (λ s l. omega arith),
    )
