-- What the lines of an account book add up to.
use Rattle.std.proofs.Common.{◌≡◌, ℕ, zero, suc, ◌+◌, ◌≤◌, Bool, true, false, refl, sym, ap, ◌∙◌, arith, List, [], ◌∷◌}
use Rattle.std.proofs.Common.{length, inl, inr, ◌++◌}
use Rattle.std.specs.Prelude.{slice_index, Option, Some, None, pos, ◌-ℤ◌, if◌then◌else◌, ◌&&◌, nat_lt, ◌==◌, filter}
use Rattle.std.specs.Prelude.{sum_by}
use Rattle.std.specs.List.{flat_map}
use Rattle.std.proofs.lemmas.Bool.{cases_lt}
use Rattle.std.proofs.lemmas.Bool.Decides.{nat_tests}
use Rattle.std.proofs.lemmas.List.Sums.{sum_by-cons, sum_by-append}
use Rattle.finite_sums.specs.Sums.{total, total_where}
use Rattle.finite_sums.proofs.Terms.{greatest_is, none_where}
use Rattle.finite_sums.proofs.Totals.{total_first, total_same}
use Rattle.water_model.specs.Basin.{is_on_link, is_senior}
use Rattle.water_model.specs.Cuts.{kept_on, cut_capacity, cut_kept, IsTight}
use Rattle.water_model.specs.Entries.{count_in, in_order}
use Rattle.water_model.specs.Indices.{numbers_from, indices_of, put_right, sort_rights, by_seniority, seniors_first}
use Rattle.water_model.specs.Plans.{carry_of}
use Rattle.water_model.specs.declared.types.Basin.{Basin}
use Rattle.water_model.specs.declared.types.MonthRecord.{MonthRecord}
use Rattle.water_model.specs.declared.types.Right.{Right}
use Rattle.water_model.proofs.Order.{seniors_have, find-none}
use Rattle.cut_book.specs.Book.{counts, terms_at, keep_terms, lines_at, lines_in, space_of, terms, account}
use Rattle.cut_book.specs.Entries.{brought, kept, amount_of, has_amount, balance_of}
use Rattle.cut_book.specs.Holders.{holder_of, holds_amount}
use Rattle.cut_book.specs.Laws.{LinesMakeBound, TightBooksSumToDelivery}
use Rattle.cut_book.specs.declared.entry.BookLine.{BookLine}
use Rattle.cut_book.specs.declared.entry.BookLine.TheVariants as line
use Rattle.cut_book.specs.declared.part.Part.{Part}
use Rattle.cut_book.specs.declared.part.Part.TheVariants as part
use Rattle.cut_cert.specs.Sets.{cut_at}
use Rattle.cut_book.specs.Shortages.{ShortageView, terms_of}

-- Sums over lists.

sum_same : {X : Type 0} (f g : X → ℕ) (xs : List X) → ((x : X) → f x ≡ g x) → sum_by f xs ≡ sum_by g xs
sum_same f g [] h = refl
sum_same f g (x ∷ xs) h = sum_by-cons f x xs ∙ (omega (arith, h x, sum_same f g xs h) ∙ sym (sum_by-cons g x xs))

sum_flat : {X Y : Type 0} (g : Y → ℕ) (f : X → List Y) (xs : List X) →
    sum_by g (flat_map f xs) ≡ sum_by (λ x. sum_by g (f x)) xs
sum_flat g f [] = refl
sum_flat g f (x ∷ xs) =
    sum_by-append g (f x) (flat_map f xs)
    ∙ (omega (arith, sum_flat g f xs) ∙ sym (sum_by-cons (λ y. sum_by g (f y)) x xs))

sum_numbers : (g : ℕ → ℕ) (n from : ℕ) → sum_by g (numbers_from from n) ≡ total n (λ k. g (from + k))
unfolding numbers_from total
sum_numbers g zero from = refl
sum_numbers g (suc n) from =
    let shifted : total n (λ k. g (suc from + k)) ≡ total n (λ k. g (from + suc k)) =
    total_same n (λ k. g (suc from + k)) (λ k. g (from + suc k)) (λ k l. ap g (further k)) in
    sum_by-cons g from (numbers_from (suc from) n)
    ∙ (omega (arith, sum_numbers g n (suc from), shifted, ap g at_first) ∙ sym (total_first n (λ k. g (from + k))))
  where
    further : (k : ℕ) → suc from + k ≡ from + suc k
    further k = omega arith

    at_first : from ≡ from + 0
    at_first = omega arith

sum_indices : {X : Type 0} (g : ℕ → ℕ) (xs : List X) → sum_by g (indices_of xs) ≡ total (length xs) g
sum_indices g xs = sum_numbers g (length xs) 0 ∙ total_same (length xs) (λ k. g (0 + k)) g (λ k l. ap g (at k))
  where
    at : (k : ℕ) → 0 + k ≡ k
    at k = omega arith

-- a sum over rights does not depend on their order
sum_put : (rights : List Right) (g : ℕ → ℕ) (r : ℕ) (xs : List ℕ) → sum_by g (put_right rights r xs) ≡ g r + sum_by g xs
sum_put rights g r [] = sum_by-cons g r []
sum_put rights g r (x ∷ xs) = by_test (Rattle.water_model.specs.Rights.is_senior_in rights r x) (sum_put rights g r xs)
  where
    by_test : (t : Bool) → sum_by g (put_right rights r xs) ≡ g r + sum_by g xs →
        sum_by g (if t then r ∷ x ∷ xs else x ∷ put_right rights r xs) ≡ g r + sum_by g (x ∷ xs)
    by_test true further = sum_by-cons g r (x ∷ xs)
    by_test false further = sum_by-cons g x (put_right rights r xs) ∙ omega (arith, further, sum_by-cons g x xs)

sum_sort : (rights : List Right) (g : ℕ → ℕ) (xs : List ℕ) → sum_by g (sort_rights rights xs) ≡ sum_by g xs
sum_sort rights g [] = refl
sum_sort rights g (x ∷ xs) =
    sum_put rights g x (sort_rights rights xs) ∙ (omega (arith, sum_sort rights g xs) ∙ sym (sum_by-cons g x xs))

sum_seniors : (b : Basin) (g : ℕ → ℕ) → sum_by g (seniors_first b) ≡ total (length b.rights) g
unfolding by_seniority
sum_seniors b g = sum_sort b.rights g (indices_of b.rights) ∙ sum_indices g b.rights

-- Lines of amount 0 add nothing.

sum_filtered : (g : BookLine → ℕ) (es : List BookLine) → ((e : BookLine) → g e ≤ amount_of e) →
    sum_by g (filter has_amount es) ≡ sum_by g es
sum_filtered g [] most = refl
sum_filtered g (e ∷ es) most = by_test (has_amount e) refl (sum_filtered g es most)
  where
    nothing : (x y : ℕ) → nat_lt 0 y ≡ false → x ≤ y → x ≡ 0
    nothing x y h l = grind (arith, nat_tests)

    by_test : (t : Bool) → has_amount e ≡ t → sum_by g (filter has_amount es) ≡ sum_by g es →
        sum_by g (filter has_amount (e ∷ es)) ≡ sum_by g (e ∷ es)
    by_test true h rest =
        rw h (sum_by-cons g e (filter has_amount es) ∙ (omega (arith, rest) ∙ sym (sum_by-cons g e es)))
    by_test false h rest =
        rw h (rest ∙ (omega (arith, nothing (g e) (amount_of e) h (most e)) ∙ sym (sum_by-cons g e es)))

-- nor does a line more than its amount
within_amount : (e : BookLine) → (brought e ≤ amount_of e) × (kept e ≤ amount_of e)
within_amount (line.Why month right amount want) = (omega arith, omega arith)
within_amount (line.Supply node amount) = (omega arith, omega arith)
within_amount (line.Enter link amount) = (omega arith, omega arith)
within_amount (line.Keep link amount holder) = (omega arith, omega arith)
within_amount (line.Take right amount) = (omega arith, omega arith)
within_amount (line.Sum amount) = (omega arith, omega arith)

one : (g : BookLine → ℕ) (e : BookLine) → sum_by g (e ∷ []) ≡ g e
one g e = sum_by-cons g e [] ∙ omega arith

-- the indices of a part, in its order
sum_ordered : (p : Part) (b : Basin) (g : ℕ → ℕ) →
    sum_by g (in_order (space_of p) b) ≡ total (count_in (space_of p) b) g
sum_ordered part.Supplies b g = sum_indices g b.nodes
sum_ordered part.Enters b g = sum_indices g b.links
sum_ordered part.Keeps b g = sum_indices g b.links
sum_ordered part.Takes b g = sum_seniors b g

-- what the lines of a part are worth, by its terms
abbrev worth : (Part → ℕ → ℕ) → Basin → ℕ → List Bool → Part → ℕ
worth value b right set p = total_where (count_in (space_of p) b) (counts p b right set) (value p)

sum_part : (g : BookLine → ℕ) (value : Part → ℕ → ℕ) (p : Part) (b : Basin) (m : MonthRecord) (right : ℕ)
    (set : List Bool) → ((e : BookLine) → g e ≤ amount_of e) →
    ((k : ℕ) → sum_by g (terms_at p b m right k) ≡ value p k) →
    sum_by g (lines_in p b m right set) ≡ worth value b right set p
sum_part g value p b m right set most is =
    sum_flat g (lines_at p b m right set) (in_order (space_of p) b)
    ∙ sum_same _ (λ k. if counts p b right set k then value p k else 0) (in_order (space_of p) b)
    (λ k. at k (counts p b right set k))
    ∙ sum_ordered p b (λ k. if counts p b right set k then value p k else 0)
  where
    at : (k : ℕ) (t : Bool) →
        sum_by g (if t then filter has_amount (terms_at p b m right k) else []) ≡ (if t then value p k else 0)
    at k true = sum_filtered g (terms_at p b m right k) most ∙ is k
    at k false = refl

sum_terms : (g : BookLine → ℕ) (value : Part → ℕ → ℕ) (b : Basin) (m : MonthRecord) (right : ℕ) (set : List Bool) →
    ((e : BookLine) → g e ≤ amount_of e) → ((p : Part) (k : ℕ) → sum_by g (terms_at p b m right k) ≡ value p k) →
    sum_by g (terms b m right set)
    ≡ sum_by (worth value b right set) (part.Supplies ∷ part.Enters ∷ part.Keeps ∷ part.Takes ∷ [])
sum_terms g value b m right set most is =
    let parts : List Part = part.Supplies ∷ part.Enters ∷ part.Keeps ∷ part.Takes ∷ [] in
    sum_flat g (λ p. lines_in p b m right set) parts
    ∙ sum_same _ (worth value b right set) parts (λ p. sum_part g value p b m right set most (is p))

-- What is kept on a link is some right's delivery, or nothing: where nobody holds the amount, it is nothing.
nobody_holds : (b : Basin) (delivered : List ℕ) (right link : ℕ) →
    holder_of b delivered link (kept_on b delivered right link) ≡ None → kept_on b delivered right link ≡ 0
unfolding holder_of
nobody_holds b delivered right link none = elim (cases_lt 0 (kept_on b delivered right link)) [
  | inl some ↦
      (let at = greatest_is (length b.rights) (λ s. is_on_link b s link && is_senior b s right)
      (λ s. slice_index delivered s) some in
      absurd (clash
      (sym (passes at.0 at.2 at.3) ∙ find-none (holds_amount b delivered link (kept_on b delivered right link))
      (seniors_first b) at.0 none (seniors_have b.rights at.0 at.1))))
  | inr nothing ↦ omega arith
]
  where
    clash : true ≡ false → ⊥
    clash e = cc

    first : (p q : Bool) → p && q ≡ true → p ≡ true
    first true q h = refl
    first false q h = cc

    same : (x y : ℕ) → x ≡ y → x == y ≡ true
    same x y h = grind (arith, nat_tests)

    passes : (s : ℕ) → is_on_link b s link && is_senior b s right ≡ true →
        slice_index delivered s ≡ kept_on b delivered right link →
        holds_amount b delivered link (kept_on b delivered right link) s ≡ true
    passes s on is =
        rw (
          first (is_on_link b s link) (is_senior b s right) on,
          same (slice_index delivered s) (kept_on b delivered right link) is,
        ) refl

kept_terms : (b : Basin) (m : MonthRecord) (right link : ℕ) →
    sum_by kept (terms_at part.Keeps b m right link) ≡ kept_on b m.delivered right link
kept_terms b m right link = by_holder (holder_of b m.delivered link (kept_on b m.delivered right link)) refl
  where
    by_holder : (o : Option ℕ) → holder_of b m.delivered link (kept_on b m.delivered right link) ≡ o →
        sum_by kept (keep_terms link (kept_on b m.delivered right link) o) ≡ kept_on b m.delivered right link
    by_holder None e = sym (nobody_holds b m.delivered right link e)
    by_holder (Some holder) e = one kept (line.Keep link (kept_on b m.delivered right link) holder)

no_brought : (b : Basin) (m : MonthRecord) (right link : ℕ) → sum_by brought (terms_at part.Keeps b m right link) ≡ 0
no_brought b m right link = by_holder (holder_of b m.delivered link (kept_on b m.delivered right link))
  where
    by_holder : (o : Option ℕ) → sum_by brought (keep_terms link (kept_on b m.delivered right link) o) ≡ 0
    by_holder None = refl
    by_holder (Some holder) = one brought (line.Keep link (kept_on b m.delivered right link) holder)

pub brought_is_capacity : (b : Basin) (m : MonthRecord) (right : ℕ) (set : List Bool) →
    sum_by brought (terms b m right set) ≡ cut_capacity b (carry_of b m.month) m.supply set
brought_is_capacity b m right set =
    sum_terms brought value b m right set (λ e. (within_amount e).0) each
    ∙ omega (
      arith,
      none_where (length b.links) (counts part.Keeps b right set) (λ e. 0) (λ k l passes. refl),
      none_where (length b.rights) (counts part.Takes b right set) (λ s. 0) (λ k l passes. refl),
    )
  where
    value : Part → ℕ → ℕ
    value part.Supplies n = slice_index m.supply n
    value part.Enters e = carry_of b m.month e
    value part.Keeps e = 0
    value part.Takes s = 0

    each : (p : Part) (k : ℕ) → sum_by brought (terms_at p b m right k) ≡ value p k
    each part.Supplies n = one brought (line.Supply n (slice_index m.supply n))
    each part.Enters e = one brought (line.Enter e (carry_of b m.month e))
    each part.Keeps e = no_brought b m right e
    each part.Takes s = one brought (line.Take s (slice_index m.delivered s))

pub kept_is_kept : (b : Basin) (m : MonthRecord) (right : ℕ) (set : List Bool) →
    sum_by kept (terms b m right set) ≡ cut_kept b m.delivered right set
kept_is_kept b m right set =
    sum_terms kept value b m right set (λ e. (within_amount e).1) each
    ∙ omega (
      arith,
      none_where (length b.nodes) (counts part.Supplies b right set) (λ n. 0) (λ k l passes. refl),
      none_where (length b.links) (counts part.Enters b right set) (λ e. 0) (λ k l passes. refl),
    )
  where
    value : Part → ℕ → ℕ
    value part.Supplies n = 0
    value part.Enters e = 0
    value part.Keeps e = kept_on b m.delivered right e
    value part.Takes s = slice_index m.delivered s

    each : (p : Part) (k : ℕ) → sum_by kept (terms_at p b m right k) ≡ value p k
    each part.Supplies n = one kept (line.Supply n (slice_index m.supply n))
    each part.Enters e = one kept (line.Enter e (carry_of b m.month e))
    each part.Keeps e = kept_terms b m right e
    each part.Takes s = one kept (line.Take s (slice_index m.delivered s))

pub lines_make_bound : LinesMakeBound
lines_make_bound b m right set =
    ap (λ x. pos x -ℤ pos (sum_by kept (terms b m right set))) (brought_is_capacity b m right set)
    ∙ ap (λ x. pos (cut_capacity b (carry_of b m.month) m.supply set) -ℤ pos x) (kept_is_kept b m right set)

pub tight_books_sum_to_delivery : TightBooksSumToDelivery
tight_books_sum_to_delivery b m right set tight =
    omega (arith, brought_is_capacity b m right set, kept_is_kept b m right set, tight.tight)

-- the account of a tight cut: its terms, and the delivery
pub account_lines : (s : ShortageView) (sum : BookLine) → sum ≡ line.Sum (slice_index s.month.delivered s.right) →
    IsTight s.basin s.month.month s.month.supply s.month.delivered s.right (cut_at s.cuts s.right) →
    terms_of s ++ sum ∷ [] ≡ account s.basin s.month s.right (cut_at s.cuts s.right)
account_lines s sum last tight =
    let made : balance_of (terms_of s) ≡ slice_index s.month.delivered s.right =
    tight_books_sum_to_delivery s.basin s.month s.right (cut_at s.cuts s.right) tight in
    rw (last, made) refl
