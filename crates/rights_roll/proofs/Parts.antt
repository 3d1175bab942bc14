-- Sums of the parts of return rows.
use Rattle.std.proofs.Common.{◌≡◌, ◌≢◌, ℕ, ◌+◌, ◌-◌, ◌^◌, ◌<◌, ◌==◌, min, List, [], ◌∷◌, ◌++◌, length, take, replicate}
use Rattle.std.proofs.Common.{get_or, set, nat_lt, Option, option_map, if◌then◌else◌, sym, ap, ◌∙◌, inl, inr, arith}
use Rattle.std.specs.List.{find, position, position_from, range_with_len}
use Rattle.std.proofs.Common.{suc, Bool, cond, Some, refl, add-zero}
use Rattle.std.proofs.lemmas.Bool.{cases_eq}
use Rattle.std.proofs.lemmas.Bool.Decides.{nat_tests}
use Rattle.std.proofs.lemmas.List.{take_more, length-replicate, get_or-replicate, length-set, get_or-set_same}
use Rattle.std.proofs.lemmas.List.{get_or-set_other}
use Rattle.finite_sums.proofs.Totals.{total_first, total_start}
use Rattle.water_model.specs.Lookups.{of_entry}
use Rattle.water_model.specs.Rights.{parts_in}
use Rattle.water_model.specs.declared.types.ReturnRow.{ReturnRow}
use Rattle.water_model.specs.declared.types.Right.{Right}
use Rattle.rights_roll.specs.RollFaults.{has_many_parts, parts_fault}
use Rattle.rights_roll.specs.Tables.{AreParts}
use Rattle.rights_roll.specs.declared.RollRefused.TheVariants.{ReturnParts}
use Rattle.std.proofs.lemmas.Iterator.Adapters.{position_from-zero}

-- what a row adds to the parts of a right
abbrev pub part_for : ReturnRow → ℕ → ℕ
part_for row right = if row.right == right then row.part else 0

parts_in-none : (right : ℕ) → parts_in [] right ≡ 0
parts_in-none right = total_start _

parts_in-first : (row : ReturnRow) (rows : List ReturnRow) (right : ℕ) →
    parts_in (row ∷ rows) right ≡ part_for row right + parts_in rows right
parts_in-first row rows right = total_first (length rows) (λ k. of_entry (row ∷ rows) k (λ r. part_for r right) 0)

parts_in-append : (rows : List ReturnRow) (row : ReturnRow) (right : ℕ) →
    parts_in (rows ++ row ∷ []) right ≡ parts_in rows right + part_for row right
parts_in-append [] row right = omega (arith, parts_in-first row [] right, parts_in-none right)
parts_in-append (r ∷ rs) row right =
    omega (arith, parts_in-first r (rs ++ row ∷ []) right, parts_in-first r rs right, parts_in-append rs row right)

-- one more row
parts_in_more : (rows : List ReturnRow) (i : ℕ) (d : ReturnRow) (right : ℕ) → i < length rows →
    parts_in (take (i + 1) rows) right ≡ parts_in (take i rows) right + part_for (get_or rows i d) right
parts_in_more rows i d right below =
    ap (λ rs. parts_in rs right) (take_more rows i d below) ∙ parts_in-append (take i rows) (get_or rows i d) right

part_for_same : (row : ReturnRow) (right : ℕ) → right ≡ row.right → part_for row right ≡ row.part
part_for_same row right e = grind (arith, nat_tests)

part_for_other : (row : ReturnRow) (right : ℕ) → right ≢ row.right → part_for row right ≡ 0
part_for_other row right e = grind (arith, nat_tests)

pub parts-start : {rights : ℕ} {sums : List ℕ} → sums ≡ replicate rights 0 → AreParts [] rights sums
parts-start {rights} e = record {
  count = ap length e ∙ length-replicate rights 0;
  each = λ right below.
      ap (λ xs. get_or xs right 0) e ∙ (get_or-replicate rights right 0 0 below ∙ omega (arith, parts_in-none right));
}

pub parts-more : (rows : List ReturnRow) {rights : ℕ} {sums : List ℕ} (i : ℕ) (d : ReturnRow) {sum : ℕ} →
    i < length rows → (get_or rows i d).right < rights →
    sum ≡ min (get_or sums (get_or rows i d).right 0 + (get_or rows i d).part) (2 ^ 32 - 1) →
    AreParts (take i rows) rights sums → AreParts (take (i + 1) rows) rights (set sums (get_or rows i d).right sum)
parts-more rows {rights} {sums} i d {sum} below at is before = record {
  count = length-set sums (get_or rows i d).right sum ∙ before.count;
  each = λ right fits. elim (cases_eq right (get_or rows i d).right) [
    | inl same ↦ here right fits same
    | inr other ↦
        (let o : right ≢ (get_or rows i d).right = other in
        rw (get_or-set_other sums (get_or rows i d).right right sum 0 o) (there right fits o))
  ];
}
  where
    here : (right : ℕ) → right < rights → right ≡ (get_or rows i d).right →
        get_or (set sums (get_or rows i d).right sum) right 0 ≡ min (2 ^ 32 - 1) (parts_in (take (i + 1) rows) right)
    here right fits same =
        let in_sums : (get_or rows i d).right < length sums = omega (arith, before.count) in
        ap (λ k. get_or (set sums (get_or rows i d).right sum) k 0) same
        ∙ (get_or-set_same sums (get_or rows i d).right sum 0 in_sums ∙ omega (
          arith,
          is,
          before.each right fits,
          ap (λ k. get_or sums k 0) same,
          parts_in_more rows i d right below,
          part_for_same (get_or rows i d) right same,
        ))

    there : (right : ℕ) → right < rights → right ≢ (get_or rows i d).right →
        get_or sums right 0 ≡ min (2 ^ 32 - 1) (parts_in (take (i + 1) rows) right)
    there right fits other =
        omega (
          arith,
          before.each right fits,
          parts_in_more rows i d right below,
          part_for_other (get_or rows i d) right other,
        )

-- a test of indices from m on, as a test of the elements there
find-from : (p q : ℕ → Bool) (m : ℕ) (xs : List ℕ) → ((k : ℕ) → k < length xs → p (m + k) ≡ q (get_or xs k 0)) →
    find p (range_with_len m (length xs)) ≡ position_from q m xs
find-from p q m [] same = refl
find-from p q m (x ∷ xs) same =
    let here : p m ≡ q x = ap p (sym (add-zero m)) ∙ same 0 (omega arith) in
    rw here (ap (λ (o : Option ℕ). cond (q x) (Some m) o) (find-from p q (m + 1) xs later))
  where
    later : (k : ℕ) → k < length xs → p (m + 1 + k) ≡ q (get_or xs k 0)
    later k below = (let e : m + 1 + k ≡ m + suc k = omega arith in ap p e) ∙ same (suc k) (omega arith)

-- a test of indices, as a test of the elements there
find-indices : (p q : ℕ → Bool) (xs : List ℕ) (n : ℕ) → n ≡ length xs →
    ((k : ℕ) → k < length xs → p k ≡ q (get_or xs k 0)) → find p (range_with_len 0 n) ≡ position q xs
find-indices p q xs n e same =
    ap (λ c. find p (range_with_len 0 c)) e
    ∙ (find-from p q 0 xs (λ k below. zero_first k ∙ same k below) ∙ sym (position_from-zero q xs))
  where
    zero_first : (k : ℕ) → p (0 + k) ≡ p k
    zero_first k = let e : 0 + k ≡ k = omega arith in ap p e

-- the first sum above 10,000 is that of the first right at fault
pub parts_fault_is : (rights : List Right) (returns : List ReturnRow) {sums : List ℕ} {found : Option ℕ} →
    AreParts returns (length rights) sums →
    found ≡ position (nat_lt 10000) sums → parts_fault rights returns ≡ option_map ReturnParts found
parts_fault_is rights returns {sums} parts is =
    ap (λ (o : Option ℕ). option_map ReturnParts o)
    (find-indices (has_many_parts returns) (nat_lt 10000) sums (length rights) (sym parts.count) same ∙ sym is)
  where
    capped : (x y : ℕ) → x ≡ min 4294967295 y → nat_lt 10000 y ≡ nat_lt 10000 x
    capped x y e = grind (arith, nat_tests)

    same : (k : ℕ) → k < length sums → has_many_parts returns k ≡ nat_lt 10000 (get_or sums k 0)
    same k below = capped (get_or sums k 0) (parts_in returns k) (parts.each k (omega (arith, parts.count)))
