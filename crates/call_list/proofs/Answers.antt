-- For each node and each link there is one answer, and for whom a right is curtailed follows from it.
use Rattle.std.proofs.Common.{◌≡◌, ℕ, ◌<◌, true, refl, sym, ◌∙◌, ap, arith, List, length, inl, inr, Option, Some, None}
use Rattle.std.proofs.Common.{Bool, false, subst}
use Rattle.std.specs.Prelude.{slice_index_or, IfSome, if◌then◌else◌, nat_lt, slice_index}
use Rattle.std.proofs.lemmas.Bool.{cases_eq, cases_lt, lt-ltb, ltb-true}
use Rattle.std.proofs.lemmas.List.{get_or_past}
use Rattle.water_model.specs.Basin.{is_senior, taking_node}
use Rattle.water_model.specs.Rights.{AreStrict}
use Rattle.water_model.specs.Valid.{IsValidBasin}
use Rattle.water_model.specs.declared.types.Basin.{Basin}
use Rattle.water_model.specs.declared.types.MonthRecord.{MonthRecord}
use Rattle.water_model.proofs.Seniority.{senior_total}
use Rattle.plan_residual.proofs.Closed.{taking_below}
use Rattle.next_unit.specs.Core.{one_more}
use Rattle.next_unit.specs.Helped.{IsHelped}
use Rattle.next_unit.specs.Laws.{CarryHelpsRight}
use Rattle.call_list.specs.Found.{Found, IsFoundIn, FitsFound, curtailed_for, if_senior, next_at}
use Rattle.next_unit.specs.Next.{HelpsRight, IsCurtailedFor, IsNextOrFree}
use Rattle.call_list.specs.Laws.{CurtailedExactly}

-- an index with a right is one of the list
pub answered_below : (xs : List (Option ℕ)) (k r : ℕ) → slice_index_or xs k None ≡ Some r → k < length xs
answered_below xs k r h = elim (cases_lt k (length xs)) [
  | inl below ↦ below
  | inr past ↦ (let none : None ≡ Some r = sym (get_or_past xs k None past) ∙ h in cc)
]

-- there is one most senior right of those of which something holds
one_first : (b : Basin) (P : ℕ → Type 0) (r s : ℕ) → AreStrict b.rights → r < length b.rights → s < length b.rights →
    P r → P s → ((t : ℕ) → t < length b.rights → is_senior b t r ≡ true → P t → ⊥) →
    ((t : ℕ) → t < length b.rights → is_senior b t s ≡ true → P t → ⊥) → r ≡ s
one_first b P r s strict l k here there first other = elim (cases_eq r s) [
  | inl same ↦ same
  | inr differ ↦ elim (senior_total b.rights strict r s l k differ) [
    | inl above ↦ absurd (other r l above here)
    | inr below ↦ absurd (first s k below there)
  ]
]

pub same_next : (b : Basin) (m : MonthRecord) (node : ℕ) → IsValidBasin b → (one other : Option ℕ) →
    IsNextOrFree b m node one → IsNextOrFree b m node other → one ≡ other
same_next b m node valid None None h i = refl
same_next b m node valid None (Some s) h i = absurd (h s i.in_range i.helps)
same_next b m node valid (Some r) None h i = absurd (i r h.in_range h.helps)
same_next b m node valid (Some r) (Some s) h i =
    ap (λ k. Some k)
    (one_first b (λ t. HelpsRight b m (one_more m.supply node) t) r s valid.roll.strict h.in_range i.in_range h.helps
    i.helps h.first i.first)

pub same_helped : (b : Basin) (m : MonthRecord) (link : ℕ) → IsValidBasin b → (one other : Option ℕ) →
    IsHelped b m link one → IsHelped b m link other → one ≡ other
same_helped b m link valid None None h i = refl
same_helped b m link valid None (Some s) h i = absurd (h s i.in_range i.helps)
same_helped b m link valid (Some r) None h i = absurd (i r h.in_range h.helps)
same_helped b m link valid (Some r) (Some s) h i =
    ap (λ k. Some k)
    (one_first b (λ t. CarryHelpsRight b m link t) r s valid.roll.strict h.in_range i.in_range h.helps i.helps h.first
    i.first)

-- what is found in a month fits the basin
pub fits_found : (b : Basin) (m : MonthRecord) (found : Found) → IsFoundIn b m found → FitsFound b found
fits_found b m found is = record {
  nodes = is.next.one_each;
  links = is.helped.count;
  next = λ n. elim (cases_lt n (length found.next)) [
    | inl below ↦ of_next n (slice_index_or found.next n None) (is.next.each n (omega (arith, is.next.one_each)))
    | inr past ↦ rw (get_or_past found.next n None past) tt
  ];
  helped = λ e. elim (cases_lt e (length found.helped)) [
    | inl below ↦ of_link e (slice_index_or found.helped e None) (is.helped.each e (omega (arith, is.helped.count)))
    | inr past ↦ rw (get_or_past found.helped e None past) tt
  ];
}
  where
    of_next : (n : ℕ) (o : Option ℕ) → IsNextOrFree b m n o → IfSome o (λ right. right < length b.rights)
    of_next n None h = tt
    of_next n (Some r) h = h.in_range

    of_link : (e : ℕ) (o : Option ℕ) → IsHelped b m e o → IfSome o (λ right. right < length b.rights)
    of_link e None h = tt
    of_link e (Some r) h = h.in_range

pub curtailed_by : (b : Basin) (m : MonthRecord) (next : List (Option ℕ)) (right node caller : ℕ) →
    0 < slice_index m.want right → taking_node b right ≡ Some node → slice_index_or next node None ≡ Some caller →
    is_senior b caller right ≡ true → curtailed_for b m next right ≡ Some caller
unfolding curtailed_for
curtailed_by b m next right node caller wants at here senior =
    ap (λ t. if t then if_senior b right (next_at next (taking_node b right)) else None)
    (lt-ltb 0 (slice_index m.want right) wants)
    ∙ (ap (λ o. if_senior b right (next_at next o)) at
    ∙ (ap (if_senior b right) here ∙ ap (λ t. if t then Some caller else None) senior))

-- where a right is curtailed for another, it wants water, and the next unit at its node goes to that senior
record HasCaller (b : Basin) (m : MonthRecord) (next : List (Option ℕ)) (right caller : ℕ) : Type 0 where
  wants : 0 < slice_index m.want right
  node : ℕ
  at : taking_node b right ≡ Some node
  here : slice_index_or next node None ≡ Some caller
  senior : is_senior b caller right ≡ true

has_caller : (b : Basin) (m : MonthRecord) (next : List (Option ℕ)) (right caller : ℕ) →
    curtailed_for b m next right ≡ Some caller → HasCaller b m next right caller
unfolding curtailed_for
has_caller b m next right caller h =
    let some = wanting (nat_lt 0 (slice_index m.want right)) _ h in
    let first = senior_only _ some.1 in
    let here = at_node _ first.0 in
    record {
      wants = ltb-true 0 (slice_index m.want right) some.0;
      node = here.0;
      at = here.1;
      here = here.2;
      senior = first.1;
    }
  where
    wanting : (t : Bool) (o : Option ℕ) → (if t then o else None) ≡ Some caller → (t ≡ true) × (o ≡ Some caller)
    wanting true o e = (refl, e)
    wanting false o e = let none : None ≡ Some caller = e in cc

    senior_only : (o : Option ℕ) → if_senior b right o ≡ Some caller →
        (o ≡ Some caller) × (is_senior b caller right ≡ true)
    senior_only None e = let none : None ≡ Some caller = e in cc
    senior_only (Some r) e = by_test (is_senior b r right) refl e
      where
        by_test : (t : Bool) → is_senior b r right ≡ t → (if t then Some r else None) ≡ Some caller →
            (Some r ≡ Some caller) × (is_senior b caller right ≡ true)
        by_test true senior e = let is : Some r ≡ Some caller = e in (is, cc)
        by_test false senior e = let none : None ≡ Some caller = e in cc

    at_node : (o : Option ℕ) → next_at next o ≡ Some caller → (node : ℕ) × (o ≡ Some node) ×
        (slice_index_or next node None ≡ Some caller)
    at_node None e = let none : None ≡ Some caller = e in cc
    at_node (Some node) e = (node, refl, e)

pub curtailed_exactly : CurtailedExactly
curtailed_exactly b m found right caller given is l = (to, from)
  where
    to : curtailed_for b m found.next right ≡ Some caller → IsCurtailedFor b m right caller
    to h = let c = has_caller b m found.next right caller h in record {
      in_range = l;
      wants = c.wants;
      node = c.node;
      at = c.at;
      senior = c.senior;
      next = subst (λ (o : Option ℕ). IsNextOrFree b m c.node o) c.here
          (is.next.each c.node
          (omega (arith, answered_below found.next c.node caller c.here, is.next.one_each)));
    }

    from : IsCurtailedFor b m right caller → curtailed_for b m found.next right ≡ Some caller
    from c =
        curtailed_by b m found.next right c.node caller c.wants c.at
        (same_next b m c.node given.valid (slice_index_or found.next c.node None) (Some caller)
        (is.next.each c.node (taking_below b given.valid right c.node l c.at)) c.next) c.senior
