-- What comes into a set of nodes is taken there or goes out of it; and what a draw changes.
use Rattle.std.proofs.Common.{◌≡◌, ℕ, ◌+◌, ◌-◌, ◌<◌, ◌≤◌, Bool, true, false, refl, sym, ◌∙◌, ap, arith, List, length}
use Rattle.std.proofs.Common.{inl, inr}
use Rattle.std.proofs.Math.ListN.{length-set}
use Rattle.std.proofs.lemmas.Bool.{cases_eq, cond-true, eq-eqb, ne_eqb}
use Rattle.std.proofs.lemmas.List.{get_or-set_other}
use Rattle.std.proofs.lemmas.Grind.{get_or-set_at}
use Rattle.std.specs.Prelude.{◌==◌, ◌≢◌, slice_index, if◌then◌else◌}
use Rattle.finite_sums.specs.Sums.{total_where}
use Rattle.finite_sums.proofs.Totals.{total_change}
use Rattle.water_model.specs.Lookups.{has}
use Rattle.water_model.specs.Cuts.{leaves, carry_into, supply_within}
use Rattle.water_model.specs.declared.types.Basin.{Basin}
use Rattle.water_model.proofs.Sets.{total_where_add}
use Rattle.water_model.specs.Courses.{IsCourseWithin, taken_within, after_draw, with_less}
use Rattle.duality.proofs.CutBalance.{set_balance}

pub course_balance : (b : Basin) (carry held : ℕ → ℕ) (supply taken flow out : List ℕ) (set : List Bool) →
    IsCourseWithin b carry held supply taken flow out → length set ≡ length b.nodes →
    supply_within b supply set + carry_into b (slice_index flow) set
    ≡ total_where (length b.links) (λ e. leaves b set e) (λ e. slice_index flow e)
    + taken_within b taken set + supply_within b out set
course_balance b carry held supply taken flow out set course len =
    omega (
      arith,
      set_balance b flow (slice_index supply) (λ n. slice_index taken n + slice_index out n) set len
          (λ n l. omega (arith, course.balance n l)),
      total_where_add (length b.nodes) (λ n. has set n) (slice_index taken) (slice_index out),
    )

-- ---- what a draw changes

pub length_after : (taken : List ℕ) (from to x : ℕ) → length (after_draw taken from to x) ≡ length taken
length_after taken from to x =
    length-set (with_less taken from x) to (slice_index (with_less taken from x) to + x)
    ∙ length-set taken from (slice_index taken from - x)

pub after_elsewhere : (taken : List ℕ) (from to x n : ℕ) → n ≢ from → n ≢ to →
    slice_index (after_draw taken from to x) n ≡ slice_index taken n
after_elsewhere taken from to x n not_from not_to =
    get_or-set_other (with_less taken from x) to n (slice_index (with_less taken from x) to + x) 0 not_to
    ∙ get_or-set_other taken from n (slice_index taken from - x) 0 not_from

pub after_at_to : (taken : List ℕ) (from to x : ℕ) → to < length taken →
    slice_index (after_draw taken from to x) to ≡ slice_index (with_less taken from x) to + x
after_at_to taken from to x l =
    get_or-set_at (with_less taken from x) to to (slice_index (with_less taken from x) to + x) 0 refl
    (omega (arith, length-set taken from (slice_index taken from - x)))

pub less_elsewhere : (taken : List ℕ) (from x n : ℕ) → n ≢ from →
    slice_index (with_less taken from x) n ≡ slice_index taken n
less_elsewhere taken from x n other = get_or-set_other taken from n (slice_index taken from - x) 0 other

pub less_at : (taken : List ℕ) (from x : ℕ) → from < length taken →
    slice_index (with_less taken from x) from ≡ slice_index taken from - x
less_at taken from x l = get_or-set_at taken from from (slice_index taken from - x) 0 refl l

-- where that much is kept at the one node, a draw takes it there and adds it at the other
pub after_draw_at : (taken : List ℕ) (from to x n : ℕ) → from < length taken → to < length taken →
    x ≤ slice_index taken from →
    slice_index (after_draw taken from to x) n + (if from == n then x else 0)
    ≡ slice_index taken n + (if to == n then x else 0)
after_draw_at taken from to x n l m enough =
    elim (cases_eq n to) [
      | inl at_to ↦ of_to at_to
      | inr not_to ↦ elim (cases_eq n from) [
        | inl at_from ↦ of_from at_from not_to
        | inr not_from ↦
            omega (
              arith,
              after_elsewhere taken from to x n not_from not_to,
              unequal from n (λ e. not_from (sym e)) x,
              unequal to n (λ e. not_to (sym e)) x,
            )
      ]
    ]
  where
    equal : (i k : ℕ) → i ≡ k → (y : ℕ) → (if i == k then y else 0) ≡ y
    equal i k e y = ap (λ t. if t then y else 0) (eq-eqb i k e)

    unequal : (i k : ℕ) → i ≢ k → (y : ℕ) → (if i == k then y else 0) ≡ 0
    unequal i k other y = ap (λ t. if t then y else 0) (ne_eqb i k other)

    of_from : n ≡ from → n ≢ to →
        slice_index (after_draw taken from to x) n + (if from == n then x else 0)
        ≡ slice_index taken n + (if to == n then x else 0)
    of_from e other =
        let same : slice_index taken n ≡ slice_index taken from = ap (slice_index taken) e in
        let there : slice_index (after_draw taken from to x) n ≡ slice_index (with_less taken from x) n =
        get_or-set_other (with_less taken from x) to n (slice_index (with_less taken from x) to + x) 0 other in
        let less : slice_index (with_less taken from x) n ≡ slice_index (with_less taken from x) from =
        ap (slice_index (with_less taken from x)) e in
        omega (
          arith,
          less_at taken from x l,
          equal from n (sym e) x,
          unequal to n (λ f. other (sym f)) x,
        )

    of_to : n ≡ to →
        slice_index (after_draw taken from to x) n + (if from == n then x else 0)
        ≡ slice_index taken n + (if to == n then x else 0)
    of_to e =
        let here : slice_index (after_draw taken from to x) n ≡ slice_index (after_draw taken from to x) to =
        ap (slice_index (after_draw taken from to x)) e in
        let same : slice_index taken n ≡ slice_index taken to = ap (slice_index taken) e in
        elim (cases_eq to from) [
          | inl one ↦
              (let less : slice_index (with_less taken from x) to ≡ slice_index (with_less taken from x) from =
              ap (slice_index (with_less taken from x)) one in
              let kept : slice_index taken to ≡ slice_index taken from = ap (slice_index taken) one in
              omega (
                arith,
                after_at_to taken from to x m,
                less_at taken from x l,
                equal from n (sym one ∙ sym e) x,
                equal to n (sym e) x,
              ))
          | inr apart ↦
              omega (
                arith,
                after_at_to taken from to x m,
                less_elsewhere taken from x to apart,
                unequal from n (λ f. apart (sym (f ∙ e))) x,
                equal to n (sym e) x,
              )
        ]

-- in a set with the one node and without the other, a draw takes its amount more
pub taken_after : (b : Basin) (taken : List ℕ) (from to x : ℕ) (set : List Bool) → length taken ≡ length b.nodes →
    to < length b.nodes → has set to ≡ true → has set from ≡ false →
    taken_within b (after_draw taken from to x) set ≡ taken_within b taken set + x
taken_after b taken from to x set len l drawing storing =
    omega (
      arith,
      total_change (length b.nodes) to after before l agree,
      cond-true (has set to) (slice_index (after_draw taken from to x) to) 0 drawing,
      cond-true (has set to) (slice_index taken to) 0 drawing,
      after_at_to taken from to x (omega arith),
      less_elsewhere taken from x to apart,
    )
  where
    apart : to ≢ from
    apart e = (let same : has set to ≡ has set from = ap (has set) e in cc)

    after : ℕ → ℕ
    after n = if has set n then slice_index (after_draw taken from to x) n else 0

    before : ℕ → ℕ
    before n = if has set n then slice_index taken n else 0

    agree : (n : ℕ) → n < length b.nodes → n ≢ to → after n ≡ before n
    agree n k not_to = elim (cases_eq n from) [
      | inl at_from ↦ out (has set n) (ap (has set) at_from ∙ storing)
      | inr not_from ↦ ap (λ y. if has set n then y else 0) (after_elsewhere taken from to x n not_from not_to)
    ]
      where
        out : (t : Bool) → t ≡ false →
            (if t then slice_index (after_draw taken from to x) n else 0) ≡ (if t then slice_index taken n else 0)
        out true e = cc
        out false e = refl
