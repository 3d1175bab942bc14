-- Stops of one draw, and all their nodes.
use Rattle.std.proofs.Common.{◌≡◌, ℕ, ◌<◌, ◌≤◌, Bool, true, false, refl, sym, ◌∙◌, ap, arith, List, length, inl, inr}
use Rattle.std.proofs.lemmas.Bool.{or_cases}
use Rattle.std.specs.Prelude.{◌⊎◌, ◌&&◌, ◌||◌, not, slice_index}
use Rattle.finite_sums.specs.Sums.{total_where}
use Rattle.finite_sums.proofs.Terms.{none_where, same_where, terms_equal_where}
use Rattle.finite_sums.proofs.Totals.{total_where_le, total_where_none}
use Rattle.stored_water.proofs.CourseBalance.{course_balance}
use Rattle.stored_water.specs.DrawLaws.{StopsUnite}
use Rattle.water_model.specs.Basin.{head_of, tail_of}
use Rattle.water_model.specs.Courses.{IsCourseWithin, IsStopWithin}
use Rattle.water_model.specs.Cuts.{enters, leaves}
use Rattle.water_model.specs.Lookups.{has}
use Rattle.water_model.specs.Plans.{carry_of}
use Rattle.water_model.specs.declared.types.Basin.{Basin}

-- what is so around a stop in a course: links into it are full, links out of it carry what is held, and no outlet in it
-- lets water out
pub record IsTightAround (b : Basin) (carry held : ℕ → ℕ) (flow out : List ℕ) (set : List Bool) : Type 0 where
  pub entering : (e : ℕ) → e < length b.links → enters b set e ≡ true → slice_index flow e ≡ carry e
  pub leaving : (e : ℕ) → e < length b.links → leaves b set e ≡ true → held e ≡ slice_index flow e
  pub inside : (n : ℕ) → n < length b.nodes → has set n ≡ true → slice_index out n ≡ 0

module _ (b : Basin) (carry held : ℕ → ℕ) (supply taken flow out : List ℕ)
    (course : IsCourseWithin b carry held supply taken flow out)
  where
    pub stop_is_tight : (from to : ℕ) (set : List Bool) → IsStopWithin b carry held supply taken from to set →
        IsTightAround b carry held flow out set
    stop_is_tight from to set stop = record {
      entering = terms_equal_where (length b.links) (λ e. enters b set e) (slice_index flow) carry
          (λ e l h. course.carries e l) tight.0;
      leaving = terms_equal_where (length b.links) (λ e. leaves b set e) held (slice_index flow)
          (λ e l h. course.holds e l) tight.1;
      inside = total_where_none (length b.nodes) (λ n. has set n) (slice_index out) tight.2;
    }
      where
        fits : total_where (length b.links) (λ e. enters b set e) (slice_index flow)
            ≤ total_where (length b.links) (λ e. enters b set e) carry
        fits =
            total_where_le (length b.links) (λ e. enters b set e) (λ e. enters b set e) (slice_index flow) carry
            (λ e l h. (h, course.carries e l))

        holds : total_where (length b.links) (λ e. leaves b set e) held
            ≤ total_where (length b.links) (λ e. leaves b set e) (slice_index flow)
        holds =
            total_where_le (length b.links) (λ e. leaves b set e) (λ e. leaves b set e) held (slice_index flow)
            (λ e l h. (h, course.holds e l))

        tight : (total_where (length b.links) (λ e. enters b set e) carry
            ≤ total_where (length b.links) (λ e. enters b set e) (slice_index flow))
            × (total_where (length b.links) (λ e. leaves b set e) (slice_index flow)
            ≤ total_where (length b.links) (λ e. leaves b set e) held)
            × (total_where (length b.nodes) (λ n. has set n) (slice_index out) ≡ 0)
        tight =
            let balance = course_balance b carry held supply taken flow out set course stop.one_each in
            let full = stop.full in
            let f = fits in
            let h = holds in
            (omega arith, omega arith, omega arith)

    pub tight_is_stop : (from to : ℕ) (set : List Bool) → length set ≡ length b.nodes → has set to ≡ true →
        has set from ≡ false → IsTightAround b carry held flow out set →
        IsStopWithin b carry held supply taken from to set
    tight_is_stop from to set len drawing storing tight = record {
      one_each = len;
      drawing = drawing;
      storing = storing;
      full = omega (
        arith,
        course_balance b carry held supply taken flow out set course len,
        same_where (length b.links) (λ e. enters b set e) (slice_index flow) carry tight.entering,
        same_where (length b.links) (λ e. leaves b set e) held (slice_index flow) tight.leaving,
        none_where (length b.nodes) (λ n. has set n) (slice_index out) tight.inside,
      );
    }

-- a link that crosses the edge of both sets crosses that of one of them
pub crosses_one : (h i t u : Bool) → ((h || i) && not (t || u)) ≡ true → ((h && not t) ≡ true) ⊎ ((i && not u) ≡ true)
crosses_one true i false false e = inl refl
crosses_one true i true u e = cc
crosses_one true i false true e = cc
crosses_one false true false false e = inr refl
crosses_one false true true u e = cc
crosses_one false true false true e = cc
crosses_one false false t u e = cc

pub stops_unite : StopsUnite
stops_unite b month held supply taken flow out from to set other both course one two len union =
    tight_is_stop b (carry_of b month) held supply taken flow out course from to both len
    (union to ∙ ap (λ t. t || has other to) one.drawing)
    (union from ∙ (ap (λ t. t || has other from) one.storing ∙ two.storing))
    (record { entering = entering; leaving = leaving; inside = inside })
  where
    first : IsTightAround b (carry_of b month) held flow out set
    first = stop_is_tight b (carry_of b month) held supply taken flow out course from to set one

    second : IsTightAround b (carry_of b month) held flow out other
    second = stop_is_tight b (carry_of b month) held supply taken flow out course from to other two

    edge : (m n : ℕ) → (has both m && not (has both n)) ≡ true →
        ((has set m && not (has set n)) ≡ true) ⊎ ((has other m && not (has other n)) ≡ true)
    edge m n h =
        crosses_one (has set m) (has other m) (has set n) (has other n)
        (sym (ap (λ t. t && not (has both n)) (union m) ∙ ap (λ t. (has set m || has other m) && not t) (union n)) ∙ h)

    entering : (e : ℕ) → e < length b.links → enters b both e ≡ true → slice_index flow e ≡ carry_of b month e
    entering e l h = elim (edge (head_of b e) (tail_of b e) h) [
      | inl x ↦ first.entering e l x
      | inr y ↦ second.entering e l y
    ]

    leaving : (e : ℕ) → e < length b.links → leaves b both e ≡ true → held e ≡ slice_index flow e
    leaving e l h = elim (edge (tail_of b e) (head_of b e) h) [
      | inl x ↦ first.leaving e l x
      | inr y ↦ second.leaving e l y
    ]

    inside : (n : ℕ) → n < length b.nodes → has both n ≡ true → slice_index out n ≡ 0
    inside n l h = elim (or_cases (has set n) (has other n) (sym (union n) ∙ h)) [
      | inl x ↦ first.inside n l x
      | inr y ↦ second.inside n l y
    ]
