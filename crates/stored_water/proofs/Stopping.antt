-- Stops, and the greatest draw.
use Rattle.std.proofs.Common.{◌≡◌, ℕ, ◌*◌, ◌<◌, ◌≤◌, Bool, sym, ◌∙◌, ap, arith, List, length, inl, inr, subst}
use Rattle.std.specs.Prelude.{◌⊎◌, slice_index}
use Rattle.std.proofs.Math.Nat.{mul-le-mul_left}
use Rattle.finite_sums.proofs.Totals.{total_where_le}
use Rattle.std.proofs.lemmas.Grind.{same_number_lists}
use Rattle.water_model.specs.Cuts.{enters, leaves}
use Rattle.water_model.specs.Plans.{carry_of}
use Rattle.water_model.specs.declared.types.Basin.{Basin}
use Rattle.water_model.proofs.Sets.{has_below}
use Rattle.duality.proofs.Greatest.{same_set}
use Rattle.duality.specs.Parts.{times}
use Rattle.water_model.specs.Courses.{IsCourseWithin, HasCourse, IsStopWithin, IsGreatestWithin, after_draw}
use Rattle.stored_water.specs.DrawLaws.{StopsLetNoMoreBeDrawn, StopsMakeDrawsGreatest, NoFractionMoreIsDrawn}
use Rattle.stored_water.specs.DrawLaws.{WholeDrawsAreGreatest, GreatestDrawIsOne, DrawAtReservoirIsCap}
use Rattle.stored_water.specs.DrawLaws.{GreatestStopIsOne}
use Rattle.stored_water.proofs.CourseBalance.{course_balance, taken_after, length_after, after_draw_at}
use Rattle.stored_water.proofs.Times.{course_times, stop_times, after_draw_times}

-- a stop bounds what any course draws
pub stop_bounds : (b : Basin) (carry held : ℕ → ℕ) (supply taken : List ℕ) (from to amount : ℕ) (set : List Bool)
    (other : ℕ) → IsStopWithin b carry held supply (after_draw taken from to amount) from to set →
    HasCourse b carry held supply (after_draw taken from to other) → other ≤ amount
stop_bounds b carry held supply taken from to amount set other stop has_course =
    let course = has_course.is_course in
    let len : length taken ≡ length b.nodes = sym (length_after taken from to other) ∙ course.taken_len in
    let inside : to < length b.nodes = omega (arith, has_below set to stop.drawing, stop.one_each) in
    omega (
      arith,
      course_balance b carry held supply (after_draw taken from to other) has_course.flow has_course.out set course
          stop.one_each,
      stop.full,
      taken_after b taken from to amount set len inside stop.drawing stop.storing,
      taken_after b taken from to other set len inside stop.drawing stop.storing,
      total_where_le (length b.links) (λ e. enters b set e) (λ e. enters b set e)
          (λ e. slice_index has_course.flow e) carry (λ e l h. (h, course.carries e l)),
      total_where_le (length b.links) (λ e. leaves b set e) (λ e. leaves b set e) held
          (λ e. slice_index has_course.flow e) (λ e l h. (h, course.holds e l)),
    )

-- so a draw that is its cap or has a stop is the greatest
pub greatest_from : (b : Basin) (carry held : ℕ → ℕ) (supply taken : List ℕ) (from to cap amount : ℕ) →
    amount ≤ cap → HasCourse b carry held supply (after_draw taken from to amount) →
    (amount ≡ cap)
    ⊎ ((set : List Bool) × IsStopWithin b carry held supply (after_draw taken from to amount) from to set) →
    IsGreatestWithin b carry held supply taken from to cap amount
greatest_from b carry held supply taken from to cap amount within course shown = record {
  within = within;
  course = course;
  greatest = λ other capped has_course. bounds other capped has_course shown;
}
  where
    bounds : (other : ℕ) → other ≤ cap → HasCourse b carry held supply (after_draw taken from to other) →
        (amount ≡ cap)
        ⊎ ((set : List Bool) × IsStopWithin b carry held supply (after_draw taken from to amount) from to set) →
        other ≤ amount
    bounds other capped has_course (inl is_cap) = omega arith
    bounds other capped has_course (inr stop) =
        stop_bounds b carry held supply taken from to amount stop.0 other stop.1 has_course

pub stops_let_no_more_be_drawn : StopsLetNoMoreBeDrawn
stops_let_no_more_be_drawn b month held supply taken from to amount set other stop has_course =
    stop_bounds b (carry_of b month) held supply taken from to amount set other stop has_course

pub stops_make_draws_greatest : StopsMakeDrawsGreatest
stops_make_draws_greatest b month held supply taken flow out from to cap amount within course shown =
    greatest_from b (carry_of b month) held supply taken from to cap amount within
    (record { flow = flow; out = out; is_course = course }) shown

-- in k-th parts of a unit a stop is one of k times the draw
stop_in_parts : (b : Basin) (carry held : ℕ → ℕ) (supply taken : List ℕ) (from to amount : ℕ) (set : List Bool)
    (k : ℕ) → IsStopWithin b carry held supply (after_draw taken from to amount) from to set →
    IsStopWithin b (λ e. k * carry e) (λ e. k * held e) (times k supply)
    (after_draw (times k taken) from to (k * amount)) from to set
stop_in_parts b carry held supply taken from to amount set k stop =
    subst
    (λ (xs : List ℕ). IsStopWithin b (λ e. k * carry e) (λ e. k * held e) (times k supply) xs from to set)
    (after_draw_times k taken from to amount)
    (stop_times b k carry held supply (after_draw taken from to amount) from to set stop)

pub no_fraction_more_is_drawn : NoFractionMoreIsDrawn
no_fraction_more_is_drawn b month held supply taken from to amount set k other stop has_course =
    stop_bounds b (λ e. k * carry_of b month e) (λ e. k * held e) (times k supply) (times k taken) from to
    (k * amount) set other
    (stop_in_parts b (carry_of b month) held supply taken from to amount set k stop) has_course

pub whole_draws_are_greatest : WholeDrawsAreGreatest
whole_draws_are_greatest b month held supply taken flow out from to cap amount within course shown k =
    greatest_from b (λ e. k * carry_of b month e) (λ e. k * held e) (times k supply) (times k taken) from to
    (k * cap) (k * amount) (mul-le-mul_left k within)
    (record {
      flow = times k flow;
      out = times k out;
      is_course = subst
          (λ (xs : List ℕ). IsCourseWithin b (λ e. k * carry_of b month e) (λ e. k * held e) (times k supply) xs
          (times k flow) (times k out))
          (after_draw_times k taken from to amount)
          (course_times b k (carry_of b month) held supply (after_draw taken from to amount) flow out course);
    })
    (in_parts shown)
  where
    in_parts : (amount ≡ cap)
        ⊎ ((set : List Bool)
        × IsStopWithin b (carry_of b month) held supply (after_draw taken from to amount) from to set) →
        (k * amount ≡ k * cap)
        ⊎ ((set : List Bool)
        × IsStopWithin b (λ e. k * carry_of b month e) (λ e. k * held e) (times k supply)
        (after_draw (times k taken) from to (k * amount)) from to set)
    in_parts (inl is_cap) = inl (ap (λ x. k * x) is_cap)
    in_parts (inr stop) =
        inr (stop.0, stop_in_parts b (carry_of b month) held supply taken from to amount stop.0 k stop.1)

pub greatest_draw_is_one : GreatestDrawIsOne
greatest_draw_is_one b month held supply taken from to cap amount other one two =
    let least : amount ≤ other = two.greatest amount one.within one.course in
    let most : other ≤ amount = one.greatest other two.within two.course in
    omega arith

-- a draw at the reservoir's own node changes nothing
after_own : (taken : List ℕ) (node x : ℕ) → node < length taken → x ≤ slice_index taken node →
    after_draw taken node node x ≡ taken
after_own taken node x l enough =
    same_number_lists (after_draw taken node node x) taken (length_after taken node node x)
    (λ n k. let at = after_draw_at taken node node x n l l enough in omega arith)

pub draw_at_reservoir_is_cap : DrawAtReservoirIsCap
draw_at_reservoir_is_cap b month held supply taken node cap l enough has_course = record {
  within = omega arith;
  course = subst (λ (xs : List ℕ). HasCourse b (carry_of b month) held supply xs)
      (sym (after_own taken node cap (omega (arith, has_course.is_course.taken_len)) enough)) has_course;
  greatest = λ other capped course. capped;
}

pub greatest_stop_is_one : GreatestStopIsOne
greatest_stop_is_one b month held supply taken from to set other one two =
    same_set set other (one.is_stop.one_each ∙ sym two.is_stop.one_each)
    (two.contains set one.is_stop) (one.contains other two.is_stop)
