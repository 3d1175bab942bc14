-- Courses, stops and draws counted in parts of a unit.
use Rattle.std.proofs.Common.{◌≡◌, ℕ, zero, suc, ◌+◌, ◌-◌, ◌*◌, Bool, refl, sym, ◌∙◌, ap, arith, List, [], ◌∷◌, length}
use Rattle.std.proofs.Common.{map}
use Rattle.std.proofs.Math.Nat.{mul-add, mul-sub, mul-le-mul_left}
use Rattle.std.proofs.lemmas.List.{length-map}
use Rattle.std.specs.Prelude.{slice_index, slice_set}
use Rattle.water_model.specs.Lookups.{has}
use Rattle.water_model.specs.Cuts.{leaves}
use Rattle.water_model.specs.declared.types.Basin.{Basin}
use Rattle.duality.specs.Parts.{times}
use Rattle.duality.proofs.Parts.{times_at, total_where_times, sum_times, balance_times, none_times, capacity_times}
use Rattle.water_model.specs.Courses.{IsCourseWithin, IsStopWithin, after_draw, with_less, with_more}

-- ---- draws

map_set : (f : ℕ → ℕ) (xs : List ℕ) (i v : ℕ) → map f (slice_set xs i v) ≡ slice_set (map f xs) i (f v)
map_set f [] i v = refl
map_set f (x ∷ xs) zero v = refl
map_set f (x ∷ xs) (suc i) v = ap (λ ys. f x ∷ ys) (map_set f xs i v)

less_times : (k : ℕ) (taken : List ℕ) (n x : ℕ) → times k (with_less taken n x) ≡ with_less (times k taken) n (k * x)
less_times k taken n x =
    map_set (λ y. k * y) taken n (slice_index taken n - x)
    ∙ ap (λ v. slice_set (times k taken) n v)
    (mul-sub k (slice_index taken n) x ∙ ap (λ y. y - k * x) (sym (times_at k taken n)))

more_times : (k : ℕ) (taken : List ℕ) (n x : ℕ) → times k (with_more taken n x) ≡ with_more (times k taken) n (k * x)
more_times k taken n x =
    map_set (λ y. k * y) taken n (slice_index taken n + x)
    ∙ ap (λ v. slice_set (times k taken) n v)
    (mul-add k (slice_index taken n) x ∙ ap (λ y. y + k * x) (sym (times_at k taken n)))

pub after_draw_times : (k : ℕ) (taken : List ℕ) (from to x : ℕ) →
    times k (after_draw taken from to x) ≡ after_draw (times k taken) from to (k * x)
after_draw_times k taken from to x =
    more_times k (with_less taken from x) to x ∙ ap (λ xs. with_more xs to (k * x)) (less_times k taken from x)

-- ---- courses and stops

pub course_times : (b : Basin) (k : ℕ) (carry held : ℕ → ℕ) (supply taken flow out : List ℕ) →
    IsCourseWithin b carry held supply taken flow out →
    IsCourseWithin b (λ e. k * carry e) (λ e. k * held e) (times k supply) (times k taken) (times k flow)
    (times k out)
course_times b k carry held supply taken flow out course = record {
  taken_len = length-map taken (λ x. k * x) ∙ course.taken_len;
  flow_len = length-map flow (λ x. k * x) ∙ course.flow_len;
  out_len = length-map out (λ x. k * x) ∙ course.out_len;
  carries = λ e l. omega (arith, times_at k flow e, mul-le-mul_left k (course.carries e l));
  holds = λ e l. omega (arith, times_at k flow e, mul-le-mul_left k (course.holds e l));
  outlets = λ n l inner. none_times k out n (course.outlets n l inner);
  balance = λ n l. balance_times b k supply flow out n (slice_index taken n) (slice_index (times k taken) n)
      (times_at k taken n) (course.balance n l);
}

pub stop_times : (b : Basin) (k : ℕ) (carry held : ℕ → ℕ) (supply taken : List ℕ) (from to : ℕ) (set : List Bool) →
    IsStopWithin b carry held supply taken from to set →
    IsStopWithin b (λ e. k * carry e) (λ e. k * held e) (times k supply) (times k taken) from to set
stop_times b k carry held supply taken from to set stop = record {
  one_each = stop.one_each;
  drawing = stop.drawing;
  storing = stop.storing;
  full = omega (
    arith,
    capacity_times b k carry supply set,
    ap (λ x. k * x) stop.full,
    total_where_times (length b.links) k (λ e. leaves b set e) held,
    sum_times (length b.nodes) k (λ n. has set n) taken,
  );
}
