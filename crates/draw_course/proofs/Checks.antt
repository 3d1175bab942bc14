-- The test whether a month's draws may begin.
use Rattle.std.proofs.Common.{◌≡◌, ◌≢◌, ℕ, ◌+◌, ◌<◌, ◌≤◌, false, sym, ◌∙◌, arith, List, length, replicate}
use Rattle.std.proofs.lemmas.Bool.Decides.{nat_tests}
use Rattle.std.specs.Prelude.{◌==◌, slice_index, if◌then◌else◌}
use Rattle.finite_sums.specs.Sums.{total_where}
use Rattle.finite_sums.proofs.Terms.{none_where}
use Rattle.finite_sums.proofs.Totals.{total_where_more}
use Rattle.water_text.specs.declared.month.Month.{Month}
use Rattle.water_model.specs.Basin.{is_outlet}
use Rattle.water_model.specs.Plans.{IsPlan, carry_of, taken_at}
use Rattle.water_model.specs.declared.types.Plan.{Plan}
use Rattle.draw_course.specs.Draws.{BasinDraws, diversion_of, reservoir_of}
use Rattle.draw_course.specs.Courses.{IsCourse, IsBalancedAt}
use Rattle.draw_course.specs.Engine.{first_draws}
use Rattle.draw_course.proofs.Begins.{first_none}

-- one more link, with its end at the node or not
pub sum_on : (n v x sum new end : ℕ) (key f : ℕ → ℕ) → sum ≡ total_where n (λ e. key e == v) f → new ≡ sum + x →
    x ≡ f n → end ≡ key n → end ≡ v → new ≡ total_where (n + 1) (λ e. key e == v) f
sum_on n v x sum new end key f now is at key_is same =
    omega (arith, total_where_more n (λ e. key e == v) f, term (key n) v (f n) (sym key_is ∙ same))
  where
    term : (k v x : ℕ) → k ≡ v → (if k == v then x else 0) ≡ x
    term k v x e = grind (arith, nat_tests)

pub sum_off : (n v sum new end : ℕ) (key f : ℕ → ℕ) → sum ≡ total_where n (λ e. key e == v) f → new ≡ sum →
    end ≡ key n → end ≢ v → new ≡ total_where (n + 1) (λ e. key e == v) f
sum_off n v sum new end key f now is key_is other =
    omega (arith, total_where_more n (λ e. key e == v) f, term (key n) v (f n) (λ e. other (key_is ∙ e)))
  where
    term : (k v x : ℕ) → k ≢ v → (if k == v then x else 0) ≡ 0
    term k v x ne = grind (arith, nat_tests)

-- what was tested is a course
pub checked_course : (d : BasinDraws) (month : Month) (supply taken held flow out : List ℕ) →
    ((e : ℕ) → e < length d.basin.links → (slice_index held e ≤ slice_index flow e)
    × (slice_index flow e ≤ carry_of d.basin month e)) →
    ((n : ℕ) → n < length d.basin.nodes → is_outlet d.basin n ≡ false → slice_index out n ≡ 0) →
    ((n : ℕ) → n < length d.basin.nodes → IsBalancedAt d.basin supply taken flow out n) →
    IsCourse (first_draws d month supply taken held) (λ e. slice_index flow e) (λ n. slice_index out n)
checked_course d month supply taken held flow out carried outlets balance = record {
  low = λ e l. (carried e l).0;
  high = λ e l. (carried e l).1;
  outlets = outlets;
  balance = λ n l. omega (
    arith,
    balance n l,
    none_where (length d.draws) (λ k. reservoir_of d.draws k == n) (λ k. slice_index (replicate (length d.draws) 0) k)
        (λ k b t. first_none d k b),
    none_where (length d.draws) (λ k. diversion_of d.draws k == n) (λ k. slice_index (replicate (length d.draws) 0) k)
        (λ k b t. first_none d k b),
  );
}

-- a plan with what is carried is a course before any draw
pub plan_course : (d : BasinDraws) (month : Month) (supply carried whole want taken held : List ℕ) (p : Plan) →
    IsPlan d.basin month supply want p →
    ((n : ℕ) → n < length d.basin.nodes → slice_index whole n ≡ slice_index supply n + slice_index carried n) →
    ((n : ℕ) → n < length d.basin.nodes → slice_index taken n ≡ taken_at d.basin p.take n + slice_index carried n) →
    ((e : ℕ) → e < length d.basin.links → slice_index held e ≤ slice_index p.flow e) →
    IsCourse (first_draws d month whole taken held) (slice_index p.flow) (slice_index p.out)
plan_course d month supply carried whole want taken held p plan all takes holds =
    checked_course d month whole taken held p.flow p.out (λ e l. (holds e l, plan.carries e l)) plan.outlets
    (λ n l. (let balance = plan.balance n l in let supplied = all n l in let taken_here = takes n l in omega arith))
