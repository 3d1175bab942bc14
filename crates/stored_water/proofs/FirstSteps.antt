-- The first step's plan as a course, and the course after all draws as a plan.
use Rattle.std.proofs.Common.{◌≡◌, ℕ, ◌+◌, ◌-◌, ◌<◌, ◌≤◌, true, ◌∙◌, ap, sym, arith, length, List, min}
use Rattle.std.proofs.lemmas.Bool.{and_parts, not-true}
use Rattle.std.proofs.lemmas.Bool.Decides.{nat_tests}
use Rattle.std.specs.Prelude.{◌==◌, ◌&&◌, not, slice_index, Some}
use Rattle.finite_sums.specs.Sums.{total_where}
use Rattle.finite_sums.proofs.Totals.{greatest_where_le, total_where_start, term_le_greatest}
use Rattle.finite_sums.proofs.Terms.{same_where}
use Rattle.water_model.specs.Basin.{is_at, taking_node, takes_at, is_on_link, instream_link}
use Rattle.water_model.specs.Plans.{delivery, taken_at, inflow_to, outflow_from}
use Rattle.water_model.proofs.Sets.{total_crossing, total_where_add}
use Rattle.duality.proofs.Duality.{delivery_by_take, delivery_le_flow}
use Rattle.water_model.specs.Stores.{is_owned, storing_node, sum_in_zone, drawing_node}
use Rattle.water_model.specs.Accounts.{stock_of, drawn_from, drawn_by, draws_on}
use Rattle.stored_water.specs.DrawLaws.{FirstStepIsCourse, DrawsChangeNoTakes, CoursesWithDrawsArePlans}
use Rattle.water_model.specs.Courses.{IsCourse, held_on}
use Rattle.water_text.specs.declared.month.Month.{Month}
use Rattle.water_model.specs.declared.types.Basin.{Basin}
use Rattle.stored_water.proofs.Accounting.{at_some}
use Rattle.stored_water.proofs.Regrouped.{takes_below, takes_on_no_link, by_zones, by_diversions, diversion_not_owned}

pub first_step_is_course : FirstStepIsCourse
first_step_is_course b month l natural supply want delivered amounts taken p plan are adds fills takes =
    record {
      taken_len = takes.one_each;
      flow_len = plan.flow_len;
      out_len = plan.out_len;
      carries = plan.carries;
      holds = λ e m. greatest_where_le (length b.rights) (λ s. is_on_link b s e) (λ s. slice_index delivered s)
          (slice_index p.flow e)
          (λ s k on. omega (arith, are.each s k, delivery_le_flow b want p s e on));
      outlets = plan.outlets;
      balance = balance;
    }
  where
    delivered_is : (r n : ℕ) → takes_at b r n ≡ true → slice_index delivered r ≡ slice_index p.take r
    delivered_is r n h =
        are.each r (takes_below b r n h) ∙ delivery_by_take b want p r (takes_on_no_link b r n h)

    -- the takes at a node: those of owned zones are what their accounts are filled with
    taken_is : (n : ℕ) → n < length b.nodes →
        slice_index taken n
        ≡ taken_at b p.take n
        + total_where (length b.accounts) (λ k. is_at (storing_node b k) n) (λ k. slice_index l.carried k)
    taken_is n m =
        omega (
          arith,
          takes.each n m,
          total_crossing (length b.rights) (λ r. takes_at b r n) (λ r. is_owned b r)
              (λ r. slice_index p.take r),
          same_where (length b.rights) (λ r. takes_at b r n && not (is_owned b r))
              (λ r. slice_index delivered r) (λ r. slice_index p.take r)
              (λ r k h. delivered_is r n (and_parts (takes_at b r n) (not (is_owned b r)) h).0),
          same_where (length b.rights) (λ r. takes_at b r n && is_owned b r)
              (λ r. sum_in_zone b (slice_index l.filled) r) (λ r. slice_index p.take r)
              (λ r k h. (let tests = and_parts (takes_at b r n) (is_owned b r) h in
              fills r tests.1 ∙ delivered_is r n tests.0)),
          by_zones b n (slice_index l.filled),
          total_where_start (λ j. is_at (drawing_node b j) n) (λ j. slice_index amounts j),
          same_where (length b.accounts) (λ k. is_at (storing_node b k) n)
              (λ k. stock_of l k - drawn_from b 0 amounts k)
              (λ k. slice_index l.carried k + slice_index l.filled k)
              (λ k j h. undrawn k),
          total_where_add (length b.accounts) (λ k. is_at (storing_node b k) n)
              (λ k. slice_index l.carried k) (λ k. slice_index l.filled k),
        )
      where
        undrawn : (k : ℕ) →
            stock_of l k - drawn_from b 0 amounts k ≡ slice_index l.carried k + slice_index l.filled k
        undrawn k = omega (arith, total_where_start (λ j. draws_on b j k) (λ j. slice_index amounts j))

    balance : (n : ℕ) → n < length b.nodes →
        slice_index supply n + inflow_to b p.flow n
        ≡ outflow_from b p.flow n + slice_index taken n + slice_index p.out n
    balance n m = omega (arith, plan.balance n m, adds n m, taken_is n m)

-- an instream right has at least the flow that it was delivered
instream_flows : (b : Basin) (month : Month) (supply delivered taken flow out : List ℕ) →
    IsCourse b month (held_on b delivered) supply taken flow out → (s link : ℕ) → s < length b.rights →
    link < length b.links → instream_link b s ≡ Some link → slice_index delivered s ≤ slice_index flow link
instream_flows b month supply delivered taken flow out course s link k m on =
    omega (
      arith,
      course.holds link m,
      term_le_greatest (length b.rights) (λ r. is_on_link b r link) (λ r. slice_index delivered r) s k on_it,
    )
  where
    equal : (i : ℕ) → (i == i) ≡ true
    equal i = grind (arith, nat_tests)

    on_it : is_on_link b s link ≡ true
    on_it = ap (λ o. is_at o link) on ∙ equal link

pub draws_change_no_takes : DrawsChangeNoTakes
draws_change_no_takes b month opening evaporated number delivered amounts l supply taken flow out is takes course = (
  λ n m. omega (
    arith,
    course.balance n m,
    takes.each n m,
    same_where (length b.accounts) (λ k. is_at (storing_node b k) n)
        (λ k. stock_of l k - drawn_from b (length b.draws) amounts k) (slice_index l.closing)
        (λ k h at. sym (is.closing k h ∙ ap (λ x. stock_of l k - x) (is.drawn k h))),
  ),
  instream_flows b month supply delivered taken flow out course,
)

pub courses_with_draws_are_plans : CoursesWithDrawsArePlans
courses_with_draws_are_plans b month l supply want delivered amounts taken take flow out zones for_diversions
    at_diversions takes after course = (
      record {
        flow_len = course.flow_len;
        take_len = after.one_each;
        out_len = course.out_len;
        carries = course.carries;
        wants = λ r k. omega arith;
        instream = after.instream;
        outlets = course.outlets;
        balance = λ n m. omega (arith, course.balance n m, taken_is n m);
      },
      instream_served,
    )
  where
    kept : ℕ → ℕ
    kept k = stock_of l k - drawn_from b (length b.draws) amounts k

    taken_is : (n : ℕ) → n < length b.nodes → slice_index taken n ≡ taken_at b take n
    taken_is n m =
        omega (
          arith,
          takes.each n m,
          total_crossing (length b.rights) (λ r. takes_at b r n) (λ r. is_owned b r) (λ r. slice_index take r),
          same_where (length b.rights) (λ r. takes_at b r n && not (is_owned b r))
              (λ r. slice_index take r)
              (λ r. slice_index delivered r + drawn_by b (length b.draws) amounts r)
              (λ r k h. (let tests = and_parts (takes_at b r n) (not (is_owned b r)) h in
              after.others r n k (not-true (is_owned b r) tests.1)
              (at_some (taking_node b r) n tests.0))),
          total_where_add (length b.rights) (λ r. takes_at b r n && not (is_owned b r))
              (λ r. slice_index delivered r) (λ r. drawn_by b (length b.draws) amounts r),
          by_diversions b (length b.draws) amounts n
              (λ j d e. (
                diversion_not_owned b d.diversion zones (for_diversions j d e),
                at_diversions j d e,
              )),
          same_where (length b.rights) (λ r. takes_at b r n && is_owned b r)
              (λ r. slice_index take r) (λ r. sum_in_zone b kept r)
              (λ r k h. after.owned r k (and_parts (takes_at b r n) (is_owned b r) h).1),
          by_zones b n kept,
        )

    instream_served : (s link : ℕ) → s < length b.rights → link < length b.links → instream_link b s ≡ Some link →
        slice_index delivered s ≤ slice_index want s →
        slice_index delivered s ≤ delivery b want (record { flow = flow; take = take; out = out }) s
    instream_served s link k m on within =
        let flows : slice_index delivered s ≤ min (slice_index want s) (slice_index flow link) =
        omega (arith, instream_flows b month supply delivered taken flow out course s link k m on) in
        rw on flows
