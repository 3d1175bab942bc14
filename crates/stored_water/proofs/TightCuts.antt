-- The tight cut of a diversion in the first step, as a set around which the step's course is tight.
use Rattle.std.proofs.Common.{◌≡◌, ℕ, ◌+◌, ◌<◌, ◌≤◌, Bool, true, refl, sym, ◌∙◌, ap, arith, List, length}
use Rattle.std.proofs.Math.Nat.{le_of_eq}
use Rattle.std.proofs.lemmas.Bool.{and_from, and_parts}
use Rattle.std.proofs.lemmas.Bool.Decides.{nat_tests}
use Rattle.std.specs.Prelude.{◌&&◌, ◌==◌, not, slice_index}
use Rattle.duality.proofs.CutBalance.{cut_balance}
use Rattle.duality.proofs.Duality.{cut_slack, delivery_by_take, delivery_le_flow, taking_on_no_link}
use Rattle.duality.proofs.Greatest.{tight_leaves_nothing}
use Rattle.duality.specs.Laws.{AreDeliveries}
use Rattle.finite_sums.specs.Sums.{total_where}
use Rattle.finite_sums.proofs.Terms.{terms_equal_where}
use Rattle.finite_sums.proofs.Totals.{greatest_where_le, term_le_greatest, term_le_total_where, total_where_le}
use Rattle.stored_water.proofs.Regrouped.{takes_below, takes_on_no_link}
use Rattle.stored_water.proofs.United.{IsTightAround}
use Rattle.water_model.proofs.Seniority.{not_senior_to_itself}
use Rattle.water_model.proofs.Sets.{total_crossing}
use Rattle.water_model.specs.Basin.{is_on_link, is_senior, taking_node, takes_at}
use Rattle.water_model.specs.Courses.{held_on}
use Rattle.water_model.specs.Cuts.{IsTight, carry_into, enters, kept_leaving, kept_on, kept_within, leaves, separates}
use Rattle.water_model.specs.Cuts.{takes_within}
use Rattle.water_model.specs.Plans.{IsFeasible, IsPlan, carry_of}
use Rattle.water_model.specs.declared.types.Basin.{Basin}
use Rattle.water_model.specs.declared.types.Plan.{Plan}
use Rattle.water_text.specs.declared.month.Month.{Month}

module _ (b : Basin) (month : Month) (natural want delivered : List ℕ) (p : Plan) (r n : ℕ) (cut : List Bool)
    (takes : takes_at b r n ≡ true) (plan : IsPlan b month natural want p) (are : AreDeliveries b want p delivered)
    (tight : IsTight b month natural delivered r cut)
  where
    below : r < length b.rights
    below = takes_below b r n takes

    -- the right takes within the cut
    pub own_within : takes_within b cut r ≡ true
    own_within =
        sym (ap (λ o. separates b (taking_node b r) o cut) (takes_on_no_link b r n takes)) ∙ tight.is_cut.separates

    -- the plan keeps its own flows as carries
    by_flow : IsFeasible b (slice_index p.flow) natural want p
    by_flow = record {
      flow_len = plan.flow_len;
      take_len = plan.take_len;
      out_len = plan.out_len;
      carries = λ e l. omega arith;
      wants = plan.wants;
      instream = plan.instream;
      outlets = plan.outlets;
      balance = plan.balance;
    }

    full : carry_into b (carry_of b month) cut ≤ carry_into b (slice_index p.flow) cut
    full =
        omega (
          arith,
          cut_slack b (slice_index p.flow) natural delivered r cut natural want p below tight.is_cut by_flow
              (λ k m h. refl) (λ s k h. le_of_eq (are.each s k)),
          tight.tight,
          are.each r below,
        )

    fits : carry_into b (slice_index p.flow) cut ≤ carry_into b (carry_of b month) cut
    fits =
        total_where_le (length b.links) (λ e. enters b cut e) (λ e. enters b cut e) (slice_index p.flow)
        (carry_of b month) (λ e l h. (h, plan.carries e l))

    -- what is taken within is at least what the right and its seniors there are delivered
    taken_most : slice_index delivered r + kept_within b delivered r cut
        ≤ total_where (length b.rights) (λ s. takes_within b cut s) (λ s. slice_index p.take s)
    taken_most =
        omega (
          arith,
          total_crossing (length b.rights) (λ s. takes_within b cut s) (λ s. s == r) (λ s. slice_index p.take s),
          term_le_total_where (length b.rights) (λ s. takes_within b cut s && s == r) (λ s. slice_index p.take s) r
              below (and_from _ _ own_within (equal r)),
          total_where_le (length b.rights) (λ s. takes_within b cut s && is_senior b s r)
              (λ s. takes_within b cut s && not (s == r)) (λ s. slice_index delivered s) (λ s. slice_index p.take s)
              seniors,
          are.each r below,
          delivery_by_take b want p r (takes_on_no_link b r n takes),
        )
      where
        equal : (i : ℕ) → (i == i) ≡ true
        equal i = grind (arith, nat_tests)

        seniors : (s : ℕ) → s < length b.rights → takes_within b cut s && is_senior b s r ≡ true →
            (takes_within b cut s && not (s == r) ≡ true) × (slice_index delivered s ≤ slice_index p.take s)
        seniors s k h =
            let tests = and_parts (takes_within b cut s) (is_senior b s r) h in (
              grind (arith, nat_tests, not_senior_to_itself b r),
              le_of_eq (are.each s k ∙ delivery_by_take b want p s (taking_on_no_link b cut s tests.0)),
            )

    -- what is kept for seniors on a link is at most what is held there
    held_most : kept_leaving b delivered r cut
        ≤ total_where (length b.links) (λ e. leaves b cut e) (held_on b delivered)
    held_most =
        total_where_le (length b.links) (λ e. leaves b cut e && not (is_on_link b r e)) (λ e. leaves b cut e)
        (kept_on b delivered r) (held_on b delivered)
        (λ e l h. ((and_parts (leaves b cut e) (not (is_on_link b r e)) h).0, kept e))
      where
        kept : (e : ℕ) → kept_on b delivered r e ≤ held_on b delivered e
        kept e =
            greatest_where_le (length b.rights) (λ s. is_on_link b s e && is_senior b s r)
            (λ s. slice_index delivered s) (held_on b delivered e)
            (λ s k h. term_le_greatest (length b.rights) (λ q. is_on_link b q e) (λ q. slice_index delivered q) s k
            (and_parts (is_on_link b s e) (is_senior b s r) h).0)

    pub cut_is_tight : IsTightAround b (carry_of b month) (held_on b delivered) p.flow p.out cut
    cut_is_tight = record {
      entering = terms_equal_where (length b.links) (λ e. enters b cut e) (slice_index p.flow) (carry_of b month)
          (λ e l h. plan.carries e l) full;
      leaving = terms_equal_where (length b.links) (λ e. leaves b cut e) (held_on b delivered) (slice_index p.flow)
          (λ e l h. holds e)
          (omega (
            arith,
            cut_balance b (carry_of b month) natural want p cut plan tight.is_cut.one_each,
            tight.tight,
            fits,
            taken_most,
            held_most,
          ));
      inside = λ k l h.
          (tight_leaves_nothing b month natural want delivered p r cut below plan are tight).outlets k h;
    }
      where
        holds : (e : ℕ) → held_on b delivered e ≤ slice_index p.flow e
        holds e =
            greatest_where_le (length b.rights) (λ s. is_on_link b s e) (λ s. slice_index delivered s)
            (slice_index p.flow e)
            (λ s k on. omega (arith, are.each s k, delivery_le_flow b want p s e on))
