-- Amounts in parts of a unit: what counts k-fold.
use Rattle.std.proofs.Common.{◌≡◌, ℕ, zero, suc, ◌+◌, ◌*◌, ◌<◌, min, max, Bool, true, false, refl, sym, ◌∙◌, ap}
use Rattle.std.proofs.Common.{ap₂, arith, List, [], ◌∷◌, length, inl, inr, take}
use Rattle.std.proofs.Math.Nat.{mul-add, mul-zero, one-mul, mul-le-mul_left, max-eq_left, max-eq_right, min-eq_left}
use Rattle.std.proofs.Math.Nat.{min-eq_right}
use Rattle.std.proofs.Math.Path.{fun_ext}
use Rattle.std.proofs.lemmas.Bool.{cases_lt}
use Rattle.std.proofs.lemmas.List.{length-map}
use Rattle.std.specs.Prelude.{if◌then◌else◌, ◌==◌, ◌&&◌, not, slice_index, Option, Some, None}
use Rattle.finite_sums.specs.Sums.{total, total_where, greatest_where}
use Rattle.finite_sums.proofs.Totals.{total_same}
use Rattle.water_model.specs.Lookups.{has}
use Rattle.water_model.specs.Basin.{head_of, tail_of, takes_at, instream_link, is_on_link, is_senior}
use Rattle.water_model.specs.Plans.{IsFeasible, delivery, delivery_by_link, carry_of, inflow_to, outflow_from, taken_at}
use Rattle.duality.specs.Parts.{times, in_parts}
use Rattle.water_model.specs.Cuts.{IsTightWithin, cut_capacity, cut_kept, kept_on, enters, leaves, takes_within}
use Rattle.water_model.specs.History.{Follows}
use Rattle.duality.specs.Laws.{NoFractionHelps, WholeUnitsAreGreatest, OnePartIsUnit, AreDeliveries, IsMetOrCut}
use Rattle.water_model.specs.declared.types.Basin.{Basin}
use Rattle.water_model.specs.declared.types.Series.{Series}
use Rattle.water_model.specs.declared.types.MonthRecord.{MonthRecord}
use Rattle.water_model.specs.declared.types.Plan.{Plan}
use Rattle.water_model.proofs.Sets.{total_where_same}
use Rattle.duality.proofs.Stays.{greatest_same_terms}
use Rattle.duality.proofs.Greatest.{met_or_cut, gives_most, cuts_make_plan_greatest}

-- ---- numbers, sums and greatest values

pub times_at : (k : ℕ) (xs : List ℕ) (n : ℕ) → slice_index (times k xs) n ≡ k * slice_index xs n
times_at k [] n = sym (mul-zero k)
times_at k (x ∷ xs) zero = refl
times_at k (x ∷ xs) (suc n) = times_at k xs n

max_times : (k a b : ℕ) → max (k * a) (k * b) ≡ k * max a b
max_times k a b = elim (cases_lt a b) [
  | inl less ↦ max-eq_right (mul-le-mul_left k (omega arith)) ∙ sym (ap (λ x. k * x) (max-eq_right (omega arith)))
  | inr more ↦ max-eq_left (mul-le-mul_left k more) ∙ sym (ap (λ x. k * x) (max-eq_left more))
]

min_times : (k a b : ℕ) → min (k * a) (k * b) ≡ k * min a b
min_times k a b = elim (cases_lt a b) [
  | inl less ↦ min-eq_left (mul-le-mul_left k (omega arith)) ∙ sym (ap (λ x. k * x) (min-eq_left (omega arith)))
  | inr more ↦ min-eq_right (mul-le-mul_left k more) ∙ sym (ap (λ x. k * x) (min-eq_right more))
]

term_times : (k : ℕ) (t : Bool) (x : ℕ) → (if t then k * x else 0) ≡ k * (if t then x else 0)
term_times k true x = refl
term_times k false x = sym (mul-zero k)

total_times : (n k : ℕ) (f : ℕ → ℕ) → total n (λ j. k * f j) ≡ k * total n f
unfolding total
total_times zero k f = sym (mul-zero k)
total_times (suc n) k f = omega (arith, total_times n k f, mul-add k (total n f) (f n))

pub total_where_times : (n k : ℕ) (p : ℕ → Bool) (f : ℕ → ℕ) → total_where n p (λ j. k * f j) ≡ k * total_where n p f
total_where_times n k p f =
    total_same _ _ _ (λ j l. term_times k (p j) (f j)) ∙ total_times n k (λ j. if p j then f j else 0)

greatest_times : (n k : ℕ) (p : ℕ → Bool) (f : ℕ → ℕ) → greatest_where n p (λ j. k * f j) ≡ k * greatest_where n p f
unfolding greatest_where
greatest_times zero k p f = sym (mul-zero k)
greatest_times (suc n) k p f =
    ap₂ max (greatest_times n k p f) (term_times k (p n) (f n))
    ∙ max_times k (greatest_where n p f) (if p n then f n else 0)

-- a sum over amounts of a list
pub sum_times : (n k : ℕ) (p : ℕ → Bool) (xs : List ℕ) →
    total_where n p (λ j. slice_index (times k xs) j) ≡ k * total_where n p (λ j. slice_index xs j)
sum_times n k p xs =
    total_where_same n p _ _ (λ j l. times_at k xs j) ∙ total_where_times n k p (λ j. slice_index xs j)

-- ---- cuts

kept_on_times : (b : Basin) (k : ℕ) (delivered : List ℕ) (r e : ℕ) →
    kept_on b (times k delivered) r e ≡ k * kept_on b delivered r e
kept_on_times b k delivered r e =
    greatest_same_terms _ _ _ _ (λ s l h. times_at k delivered s)
    ∙ greatest_times (length b.rights) k (λ s. is_on_link b s e && is_senior b s r) (λ s. slice_index delivered s)

kept_times : (b : Basin) (k : ℕ) (delivered : List ℕ) (r : ℕ) (cut : List Bool) →
    cut_kept b (times k delivered) r cut ≡ k * cut_kept b delivered r cut
kept_times b k delivered r cut =
    omega (
      arith,
      total_where_same (length b.links) (λ e. leaves b cut e && not (is_on_link b r e))
          (λ e. kept_on b (times k delivered) r e) (λ e. k * kept_on b delivered r e)
          (λ e l. kept_on_times b k delivered r e),
      total_where_times (length b.links) k (λ e. leaves b cut e && not (is_on_link b r e)) (kept_on b delivered r),
      sum_times (length b.rights) k (λ s. takes_within b cut s && is_senior b s r) delivered,
    )

pub capacity_times : (b : Basin) (k : ℕ) (carry : ℕ → ℕ) (supply : List ℕ) (cut : List Bool) →
    cut_capacity b (λ e. k * carry e) (times k supply) cut ≡ k * cut_capacity b carry supply cut
capacity_times b k carry supply cut =
    omega (
      arith,
      sum_times (length b.nodes) k (λ n. has cut n) supply,
      total_where_times (length b.links) k (λ e. enters b cut e) carry,
    )

-- a cut that is tight is so k-fold
tight_times : (b : Basin) (k : ℕ) (carry : ℕ → ℕ) (supply delivered : List ℕ) (r : ℕ) (cut : List Bool) →
    IsTightWithin b carry supply delivered r cut →
    IsTightWithin b (λ e. k * carry e) (times k supply) (times k delivered) r cut
tight_times b k carry supply delivered r cut tight = record {
  is_cut = tight.is_cut;
  tight = omega (
    arith,
    capacity_times b k carry supply cut,
    ap (λ x. k * x) tight.tight,
    times_at k delivered r,
    kept_times b k delivered r cut,
  );
}

met_or_cut_times : (b : Basin) (k : ℕ) (carry : ℕ → ℕ) (supply want delivered : List ℕ) (r : ℕ) →
    IsMetOrCut b carry supply want delivered r →
    IsMetOrCut b (λ e. k * carry e) (times k supply) (times k want) (times k delivered) r
met_or_cut_times b k carry supply want delivered r (inl met) =
    inl (omega (arith, times_at k want r, times_at k delivered r, mul-le-mul_left k met))
met_or_cut_times b k carry supply want delivered r (inr cut) =
    inr (cut.0, tight_times b k carry supply delivered r cut.0 cut.1)

-- ---- plans

pub none_times : (k : ℕ) (xs : List ℕ) (n : ℕ) → slice_index xs n ≡ 0 → slice_index (times k xs) n ≡ 0
none_times k xs n none = times_at k xs n ∙ (ap (λ x. k * x) none ∙ mul-zero k)

-- the water at a node, where `taken` is what is taken there
pub balance_times : (b : Basin) (k : ℕ) (supply flow out : List ℕ) (n taken taken' : ℕ) → taken' ≡ k * taken →
    slice_index supply n + inflow_to b flow n ≡ outflow_from b flow n + taken + slice_index out n →
    slice_index (times k supply) n + inflow_to b (times k flow) n
    ≡ outflow_from b (times k flow) n + taken' + slice_index (times k out) n
balance_times b k supply flow out n taken taken' takes balance =
    omega (
      arith,
      times_at k supply n,
      sum_times (length b.links) k (λ e. head_of b e == n) flow,
      ap (λ x. k * x) balance,
      sum_times (length b.links) k (λ e. tail_of b e == n) flow,
      times_at k out n,
    )

feasible_times : (b : Basin) (k : ℕ) (carry : ℕ → ℕ) (supply want : List ℕ) (p : Plan) →
    IsFeasible b carry supply want p →
    IsFeasible b (λ e. k * carry e) (times k supply) (times k want) (in_parts k p)
feasible_times b k carry supply want p plan = record {
  flow_len = length-map p.flow (λ x. k * x) ∙ plan.flow_len;
  take_len = length-map p.take (λ x. k * x) ∙ plan.take_len;
  out_len = length-map p.out (λ x. k * x) ∙ plan.out_len;
  carries = λ e l. omega (arith, times_at k p.flow e, mul-le-mul_left k (plan.carries e l));
  wants = λ r l. omega (arith, times_at k p.take r, times_at k want r, mul-le-mul_left k (plan.wants r l));
  instream = λ r l on. none_times k p.take r (plan.instream r l on);
  outlets = λ n l inner. none_times k p.out n (plan.outlets n l inner);
  balance = λ n l. balance_times b k supply p.flow p.out n (taken_at b p.take n) (taken_at b (times k p.take) n)
      (sum_times (length b.rights) k (λ r. takes_at b r n) p.take) (plan.balance n l);
}

delivery_times : (b : Basin) (k : ℕ) (want : List ℕ) (p : Plan) (r : ℕ) →
    delivery b (times k want) (in_parts k p) r ≡ k * delivery b want p r
delivery_times b k want p r = of_link (instream_link b r)
  where
    of_link : (o : Option ℕ) →
        delivery_by_link o (slice_index (times k want) r) (in_parts k p) r
        ≡ k * delivery_by_link o (slice_index want r) p r
    of_link None = times_at k p.take r
    of_link (Some link) =
        ap₂ min (times_at k want r) (times_at k p.flow link)
        ∙ min_times k (slice_index want r) (slice_index p.flow link)

deliveries_times : (b : Basin) (k : ℕ) (want : List ℕ) (p : Plan) (delivered : List ℕ) →
    AreDeliveries b want p delivered → AreDeliveries b (times k want) (in_parts k p) (times k delivered)
deliveries_times b k want p delivered are = record {
  each = λ r l. times_at k delivered r ∙ (ap (λ x. k * x) (are.each r l) ∙ sym (delivery_times b k want p r));
}

-- ---- the laws

-- in a record each right is met or has a tight cut, k-fold
in_record : (b : Basin) (series : Series) (before : List MonthRecord) (m : MonthRecord) → Follows b series before m →
    (k r : ℕ) → r < length b.rights →
    IsMetOrCut b (λ e. k * carry_of b m.month e) (times k m.supply) (times k m.want) (times k m.delivered) r
in_record b series before m follows k r l =
    met_or_cut_times b k (carry_of b m.month) m.supply m.want m.delivered r (met_or_cut b series before m follows r l)

pub no_fraction_helps : NoFractionHelps
no_fraction_helps b series records history i m at k q plan r l serves =
    omega (
      arith,
      times_at k m.delivered r,
      gives_most b (λ e. k * carry_of b m.month e) (times k m.supply) (times k m.want) (times k m.delivered) q r l plan
          (in_record b series (take i records) m (history.each i m at) k r l) serves.each,
    )

pub whole_units_are_greatest : WholeUnitsAreGreatest
whole_units_are_greatest b series records history i m at k = (
  cuts_make_plan_greatest b (λ e. k * carry_of b m.month e) (times k m.supply) (times k m.want) (times k m.delivered)
      (in_parts k m.plan) (feasible_times b k (carry_of b m.month) m.supply m.want m.plan follows.after.plan)
      deliveries (in_record b series (take i records) m follows k),
  deliveries,
)
  where
    follows : Follows b series (take i records) m
    follows = history.each i m at

    deliveries : AreDeliveries b (times k m.want) (in_parts k m.plan) (times k m.delivered)
    deliveries = deliveries_times b k m.want m.plan m.delivered (record { each = follows.after.delivered })

one_fold : (xs : List ℕ) → times 1 xs ≡ xs
one_fold [] = refl
one_fold (x ∷ xs) = ap₂ ◌∷◌ (one-mul x) (one_fold xs)

pub one_part_is_unit : OnePartIsUnit
one_part_is_unit b month supply want p = (
  (λ plan. rw (← one_fold supply, ← one_fold want, ← carries) plan),
  (λ plan. rw (one_fold supply, one_fold want, carries) plan),
)
  where
    carries : (λ e. 1 * carry_of b month e) ≡ carry_of b month
    carries = fun_ext (λ e. one-mul (carry_of b month e))
