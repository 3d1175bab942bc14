-- Tight cuts and greatest plans.
use Rattle.std.proofs.Common.{◌≡◌, ℕ, suc, ◌+◌, ◌<◌, ◌≤◌, Bool, true, false, refl, sym, ◌∙◌, ap, arith}
use Rattle.std.proofs.Common.{List, [], ◌∷◌, length, inl, inr, take}
use Rattle.std.proofs.Math.Nat.{le_of_eq}
use Rattle.std.proofs.lemmas.Int.{ints}
use Rattle.std.proofs.lemmas.Bool.{cases_lt, cases_eq}
use Rattle.std.proofs.lemmas.Bool.Decides.{nat_tests}
use Rattle.std.specs.Prelude.{◌==◌, slice_index, ◌&&◌, not, Option, Some, None, ◌⊎◌}
use Rattle.finite_sums.specs.Sums.{total_where}
use Rattle.water_model.specs.Lookups.{has}
use Rattle.water_model.specs.Basin.{is_senior, instream_link}
use Rattle.water_model.specs.Plans.{IsFeasible, IsGreatest, IsLexGreatest, DeliversSame, DeliversMore, delivery}
use Rattle.water_model.specs.Plans.{delivery_by_link, carry_of}
use Rattle.water_model.specs.Cuts.{supply_within, cut_kept, cut_capacity, takes_within}
use Rattle.water_model.specs.History.{Follows}
use Rattle.duality.specs.Laws.{CutBounds, CutsMakeGreatest, CutsLetNobodyGetMore}
use Rattle.duality.specs.Laws.{TightCutLeavesNothing, GreatestPlansDeliverSame, ReachIsUnique, AreDeliveries}
use Rattle.duality.specs.Laws.{TightMeansBound, IsMetOrCut}
use Rattle.water_model.specs.declared.types.Basin.{Basin}
use Rattle.water_model.specs.declared.types.Series.{Series}
use Rattle.water_model.specs.declared.types.MonthRecord.{MonthRecord}
use Rattle.water_model.specs.declared.types.Plan.{Plan}
use Rattle.finite_sums.proofs.Totals.{total_where_none}
use Rattle.water_model.proofs.Sets.{has_below}
use Rattle.duality.proofs.Duality.{cut_slack}
use Rattle.water_model.proofs.Seniority.{not_senior_to_itself, first_where, IsFirst, senior_trans, senior_total}

pub cut_bounds : CutBounds
cut_bounds b month supply delivered r cut supply' want' q l is_cut plan agrees serves =
    omega (
      arith,
      ints,
      cut_slack b (carry_of b month) supply delivered r cut supply' want' q l is_cut plan (λ n k h. agrees.each n h)
          serves.each,
    )

pub tight_leaves_nothing : TightCutLeavesNothing
tight_leaves_nothing b month supply want delivered p r cut l plan are tight = record {
  juniors = λ s k within junior.
      let test : (takes_within b cut s && not (s == r)) && not (is_senior b s r) ≡ true =
      grind (arith, nat_tests, not_senior_to_itself b r, senior_trans b.rights r s r junior) in
      total_where_none (length b.rights) (λ s. (takes_within b cut s && not (s == r)) && not (is_senior b s r))
      (λ s. slice_index p.take s) none_taken s k test;
  outlets = λ n h. total_where_none (length b.nodes) (λ n. has cut n) (λ n. slice_index p.out n) none_out n
      (omega (arith, has_below cut n h, tight.is_cut.one_each)) h;
}
  where
    slack : delivery b want p r + cut_kept b delivered r cut
        + total_where (length b.rights) (λ s. (takes_within b cut s && not (s == r)) && not (is_senior b s r))
        (λ s. slice_index p.take s)
        + supply_within b p.out cut ≤ cut_capacity b (carry_of b month) supply cut
    slack = cut_slack b (carry_of b month) supply delivered r cut supply want p l tight.is_cut plan (λ n k h. refl)
        (λ s k h. le_of_eq (are.each s k))

    none_taken : total_where (length b.rights) (λ s. (takes_within b cut s && not (s == r)) && not (is_senior b s r))
        (λ s. slice_index p.take s) ≡ 0
    none_taken = omega (arith, slack, tight.tight, are.each r l)

    none_out : supply_within b p.out cut ≡ 0
    none_out = omega (arith, slack, tight.tight, are.each r l)

-- a plan delivers no more than the want
pub delivery_le_want : (b : Basin) (carry : ℕ → ℕ) (supply want : List ℕ) (q : Plan) (r : ℕ) → r < length b.rights →
    IsFeasible b carry supply want q → delivery b want q r ≤ slice_index want r
delivery_le_want b carry supply want q r l plan = of_link (instream_link b r)
  where
    of_link : (o : Option ℕ) → delivery_by_link o (slice_index want r) q r ≤ slice_index want r
    of_link None = plan.wants r l
    of_link (Some link) = omega arith

-- what a right is delivered that is met or has a tight cut is the most that any plan can that serves its seniors as well
pub gives_most : (b : Basin) (carry : ℕ → ℕ) (supply want delivered : List ℕ) (q : Plan) (r : ℕ) →
    r < length b.rights → IsFeasible b carry supply want q → IsMetOrCut b carry supply want delivered r →
    ((s : ℕ) → s < length b.rights → is_senior b s r ≡ true → slice_index delivered s ≤ delivery b want q s) →
    delivery b want q r ≤ slice_index delivered r
gives_most b carry supply want delivered q r l plan (inl met) serves =
    omega (arith, delivery_le_want b carry supply want q r l plan)
gives_most b carry supply want delivered q r l plan (inr cut) serves =
    omega (
      arith,
      cut.1.tight,
      cut_slack b carry supply delivered r cut.0 supply want q l cut.1.is_cut plan (λ n k h. refl) serves,
    )

-- a plan in which each right is met or has a tight cut is greatest
pub cuts_make_plan_greatest : (b : Basin) (carry : ℕ → ℕ) (supply want delivered : List ℕ) (p : Plan) →
    IsFeasible b carry supply want p → AreDeliveries b want p delivered →
    ((r : ℕ) → r < length b.rights → IsMetOrCut b carry supply want delivered r) →
    IsLexGreatest b carry supply want p
cuts_make_plan_greatest b carry supply want delivered p plan are cuts = record { plan = plan; greatest = compare }
  where
    equal : (x y : ℕ) → not (x == y) ≡ false → x ≡ y
    equal x y h = grind (arith, nat_tests)

    above : (x y : ℕ) → not (x == y) ≡ true → y ≤ x → y < x
    above x y h l = grind (arith, nat_tests)

    compare : (q : Plan) → IsFeasible b carry supply want q → DeliversSame b want p q ⊎ DeliversMore b want p q
    compare q other = elim (first_where b (λ r. not (delivery b want p r == delivery b want q r)) (length b.rights)) [
      | inl same ↦ inl (λ r l. equal (delivery b want p r) (delivery b want q r) (same r l))
      | inr first ↦ inr (more first.0 first.1)
    ]
      where
        more : (r : ℕ) → IsFirst b (λ r. not (delivery b want p r == delivery b want q r)) (length b.rights) r →
            DeliversMore b want p q
        more r first = record {
          right = r;
          in_range = first.below;
          more = above (delivery b want p r) (delivery b want q r) first.holds
              (omega (
                arith,
                are.each r first.below,
                gives_most b carry supply want delivered q r first.below other
                    (cuts r first.below) (λ s k h. le_of_eq (are.each s k ∙ seniors s k h)),
              ));
          same_to_seniors = seniors;
        }
          where
            seniors : (s : ℕ) → s < length b.rights → is_senior b s r ≡ true → delivery b want p s ≡ delivery b want q s
            seniors s k h = equal (delivery b want p s) (delivery b want q s) (first.none_senior s k h)

-- in a record each right is met or has a tight cut
pub met_or_cut : (b : Basin) (series : Series) (before : List MonthRecord) (m : MonthRecord) →
    Follows b series before m → (r : ℕ) → r < length b.rights →
    IsMetOrCut b (carry_of b m.month) m.supply m.want m.delivered r
met_or_cut b series before m follows r l = elim (cases_lt (slice_index m.delivered r) (slice_index m.want r)) [
  | inl short ↦ let cut = follows.short r l short in inr (cut.0, cut.2)
  | inr met ↦ inl met
]

pub record_is_greatest : (b : Basin) (series : Series) (before : List MonthRecord) (m : MonthRecord) →
    Follows b series before m → IsGreatest b m.month m.supply m.want m.plan
record_is_greatest b series before m follows =
    cuts_make_plan_greatest b (carry_of b m.month) m.supply m.want m.delivered m.plan follows.after.plan
    (record { each = follows.after.delivered }) (met_or_cut b series before m follows)

pub cuts_make_greatest : CutsMakeGreatest
cuts_make_greatest b series records history i m at =
    record_is_greatest b series (take i records) m (history.each i m at)

-- two greatest plans of a month deliver the same
pub greatest_same : GreatestPlansDeliverSame
greatest_same b month supply want p q strict gp gq =
    by_case (gp.greatest q gq.plan) (gq.greatest p gp.plan)
  where
    clash : DeliversMore b want p q → DeliversMore b want q p → ⊥
    clash m n = elim (cases_eq m.right n.right) [
      | inl same ↦ (let e : delivery b want p n.right ≡ delivery b want p m.right = ap (delivery b want p) (sym same) in
          let f : delivery b want q n.right ≡ delivery b want q m.right = ap (delivery b want q) (sym same) in
          let x = m.more in let y = n.more in omega arith)
      | inr differ ↦ elim (senior_total b.rights strict m.right n.right m.in_range n.in_range differ) [
        | inl h ↦ (let e = n.same_to_seniors m.right m.in_range h in let x = m.more in omega arith)
        | inr h ↦ (let e = m.same_to_seniors n.right n.in_range h in let x = n.more in omega arith)
      ]
    ]

    by_case : DeliversSame b want p q ⊎ DeliversMore b want p q → DeliversSame b want q p ⊎ DeliversMore b want q p →
        DeliversSame b want p q
    by_case (inl same) other = same
    by_case (inr more) (inl same) = λ r l. sym (same r l)
    by_case (inr more) (inr other) = absurd (clash more other)

-- two sets of one length with the same indices are equal
pub same_set : (one other : List Bool) → length one ≡ length other →
    ((n : ℕ) → has one n ≡ true → has other n ≡ true) → ((n : ℕ) → has other n ≡ true → has one n ≡ true) → one ≡ other
same_set [] [] e h i = refl
same_set [] (y ∷ ys) e h i = absurd (omega arith)
same_set (x ∷ xs) [] e h i = absurd (omega arith)
same_set (x ∷ xs) (y ∷ ys) e h i =
    let heads : x ≡ y = same_bit x y (h 0) (i 0) in
    let tails : xs ≡ ys = same_set xs ys (omega arith) (λ n. h (suc n)) (λ n. i (suc n)) in
    cc
  where
    same_bit : (x y : Bool) → (x ≡ true → y ≡ true) → (y ≡ true → x ≡ true) → x ≡ y
    same_bit true y h i = sym (h refl)
    same_bit false true h i = i refl
    same_bit false false h i = refl

pub reach_unique : ReachIsUnique
reach_unique b month supply delivered r one other f g =
    same_set one other (f.is_tight.is_cut.one_each ∙ sym g.is_tight.is_cut.one_each)
    (g.contains one f.is_tight) (f.contains other g.is_tight)

-- tightness by sums is tightness by the bound
pub tight_bound : TightMeansBound
tight_bound b month supply delivered r cut = (
  (λ t. (t.is_cut, omega (arith, ints, t.tight))),
  λ h. record { is_cut = h.0; tight = omega (arith, ints, h.1) },
)

pub cuts_let_nobody_get_more : CutsLetNobodyGetMore
cuts_let_nobody_get_more b series records history i m at q plan r l serves =
    gives_most b (carry_of b m.month) m.supply m.want m.delivered q r l plan
    (met_or_cut b series (take i records) m (history.each i m at) r l) serves.each
