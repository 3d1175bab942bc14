-- Weak duality: what a cut allows, over any plan.
use Rattle.std.proofs.Common.{◌≡◌, ℕ, ◌+◌, ◌<◌, ◌≤◌, Bool, true, false, refl, ap, arith, List, length}
use Rattle.std.proofs.Math.Nat.{le_of_eq}
use Rattle.std.proofs.lemmas.Bool.{and_parts, and_from}
use Rattle.std.proofs.lemmas.Bool.Decides.{nat_tests}
use Rattle.std.specs.Prelude.{◌==◌, slice_index, slice_get, ◌&&◌, not, Option, Some, None, nat_lt, unwrap_or}
use Rattle.std.specs.Prelude.{option_map}
use Rattle.finite_sums.specs.Sums.{total_where}
use Rattle.water_model.specs.Lookups.{has}
use Rattle.water_model.specs.Basin.{taking_node, taking_node_of_kind, instream_link, link_of_kind, is_at, is_on_link}
use Rattle.water_model.specs.Basin.{is_senior}
use Rattle.water_model.specs.Plans.{IsFeasible, delivery, delivery_by_link}
use Rattle.water_model.specs.Cuts.{enters, leaves, takes_within, node_within, kept_on, supply_within, cut_capacity}
use Rattle.water_model.specs.Cuts.{cut_kept, IsCut, separates}
use Rattle.water_model.specs.declared.types.Basin.{Basin}
use Rattle.water_model.specs.declared.types.Right.{Right}
use Rattle.water_model.specs.declared.types.RightKind.{RightKind}
use Rattle.water_model.specs.declared.types.RightKind.TheVariants.{Diversion, Instream, Zone}
use Rattle.water_model.specs.declared.types.Plan.{Plan}
use Rattle.finite_sums.proofs.Totals.{total_where_le, term_le_total_where, greatest_where_le}
use Rattle.water_model.proofs.Sets.{total_crossing}
use Rattle.duality.proofs.CutBalance.{cut_balance}
use Rattle.water_model.proofs.Seniority.{not_senior_to_itself}

-- a right that takes at a node is on no link
pub taker_on_no_link : (b : Basin) (p : Option ℕ → Bool) (r : ℕ) → p None ≡ false → p (taking_node b r) ≡ true →
    instream_link b r ≡ None
taker_on_no_link b p r none = of_get (slice_get b.rights r)
  where
    of_kind : (k : RightKind) → p (taking_node_of_kind b k) ≡ true → link_of_kind k ≡ None
    of_kind (Diversion node) h = refl
    of_kind (Instream link) h = cc
    of_kind (Zone reservoir level) h = refl

    of_get : (o : Option Right) →
        p (unwrap_or (option_map (λ x. taking_node_of_kind b x.kind) o) None) ≡ true →
        unwrap_or (option_map (λ x. link_of_kind x.kind) o) None ≡ None
    of_get None h = refl
    of_get (Some x) h = of_kind x.kind h

pub taking_on_no_link : (b : Basin) (cut : List Bool) (r : ℕ) → takes_within b cut r ≡ true → instream_link b r ≡ None
taking_on_no_link b cut r h = taker_on_no_link b (λ o. node_within o cut) r refl h

-- what a right is delivered is at most its take, or the flow on its link
pub delivery_by_take : (b : Basin) (want : List ℕ) (q : Plan) (s : ℕ) → instream_link b s ≡ None →
    delivery b want q s ≡ slice_index q.take s
delivery_by_take b want q s h = ap (λ o. delivery_by_link o (slice_index want s) q s) h

pub delivery_le_flow : (b : Basin) (want : List ℕ) (q : Plan) (s e : ℕ) → is_on_link b s e ≡ true →
    delivery b want q s ≤ slice_index q.flow e
delivery_le_flow b want q s e h = of_link (instream_link b s) (slice_index want s) e h
  where
    of_link : (o : Option ℕ) (w e : ℕ) → is_at o e ≡ true → delivery_by_link o w q s ≤ slice_index q.flow e
    of_link None w e h = cc
    of_link (Some link) w e h =
        let same : link ≡ e = grind (arith, nat_tests) in
        let flows : slice_index q.flow link ≡ slice_index q.flow e = ap (slice_index q.flow) same in
        omega arith

-- the right's own delivery leaves the cut
own_part : (b : Basin) (want : List ℕ) (q : Plan) (r : ℕ) (cut : List Bool) → r < length b.rights → IsCut b r cut →
    delivery b want q r ≤ total_where (length b.links) (λ e. leaves b cut e && is_on_link b r e)
    (λ e. slice_index q.flow e)
    + total_where (length b.rights) (λ s. takes_within b cut s && s == r) (λ s. slice_index q.take s)
own_part b want q r cut l is_cut =
    of_link (instream_link b r) refl is_cut.separates
  where
    of_link : (o : Option ℕ) → instream_link b r ≡ o → separates b (taking_node b r) o cut ≡ true →
        delivery_by_link o (slice_index want r) q r
        ≤ total_where (length b.links) (λ e. leaves b cut e && is_on_link b r e) (λ e. slice_index q.flow e)
        + total_where (length b.rights) (λ s. takes_within b cut s && s == r) (λ s. slice_index q.take s)
    of_link None h within =
        omega (
          arith,
          term_le_total_where (length b.rights) (λ s. takes_within b cut s && s == r) (λ s. slice_index q.take s) r l
              (and_from _ _ within (grind (arith, nat_tests))),
        )
    of_link (Some link) h apart =
        let crosses = and_parts (nat_lt link (length b.links)) (leaves b cut link) apart in
        let on_link : is_on_link b r link ≡ true = rw h (grind (arith, nat_tests)) in
        omega (
          arith,
          term_le_total_where (length b.links) (λ e. leaves b cut e && is_on_link b r e) (λ e. slice_index q.flow e)
              link (grind (arith, nat_tests)) (and_from _ _ crosses.1 on_link),
        )

-- what a cut allows: the right's delivery, what is kept for its seniors, the takes of its juniors and the outflow come
-- in
pub cut_slack : (b : Basin) (carry : ℕ → ℕ) (supply delivered : List ℕ) (r : ℕ) (cut : List Bool)
    (supply' want' : List ℕ) (q : Plan) → r < length b.rights → IsCut b r cut → IsFeasible b carry supply' want' q →
    ((n : ℕ) → n < length b.nodes → has cut n ≡ true → slice_index supply' n ≡ slice_index supply n) →
    ((s : ℕ) → s < length b.rights → is_senior b s r ≡ true → slice_index delivered s ≤ delivery b want' q s) →
    delivery b want' q r + cut_kept b delivered r cut
    + total_where (length b.rights) (λ s. (takes_within b cut s && not (s == r)) && not (is_senior b s r))
    (λ s. slice_index q.take s)
    + supply_within b q.out cut ≤ cut_capacity b carry supply cut
cut_slack b carry supply delivered r cut supply' want' q l is_cut plan agree keeps =
    omega (
      arith,
      cut_balance b carry supply' want' q cut plan is_cut.one_each,
      own_part b want' q r cut l is_cut,
      total_crossing (length b.links) (λ e. leaves b cut e) (λ e. is_on_link b r e) (λ e. slice_index q.flow e),
      total_where_le _ _ _ _ _ kept,
      total_crossing (length b.rights) (λ s. takes_within b cut s) (λ s. s == r) (λ s. slice_index q.take s),
      total_crossing (length b.rights) (λ s. takes_within b cut s && not (s == r)) (λ s. is_senior b s r)
          (λ s. slice_index q.take s),
      total_where_le _ _ _ _ _ taken,
      total_where_le (length b.nodes) (λ n. has cut n) (λ n. has cut n) (λ n. slice_index supply' n)
          (λ n. slice_index supply n) (λ n l h. (h, le_of_eq (agree n l h))),
      total_where_le (length b.links) (λ e. enters b cut e) (λ e. enters b cut e) (λ e. slice_index q.flow e) carry
          (λ e l h. (h, plan.carries e l)),
    )
  where
    -- the links that leave carry what is kept on them, besides the right's own flow
    kept : (e : ℕ) → e < length b.links → leaves b cut e && not (is_on_link b r e) ≡ true →
        (leaves b cut e && not (is_on_link b r e) ≡ true) × (kept_on b delivered r e ≤ slice_index q.flow e)
    kept e l h = (h, greatest_where_le _ _ _ _ each)
      where
        each : (s : ℕ) → s < length b.rights → is_on_link b s e && is_senior b s r ≡ true →
            slice_index delivered s ≤ slice_index q.flow e
        each s k on =
            let tests = and_parts (is_on_link b s e) (is_senior b s r) on in
            omega (arith, delivery_le_flow b want' q s e tests.0, keeps s k tests.1)

    -- the takes within are those of the seniors, besides the right's own and those of the juniors
    taken : (s : ℕ) → s < length b.rights → takes_within b cut s && is_senior b s r ≡ true →
        ((takes_within b cut s && not (s == r)) && is_senior b s r ≡ true) ×
        (slice_index delivered s ≤ slice_index q.take s)
    taken s k within =
        let tests = and_parts (takes_within b cut s) (is_senior b s r) within in
        let take = delivery_by_take b want' q s (taking_on_no_link b cut s tests.0) in
        (grind (arith, nat_tests, not_senior_to_itself b r), omega (arith, keeps s k tests.1))
