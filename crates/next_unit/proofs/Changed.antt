-- Plans with one more unit for a right, or with as much for all, by a unit that was moved.
use Rattle.std.proofs.Common.{◌≡◌, ◌≢◌, ℕ, ◌+◌, ◌-◌, ◌<◌, ◌≤◌, min, Bool, true, false, refl, sym, ◌∙◌, ap, arith, subst}
use Rattle.std.proofs.Common.{List, length, inl, inr}
use Rattle.std.proofs.lemmas.Bool.{and_from, both_ways, eq-eqb}
use Rattle.std.proofs.lemmas.Bool.Decides.{eqb_tells}
use Rattle.std.proofs.lemmas.List.{get_or-set_same, get_or-set_other, length-set}
use Rattle.std.specs.Prelude.{◌&&◌, ◌==◌, if◌then◌else◌, slice_index, Some, None, Option}
use Rattle.finite_sums.specs.Sums.{when}
use Rattle.finite_sums.proofs.Totals.{total_change, term_le_greatest}
use Rattle.water_model.specs.Basin.{instream_link, taking_node, takes_at, is_on_link, is_at, is_senior, is_outlet}
use Rattle.water_model.specs.Plans.{IsFeasible, delivery, delivery_by_link, taken_at, IsPlan, carry_of}
use Rattle.water_model.specs.History.{IsShort}
use Rattle.duality.specs.Laws.{ServesSeniors}
use Rattle.water_model.specs.declared.types.Basin.{Basin}
use Rattle.water_model.specs.declared.types.MonthRecord.{MonthRecord}
use Rattle.water_model.specs.declared.types.Plan.{Plan}
use Rattle.duality.proofs.Duality.{delivery_by_take}
use Rattle.water_model.proofs.Seniority.{not_senior_to_itself}
use Rattle.plan_residual.specs.Residual.{HasPlan}
use Rattle.next_unit.specs.Core.{one_more}
use Rattle.next_unit.proofs.Pushes.{IsMoved, one_less, set_each, not_moved}
use Rattle.next_unit.proofs.Leads.{HasGoneOut, RiversCanRise, numbers_of, send_down}

-- with these carries and supplies, a plan with one more unit for a right
pub record HelpsBy (b : Basin) (m : MonthRecord) (carry : ℕ → ℕ) (supply : List ℕ) (r : ℕ) : Type 0 where
  pub plan : Plan
  pub is_plan : IsFeasible b carry supply m.want plan
  pub serves : ServesSeniors b m.delivered m.want plan r
  pub more : delivery b m.want plan r ≡ slice_index m.delivered r + 1

-- a list with one more, and one less, at an index
pub one_more_at : (xs : List ℕ) (n k : ℕ) → n < length xs →
    slice_index (one_more xs n) k ≡ slice_index xs k + when (n == k) 1
one_more_at xs n k l = elim (eqb_tells n k) [
  | inl same ↦ subst (λ j. slice_index (one_more xs n) j ≡ slice_index xs j + when (n == j) 1) same.1
      (get_or-set_same xs n (slice_index xs n + 1) 0 l ∙ ap (λ t. slice_index xs n + when t 1) (sym (eq-eqb n n refl)))
  | inr other ↦ omega (
    arith,
    get_or-set_other xs n k (slice_index xs n + 1) 0 (λ e. other.1 (sym e)),
    ap (λ t. when t 1) other.0,
  )
]

pub one_less_at : (xs : List ℕ) (n k : ℕ) → n < length xs → 0 < slice_index xs n →
    slice_index (one_less xs n) k + when (n == k) 1 ≡ slice_index xs k
one_less_at xs n k l some = elim (eqb_tells n k) [
  | inl same ↦ subst (λ j. slice_index (one_less xs n) j + when (n == j) 1 ≡ slice_index xs j) same.1
      (omega (arith, some, get_or-set_same xs n (slice_index xs n - 1) 0 l, ap (λ t. when t 1) (eq-eqb n n refl)))
  | inr other ↦ omega (
    arith,
    get_or-set_other xs n k (slice_index xs n - 1) 0 (λ e. other.1 (sym e)),
    ap (λ t. when t 1) other.0,
  )
]

-- what is taken at a node where one right takes another amount
pub taken_change : (b : Basin) (take other : List ℕ) (r at n : ℕ) → r < length b.rights → taking_node b r ≡ Some at →
    ((s : ℕ) → s ≢ r → slice_index other s ≡ slice_index take s) →
    taken_at b take n + (if at == n then slice_index other r else 0)
    ≡ taken_at b other n + (if at == n then slice_index take r else 0)
taken_change b take other r at n l is same =
    subst (λ t. taken_at b take n + (if t then slice_index other r else 0)
    ≡ taken_at b other n + (if t then slice_index take r else 0)) (ap (λ o. is_at o n) is)
    (total_change (length b.rights) r (λ s. if takes_at b s n then slice_index take s else 0)
    (λ s. if takes_at b s n then slice_index other s else 0) l
    (λ s k ne. ap (λ x. if takes_at b s n then x else 0) (sym (same s ne))))

-- where nothing is taken from a right's seniors
serves : (b : Basin) (m : MonthRecord) (r : ℕ) (carry : ℕ → ℕ) (own from to : ℕ) (rank : ℕ → ℕ) (q : Plan) →
    HasPlan b m → IsMoved b m r carry own from to rank q.flow →
    ((s : ℕ) → s < length b.rights → is_senior b s r ≡ true → slice_index q.take s ≡ slice_index m.plan.take s) →
    ServesSeniors b m.delivered m.want q r
serves b m r carry own from to rank q given now same = record {
  each = λ s l senior. of_link s l senior (instream_link b s) refl;
}
  where
    of_link : (s : ℕ) → s < length b.rights → is_senior b s r ≡ true → (o : Option ℕ) → instream_link b s ≡ o →
        slice_index m.delivered s ≤ delivery b m.want q s
    of_link s l senior None is =
        omega (
          arith,
          given.delivered.each s l,
          delivery_by_take b m.want m.plan s is,
          delivery_by_take b m.want q s is,
          same s l senior,
        )
    of_link s l senior (Some e) is =
        let kept = now.kept e in
        let on : is_on_link b s e && is_senior b s r ≡ true =
        and_from _ _ (ap (λ o. is_at o e) is ∙ eq-eqb e e refl) senior in
        let most = term_le_greatest (length b.rights) (λ s. is_on_link b s e && is_senior b s r)
        (λ s. slice_index m.delivered s) s l on in
        let was : slice_index m.delivered s ≡ min (slice_index m.want s) (slice_index m.plan.flow e) =
        given.delivered.each s l ∙ ap (λ o. delivery_by_link o (slice_index m.want s) m.plan s) is in
        let will : delivery b m.want q s ≡ min (slice_index m.want s) (slice_index q.flow e) =
        ap (λ o. delivery_by_link o (slice_index m.want s) q s) is in
        omega (arith, kept, most, was, will)

-- takes and outflows that leave one more unit at a node, by the supply or by what a junior or an outlet had
pub record IsSource (b : Basin) (m : MonthRecord) (r : ℕ) (supply take out : List ℕ) (node : ℕ) : Type 0 where
  pub take_len : length take ≡ length b.rights
  pub out_len : length out ≡ length b.nodes
  pub takes : (s : ℕ) → s < length b.rights → slice_index take s ≤ slice_index m.plan.take s
  pub seniors : (s : ℕ) → s < length b.rights → is_senior b s r ≡ true → slice_index take s ≡ slice_index m.plan.take s
  pub own : slice_index take r ≡ slice_index m.plan.take r
  pub outs : (n : ℕ) → n < length b.nodes → slice_index out n ≤ slice_index m.plan.out n
  pub sums : (n : ℕ) → n < length b.nodes →
      slice_index m.supply n + taken_at b take n + slice_index out n + when (node == n) 1
      ≡ slice_index supply n + taken_at b m.plan.take n + slice_index m.plan.out n

-- the unit came to the node where the right takes
pub taken_there : (b : Basin) (m : MonthRecord) (r : ℕ) (carry : ℕ → ℕ) (supply take out : List ℕ) (own node to : ℕ)
    (rank : ℕ → ℕ) (flow : List ℕ) → HasPlan b m → r < length b.rights → IsShort m r → instream_link b r ≡ None →
    taking_node b r ≡ Some to → IsSource b m r supply take out node → IsMoved b m r carry own node to rank flow →
    HelpsBy b m carry supply r
taken_there b m r carry supply take out own node to rank flow given l short no_link at source now = record {
  plan = q;
  is_plan = record {
    flow_len = now.size;
    take_len = length-set take r (slice_index take r + 1) ∙ source.take_len;
    out_len = source.out_len;
    carries = now.carries;
    wants = set_each (λ s x. s < length b.rights → x ≤ slice_index m.want s) take r (slice_index take r + 1) 0
        (omega (arith, l, source.take_len)) (λ k. omega (arith, short, got, source.own))
        (λ s ne k. omega (arith, given.plan.wants s k, source.takes s k));
    instream = set_each (λ s x. s < length b.rights → taking_node b s ≡ None → x ≡ 0) take r (slice_index take r + 1) 0
        (omega (arith, l, source.take_len)) (λ k none. absurd (not_both (sym none ∙ at)))
        (λ s ne k none. omega (arith, given.plan.instream s k none, source.takes s k));
    outlets = λ n k no. omega (arith, given.plan.outlets n k no, source.outs n k);
    balance = λ n k. omega (arith, given.plan.balance n k, now.moved n, source.sums n k, taken n);
  };
  serves = serves b m r carry own node to rank q given now
      (λ s k senior. other s (not_itself s senior) ∙ source.seniors s k senior);
  more = omega (arith, here, got, source.own, delivery_by_take b m.want q r no_link);
}
  where
    q : Plan
    q = record { flow = flow; take = one_more take r; out = out }

    here : slice_index q.take r ≡ slice_index take r + 1
    here = get_or-set_same take r (slice_index take r + 1) 0 (omega (arith, l, source.take_len))

    other : (s : ℕ) → s ≢ r → slice_index q.take s ≡ slice_index take s
    other s ne = get_or-set_other take r s (slice_index take r + 1) 0 ne

    not_both : None ≡ Some to → ⊥
    not_both h = cc

    not_itself : (s : ℕ) → is_senior b s r ≡ true → s ≢ r
    not_itself s senior e = both_ways _ (not_senior_to_itself b r) (ap (λ k. is_senior b k r) (sym e) ∙ senior)

    got : slice_index m.delivered r ≡ slice_index m.plan.take r
    got = given.delivered.each r l ∙ delivery_by_take b m.want m.plan r no_link

    by_test : (t : Bool) (x y z w : ℕ) → z ≡ w + 1 → x + (if t then z else 0) ≡ y + (if t then w else 0) →
        y ≡ x + when t 1
    by_test true x y z w e h = omega arith
    by_test false x y z w e h = omega arith

    taken : (n : ℕ) → taken_at b q.take n ≡ taken_at b take n + when (to == n) 1
    taken n = by_test (to == n) (taken_at b take n) (taken_at b q.take n) (slice_index q.take r) (slice_index take r)
        here (taken_change b take q.take r to n l at other)

-- what an instream right is delivered where its link carries one more unit
own_more : (b : Basin) (m : MonthRecord) (r e : ℕ) (q : Plan) → HasPlan b m → r < length b.rights → IsShort m r →
    instream_link b r ≡ Some e → slice_index q.flow e ≡ slice_index m.plan.flow e + 1 →
    delivery b m.want q r ≡ slice_index m.delivered r + 1
own_more b m r e q given l short is more =
    by_min (slice_index m.want r) (slice_index m.plan.flow e) (slice_index q.flow e) (slice_index m.delivered r)
    (delivery b m.want q r) short
    (given.delivered.each r l ∙ ap (λ o. delivery_by_link o (slice_index m.want r) m.plan r) is)
    (ap (λ o. delivery_by_link o (slice_index m.want r) q r) is) more
  where
    by_min : (w f g d x : ℕ) → d < w → d ≡ min w f → x ≡ min w g → g ≡ f + 1 → x ≡ d + 1
    by_min w f g d x s h i k = omega arith

-- the unit came over the right's link, and to an outlet
pub let_out_there : (b : Basin) (m : MonthRecord) (r e : ℕ) (carry : ℕ → ℕ) (supply take out : List ℕ) (node to : ℕ)
    (rank : ℕ → ℕ) (flow : List ℕ) → HasPlan b m → r < length b.rights → IsShort m r → instream_link b r ≡ Some e →
    to < length b.nodes → is_outlet b to ≡ true → IsSource b m r supply take out node →
    IsMoved b m r carry (slice_index m.plan.flow e + 1) node to rank flow → HelpsBy b m carry supply r
let_out_there b m r e carry supply take out node to rank flow given l short is there outlet source now = record {
  plan = q;
  is_plan = record {
    flow_len = now.size;
    take_len = source.take_len;
    out_len = length-set out to (slice_index out to + 1) ∙ source.out_len;
    carries = now.carries;
    wants = λ s k. omega (arith, given.plan.wants s k, source.takes s k);
    instream = λ s k none. omega (arith, given.plan.instream s k none, source.takes s k);
    outlets = λ n k no. omega (
      arith,
      get_or-set_other out to n (slice_index out to + 1) 0 (λ same.
          both_ways _ (ap (is_outlet b) (sym same) ∙ no) outlet),
      given.plan.outlets n k no,
      source.outs n k,
    );
    balance = λ n k. omega (
      arith,
      given.plan.balance n k,
      now.moved n,
      source.sums n k,
      one_more_at out to n (omega (arith, there, source.out_len)),
    );
  };
  serves = serves b m r carry (slice_index m.plan.flow e + 1) node to rank q given now source.seniors;
  more = own_more b m r e q given l short is (now.own e is);
}
  where
    q : Plan
    q = record { flow = flow; take = take; out = one_more out to }

-- the unit went round, over the right's link
pub went_round : (b : Basin) (m : MonthRecord) (r e : ℕ) (carry : ℕ → ℕ) (node : ℕ) (rank : ℕ → ℕ) (flow : List ℕ) →
    HasPlan b m → r < length b.rights → IsShort m r → instream_link b r ≡ Some e →
    IsMoved b m r carry (slice_index m.plan.flow e + 1) node node rank flow → HelpsBy b m carry m.supply r
went_round b m r e carry node rank flow given l short is now = record {
  plan = q;
  is_plan = record {
    flow_len = now.size;
    take_len = given.plan.take_len;
    out_len = given.plan.out_len;
    carries = now.carries;
    wants = given.plan.wants;
    instream = given.plan.instream;
    outlets = given.plan.outlets;
    balance = λ n k. omega (arith, given.plan.balance n k, now.moved n);
  };
  serves = serves b m r carry (slice_index m.plan.flow e + 1) node node rank q given now (λ s k senior. refl);
  more = own_more b m r e q given l short is (now.own e is);
}
  where
    q : Plan
    q = record { flow = flow; take = m.plan.take; out = m.plan.out }

-- a plan of the month with one more unit of supply that delivers at least the same to each right
pub record ServesAll (b : Basin) (m : MonthRecord) (supply : List ℕ) : Type 0 where
  pub plan : Plan
  pub is_plan : IsPlan b m.month supply m.want plan
  pub serves : (r : ℕ) → r < length b.rights → slice_index m.delivered r ≤ delivery b m.want plan r

by_sent : (b : Basin) (m : MonthRecord) (node : ℕ) (rank : ℕ → ℕ) → HasPlan b m → node < length b.nodes →
    HasGoneOut b m (slice_index m.plan.flow) (carry_of b m.month) (λ e. ⊥) 0 node rank →
    ServesAll b m (one_more m.supply node)
by_sent b m node rank given l out = record {
  plan = q;
  is_plan = record {
    flow_len = out.moved.size;
    take_len = given.plan.take_len;
    out_len = length-set m.plan.out out.node (slice_index m.plan.out out.node + 1) ∙ given.plan.out_len;
    carries = out.moved.carries;
    wants = given.plan.wants;
    instream = given.plan.instream;
    outlets = λ n k no. omega (
      arith,
      get_or-set_other m.plan.out out.node n (slice_index m.plan.out out.node + 1) 0 (λ same.
          both_ways _ (ap (is_outlet b) (sym same) ∙ no) out.outlet),
      given.plan.outlets n k no,
    );
    balance = λ n k. omega (
      arith,
      given.plan.balance n k,
      out.moved.moved n,
      one_more_at m.supply node n (omega (arith, l, given.fits.supply)),
      one_more_at m.plan.out out.node n (omega (arith, out.below, given.plan.out_len)),
    );
  };
  serves = λ r k. omega (arith, given.delivered.each r k, of_link (instream_link b r) (slice_index m.want r) r);
}
  where
    q : Plan
    q = record { flow = out.flow; take = m.plan.take; out = one_more m.plan.out out.node }

    of_link : (o : Option ℕ) (want r : ℕ) → delivery_by_link o want m.plan r ≤ delivery_by_link o want q r
    of_link None want r = omega arith
    of_link (Some e) want r = by_min want (slice_index m.plan.flow e) (slice_index out.flow e) (out.moved.kept e)
      where
        by_min : (w x y : ℕ) → x ≤ y → min w x ≤ min w y
        by_min w x y h = omega arith

pub sent_down : (b : Basin) (m : MonthRecord) (node : ℕ) → HasPlan b m → RiversCanRise b m → node < length b.nodes →
    ServesAll b m (one_more m.supply node)
sent_down b m node given room l =
    let numbers = numbers_of b given.valid in
    let rank : ℕ → ℕ = λ n. numbers.most - numbers.number n in
    by_sent b m node rank given l
    (send_down b m (slice_index m.plan.flow) (carry_of b m.month) (λ e. ⊥) 0 node rank given room (λ e. omega arith)
    numbers (λ n. true) (λ e k rise h. refl) (λ n h. refl) (λ e own h. own) node m.plan.flow l refl
    (not_moved b m (slice_index m.plan.flow) (carry_of b m.month) (λ e. ⊥) 0 node rank given (λ e. omega arith)
    (λ e. omega arith) (λ e own. absurd own)))
