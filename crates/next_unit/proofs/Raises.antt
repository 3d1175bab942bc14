-- One more unit of carry on a link that leads from outside the reach into the core is one more unit for the right.
use Rattle.std.proofs.Common.{◌≡◌, ◌≢◌, ℕ, ◌+◌, ◌-◌, ◌<◌, ◌≤◌, Bool, true, false, refl, sym, ◌∙◌, ap, arith, subst}
use Rattle.std.proofs.Common.{List, length, inl, inr}
use Rattle.std.proofs.lemmas.Bool.{and_from, and_parts, and_left, both_ways, cases_Bool, eq-eqb}
use Rattle.std.proofs.lemmas.Bool.{false_from_ne_true, ltb-true, not-true, not_from_false}
use Rattle.std.proofs.lemmas.List.{get_or-set_same, get_or-set_other, length-set}
use Rattle.std.specs.Prelude.{◌&&◌, ◌==◌, not, if◌then◌else◌, slice_index, ◌⊎◌, Some, None, Option}
use Rattle.finite_sums.specs.Sums.{when}
use Rattle.water_model.specs.Lookups.{has}
use Rattle.water_model.specs.Basin.{head_of, tail_of, instream_link, taking_node, is_senior}
use Rattle.water_model.specs.Plans.{carry_of, taken_at}
use Rattle.water_model.specs.Cuts.{kept_on, node_within, takes_within, IsTight}
use Rattle.water_model.specs.History.{IsShort}
use Rattle.water_text.specs.declared.month.Month.{Month}
use Rattle.water_model.specs.declared.types.Basin.{Basin}
use Rattle.water_model.specs.declared.types.MonthRecord.{MonthRecord}
use Rattle.water_model.proofs.Valid.{ends}
use Rattle.water_model.proofs.Seniority.{not_senior_to_itself, senior_trans}
use Rattle.water_model.proofs.Sets.{has_below}
use Rattle.plan_residual.specs.Residual.{HasPlan, IsClosed, can_rise}
use Rattle.plan_residual.specs.Slack.{others}
use Rattle.plan_residual.proofs.Closed.{in_others, not_in_set, tight_cuts_hold_none_reached}
use Rattle.plan_residual.specs.Core.{node_by_link}
use Rattle.next_unit.specs.Core.{HasRoomDown, one_more, raised_carry}
use Rattle.next_unit.specs.Laws.{CarryIntoCoreHelps, CarryHelpsRight}
use Rattle.next_unit.proofs.Least.{tight_closed, cut_has_node}
use Rattle.plan_residual.proofs.Upstream.{HasRanks, ranks_to, ranked_within, room_by, start_by, end_by}
use Rattle.next_unit.proofs.Pushes.{IsMoved, unmoved, move_forward, one_less, own_stays}
use Rattle.next_unit.proofs.Leads.{HasGone, HasNumbers, go_to, first_over, go_down, numbers_of, own_is, own_none}
use Rattle.next_unit.proofs.Changed.{HelpsBy, IsSource, one_less_at, taken_change, taken_there, let_out_there}
use Rattle.next_unit.proofs.Changed.{went_round}
use Rattle.next_unit.proofs.Helps.{rank_by, rank_low, rank_rest, rank_high, crossing}
use Rattle.next_unit.proofs.Sources.{OwnIn, OutletIn, JuniorIn, source_in}

-- the carries are no less, and on the link one more
wide : (b : Basin) (month : Month) (link e : ℕ) → carry_of b month e ≤ raised_carry b month link e
wide b month link e = omega arith

raised_there : (b : Basin) (month : Month) (link : ℕ) → raised_carry b month link link ≡ carry_of b month link + 1
raised_there b month link = ap (λ t. carry_of b month link + when t 1) (eq-eqb link link refl)

-- a node outside the reach from which the link's tail is reached
abbrev beyond : List Bool → List Bool → ℕ → Bool
beyond up reach n = has up n && not (has reach n)

-- the link leads from outside the reach into the core, which is within the reach
record IsInto (b : Basin) (m : MonthRecord) (r target link : ℕ) (reach : List Bool) (core : HasRanks b m r target)
    (up : HasRanks b m r (tail_of b link)) : Type 0 where
  below : link < length b.links
  tail : has reach (tail_of b link) ≡ false
  head : has core.set (head_of b link) ≡ true
  within : (n : ℕ) → has core.set n ≡ true → has reach n ≡ true
  left : IsClosed b m r (others reach)
  one_each : length reach ≡ length b.nodes
  own : (e : ℕ) → instream_link b r ≡ Some e → tail_of b e ≡ target

-- a source outside the reach from which the link's tail is reached
record StartsAt (b : Basin) (m : MonthRecord) (r : ℕ) (up reach : List Bool) : Type 0 where
  node : ℕ
  take : List ℕ
  out : List ℕ
  source : IsSource b m r m.supply take out node
  here : beyond up reach node ≡ true

starts_beyond : (up reach : List Bool) (n : ℕ) → has up n ≡ true → has (others reach) n ≡ true → beyond up reach n ≡
    true
starts_beyond up reach n h i = and_from _ _ h (not_from_false _ (not_in_set reach n i))

outlet_starts : (b : Basin) (m : MonthRecord) (r : ℕ) (up reach : List Bool) → HasPlan b m →
    IsClosed b m r (others reach) → OutletIn m up (length b.nodes) → StartsAt b m r up reach
outlet_starts b m r up reach given left o = record {
  node = o.node;
  take = m.plan.take;
  out = one_less m.plan.out o.node;
  source = record {
    take_len = given.plan.take_len;
    out_len = length-set m.plan.out o.node (slice_index m.plan.out o.node - 1) ∙ given.plan.out_len;
    takes = λ s k. omega arith;
    seniors = λ s k senior. refl;
    own = refl;
    outs = λ n k. omega (arith, less n);
    sums = λ n k. omega (arith, less n);
  };
  here = starts_beyond up reach o.node o.inside (left.outlets o.node o.below o.some);
}
  where
    less : (n : ℕ) → slice_index (one_less m.plan.out o.node) n + when (o.node == n) 1 ≡ slice_index m.plan.out n
    less n = one_less_at m.plan.out o.node n (omega (arith, o.below, given.plan.out_len)) o.some

-- the node at which a junior takes
record TakesAt (b : Basin) (s : ℕ) (up reach : List Bool) : Type 0 where
  node : ℕ
  at : taking_node b s ≡ Some node
  inside : has up node ≡ true
  outside : has (others reach) node ≡ true

takes_at_node : (b : Basin) (s : ℕ) (up reach : List Bool) → takes_within b up s ≡ true →
    takes_within b (others reach) s ≡ true → TakesAt b s up reach
takes_at_node b s up reach h i = of_node (taking_node b s) refl h i
  where
    of_node : (o : Option ℕ) → taking_node b s ≡ o → node_within o up ≡ true → node_within o (others reach) ≡ true →
        TakesAt b s up reach
    of_node None is h i = cc
    of_node (Some n) is h i = record { node = n; at = is; inside = h; outside = i }

junior_starts : (b : Basin) (m : MonthRecord) (r : ℕ) (up reach : List Bool) → HasPlan b m →
    IsClosed b m r (others reach) → JuniorIn b m r up → StartsAt b m r up reach
junior_starts b m r up reach given left j =
    let at = takes_at_node b j.right up reach j.inside (left.juniors j.right j.below j.junior j.some) in
    record {
      node = at.node;
      take = one_less m.plan.take j.right;
      out = m.plan.out;
      source = record {
        take_len = length-set m.plan.take j.right (slice_index m.plan.take j.right - 1) ∙ given.plan.take_len;
        out_len = given.plan.out_len;
        takes = λ s k. omega (arith, less s);
        seniors = λ s k senior. other s (λ same. no_circle (ap (λ i. is_senior b i r) (sym same) ∙ senior));
        own = other r (λ same. both_ways _ (not_senior_to_itself b r) (ap (is_senior b r) same ∙ j.junior));
        outs = λ n k. omega arith;
        sums = λ n k. omega (arith, taken at.node at.at n);
      };
      here = starts_beyond up reach at.node at.inside at.outside;
    }
  where
    less : (s : ℕ) → slice_index (one_less m.plan.take j.right) s + when (j.right == s) 1 ≡ slice_index m.plan.take s
    less s = one_less_at m.plan.take j.right s (omega (arith, j.below, given.plan.take_len)) j.some

    other : (s : ℕ) → s ≢ j.right → slice_index (one_less m.plan.take j.right) s ≡ slice_index m.plan.take s
    other s ne = get_or-set_other m.plan.take j.right s (slice_index m.plan.take j.right - 1) 0 ne

    no_circle : is_senior b j.right r ≡ true → ⊥
    no_circle h = both_ways _ (not_senior_to_itself b r) (senior_trans b.rights r j.right r j.junior h)

    by_test : (t : Bool) (x y z w : ℕ) → w ≡ z + 1 → x + (if t then z else 0) ≡ y + (if t then w else 0) →
        y + when t 1 ≡ x
    by_test true x y z w e h = omega arith
    by_test false x y z w e h = omega arith

    taken : (node : ℕ) → taking_node b j.right ≡ Some node → (n : ℕ) →
        taken_at b (one_less m.plan.take j.right) n + when (node == n) 1 ≡ taken_at b m.plan.take n
    taken node at n = by_test (node == n) (taken_at b m.plan.take n) (taken_at b (one_less m.plan.take j.right) n)
        (slice_index (one_less m.plan.take j.right) j.right) (slice_index m.plan.take j.right)
        (omega (
          arith,
          j.some,
          get_or-set_same m.plan.take j.right (slice_index m.plan.take j.right - 1) 0
              (omega (arith, j.below, given.plan.take_len)),
        )) (taken_change b m.plan.take (one_less m.plan.take j.right) j.right node n j.below at other)

module _ (b : Basin) (m : MonthRecord) (r target link : ℕ) (reach : List Bool) (core : HasRanks b m r target)
    (up : HasRanks b m r (tail_of b link)) (numbers : HasNumbers b) where
  -- ranks along a way to the link's tail outside the reach, and from its head to the right's node
  abbrev rank_in : ℕ → ℕ
  rank_in =
      rank_by core.set (beyond up.set reach) core.ranked.rank up.ranked.rank numbers.number numbers.most core.ranked.top

  -- a unit outside the reach goes over the link to the right's node
  go_in : (own from node : ℕ) (flow : List ℕ) → HasPlan b m →
      IsInto b m r target link reach core up → beyond up.set reach node ≡ true →
      IsMoved b m r (raised_carry b m.month link) own from node rank_in flow →
      HasGone b m r (raised_carry b m.month link) own from target rank_in
  go_in own from node flow given into here now =
      let carry : ℕ → ℕ = raised_carry b m.month link in
      let high : ℕ → Bool = beyond up.set reach in
      let most : ℕ = numbers.most in
      let top : ℕ = core.ranked.top in
      let low = rank_low core.set high core.ranked.rank up.ranked.rank numbers.number most top in
      let first : HasGone b m r carry own from (tail_of b link) rank_in =
      go_to b m r (tail_of b link) up.set up.ranked high rank_in (most + 1 + top) carry own from
      (λ n h. (and_parts (has up.set n) _ h).0) stays at_high own_tail (wide b m.month link) node flow
      here now in
      let lower : rank_in (head_of b link) < rank_in (tail_of b link) = omega (
        arith,
        low (head_of b link) into.head,
        at_high (tail_of b link) tail_high,
        core.ranked.below (head_of b link) into.head,
      ) in
      let mine : ℕ → Type 0 = λ e. instream_link b r ≡ Some e in
      let least : ℕ → ℕ = kept_on b m.delivered r in
      let old = first.moved.old link into.below off (omega (arith, lower)) in
      let next = move_forward b m least carry mine own from link rank_in first.flow into.below own first.moved
      (omega (arith, old, raised_there b m.month link, given.plan.carries link into.below)) lower
      (own_stays b m least carry mine own from (tail_of b link) link rank_in first.flow into.below first.moved
      (slice_index first.flow link + 1) off) in
      go_to b m r target core.set core.ranked (has core.set) rank_in (most + 1) carry own from (λ n h. h)
      (λ back e k room from to. to) low (λ e is h. into.own e is) (wide b m.month link) (head_of b link)
      (one_more first.flow link) into.head next
    where
      not_core : (n : ℕ) → has reach n ≡ false → has core.set n ≡ false
      not_core n h = false_from_ne_true _ (λ i. both_ways _ h (into.within n i))

      at_high : (n : ℕ) → beyond up.set reach n ≡ true →
          rank_in n ≡ numbers.most + 1 + core.ranked.top + up.ranked.rank n
      at_high n h = rank_high _ _ _ _ _ _ _ n (not_core n (not-true (has reach n) (and_parts (has up.set n) _ h).1)) h

      tail_high : beyond up.set reach (tail_of b link) ≡ true
      tail_high = and_from _ _ up.ranked.node (not_from_false _ into.tail)

      off : instream_link b r ≡ Some link → ⊥
      off is = both_ways _ into.tail (into.within (tail_of b link)
          (ap (has core.set) (into.own link is) ∙ core.ranked.node))

      own_tail : (e : ℕ) → instream_link b r ≡ Some e → beyond up.set reach (tail_of b e) ≡ true →
          tail_of b e ≡ tail_of b link
      own_tail e is h = absurd (both_ways _ (not-true _ (and_parts (has up.set (tail_of b e)) _ h).1)
          (into.within (tail_of b e) (ap (has core.set) (into.own e is) ∙ core.ranked.node)))

      leaves_reach : (back : Bool) (e : ℕ) → e < length b.links → room_by b m r back e ≡ true →
          has reach (start_by b back e) ≡ false → has reach (end_by b back e) ≡ false
      leaves_reach true e l room h = not_in_set reach (tail_of b e) (into.left.backward e l room
          (in_others reach (head_of b e) (omega (arith, into.one_each, (ends b given.valid e l).1)) h))
      leaves_reach false e l room h = not_in_set reach (head_of b e) (into.left.forward e l room
          (in_others reach (tail_of b e) (omega (arith, into.one_each, (ends b given.valid e l).0)) h))

      stays : (back : Bool) (e : ℕ) → e < length b.links → room_by b m r back e ≡ true →
          beyond up.set reach (start_by b back e) ≡ true → has up.set (end_by b back e) ≡ true →
          beyond up.set reach (end_by b back e) ≡ true
      stays back e l room h to = and_from _ _ to (not_from_false _ (leaves_reach back e l room (not-true _
          (and_parts (has up.set (start_by b back e)) _ h).1)))

  -- a right that takes
  taking_raised : HasPlan b m → r < length b.rights → IsShort m r →
      IsInto b m r target link reach core up → StartsAt b m r up.set reach → instream_link b r ≡ None →
      taking_node b r ≡ Some target → HelpsBy b m (raised_carry b m.month link) m.supply r
  taking_raised given l short into start none at =
      let carry : ℕ → ℕ = raised_carry b m.month link in
      let gone : HasGone b m r carry 0 start.node target rank_in =
      go_in 0 start.node start.node m.plan.flow given into start.here
      (unmoved b m r carry 0 start.node rank_in given (wide b m.month link) (λ e is. own_none b r e none is)) in
      taken_there b m r carry m.supply start.take start.out 0 start.node target rank_in gone.flow given l short none at
      start.source gone.moved

-- an instream right whose link's head does not reach the other link's tail
instream_raised : (b : Basin) (m : MonthRecord) (r e link : ℕ) (reach : List Bool)
    (core : HasRanks b m r (tail_of b e)) (up : HasRanks b m r (tail_of b link)) (numbers : HasNumbers b) →
    HasPlan b m → r < length b.rights → IsShort m r → HasRoomDown b m r →
    IsInto b m r (tail_of b e) link reach core up → StartsAt b m r up.set reach → instream_link b r ≡ Some e →
    e < length b.links → has reach (head_of b e) ≡ false → has up.set (head_of b e) ≡ false →
    HelpsBy b m (raised_carry b m.month link) m.supply r
instream_raised b m r e link reach core up numbers given l short room into start is below head_out not_up =
    let carry : ℕ → ℕ = raised_carry b m.month link in
    let rank : ℕ → ℕ = rank_in b m r (tail_of b e) link reach core up numbers in
    let was : ℕ = slice_index m.plan.flow e in
    let high : ℕ → Bool = beyond up.set reach in
    let gone : HasGone b m r carry was start.node (tail_of b e) rank =
    go_in b m r (tail_of b e) link reach core up numbers was start.node start.node m.plan.flow given into start.here
    (unmoved b m r carry was start.node rank given (wide b m.month link)
    (λ k h. ap (slice_index m.plan.flow) (sym (own_is b r e k is h)))) in
    let out =
    go_down b m r e (λ n. not (has core.set n) && not (has up.set n)) rank numbers carry
    start.node gone.flow given room stays (λ n h. (let parts = and_parts _ _ h in
    rank_rest _ _ _ _ _ _ _ n (not-true _ parts.0) (and_left _ _ (not-true _ parts.1)))) (wide b m.month link) is below
    (and_left _ _ (ap not core.ranked.node)) (both_out (head_of b e) not_core not_up)
    (omega (
      arith,
      rank_low core.set high core.ranked.rank up.ranked.rank numbers.number numbers.most
          core.ranked.top (tail_of b e) core.ranked.node,
    )) gone.moved in
    let_out_there b m r e carry m.supply start.take start.out start.node out.node rank out.flow given l short is
    out.below
    out.outlet start.source out.moved
  where
    both_out : (n : ℕ) → has core.set n ≡ false → has up.set n ≡ false → not (has core.set n) && not (has up.set n) ≡
        true
    both_out n h i = and_from _ _ (not_from_false _ h) (not_from_false _ i)

    not_core : has core.set (head_of b e) ≡ false
    not_core = false_from_ne_true _ (λ i. both_ways _ head_out (into.within (head_of b e) i))

    stays : (k : ℕ) → k < length b.links → can_rise b m k ≡ true →
        not (has core.set (tail_of b k)) && not (has up.set (tail_of b k)) ≡ true →
        not (has core.set (head_of b k)) && not (has up.set (head_of b k)) ≡ true
    stays k c rise h =
        let parts = and_parts _ _ h in
        both_out (head_of b k) (false_from_ne_true _ (λ i. both_ways _
        (not-true _ parts.0) (core.closed.forward k c rise i))) (false_from_ne_true _ (λ i. both_ways _
        (not-true _ parts.1) (up.closed.forward k c rise i)))

-- and one whose link's head does: the unit goes round
round_raised : (b : Basin) (m : MonthRecord) (r e link : ℕ) (reach : List Bool) (core : HasRanks b m r (tail_of b e))
    (up : HasRanks b m r (tail_of b link)) (numbers : HasNumbers b) → HasPlan b m → r < length b.rights → IsShort m r →
    HasRoomDown b m r → IsInto b m r (tail_of b e) link reach core up → instream_link b r ≡ Some e →
    e < length b.links → has reach (head_of b e) ≡ false → has up.set (head_of b e) ≡ true →
    HelpsBy b m (raised_carry b m.month link) m.supply r
round_raised b m r e link reach core up numbers given l short room into is below head_out is_up =
    let carry : ℕ → ℕ = raised_carry b m.month link in
    let rank : ℕ → ℕ = rank_in b m r (tail_of b e) link reach core up numbers in
    let gone : HasGone b m r carry (slice_index m.plan.flow e + 1) (tail_of b e) (tail_of b e) rank =
    go_in b m r (tail_of b e) link reach core up numbers (slice_index m.plan.flow e + 1) (tail_of b e) (head_of b e)
    (one_more m.plan.flow e) given into (and_from _ _ is_up (not_from_false _ head_out))
    (first_over b m r e carry rank given below is (omega (arith, ltb-true _ _ (room.own e is), wide b m.month link e))
    (wide b m.month link)) in
    went_round b m r e carry (tail_of b e) rank gone.flow given l short is gone.moved

by_carry : (b : Basin) (m : MonthRecord) (link r : ℕ) → HelpsBy b m (raised_carry b m.month link) m.supply r →
    CarryHelpsRight b m link r
by_carry b m link r h = record { plan = h.plan; is_plan = h.is_plan; serves = h.serves; more = h.more }

pub carry_into_core_helps : CarryIntoCoreHelps
carry_into_core_helps b m r core reach link given l short is_reach room is_core below tail head =
    by_carry b m link r (by_kind (instream_link b r) (taking_node b r) refl refl is_core.node is_core.at
    (omega (arith, has_below core is_core.node is_core.upstream.holds, is_core.upstream.one_each))
    (λ ranks. is_core.upstream.least ranks.set ranks.closed ranks.ranked.node (head_of b link) head))
  where
    tight : IsTight b m.month m.supply m.delivered r reach
    tight = is_reach.is_tight

    left : IsClosed b m r (others reach)
    left = tight_cuts_hold_none_reached b m r reach given l short tight

    up : HasRanks b m r (tail_of b link)
    up = ranks_to b m r (tail_of b link) given.valid (ends b given.valid link below).0

    numbers : HasNumbers b
    numbers = numbers_of b given.valid

    source : OwnIn b r up.set ⊎ StartsAt b m r up.set reach
    source = elim (source_in b m r (tail_of b link) reach up.set given l short is_reach up.ranked.one_each up.closed
        up.ranked.node tail) [
          | inl own ↦ inl own
          | inr other ↦ inr (elim other [
            | inl outlet ↦ outlet_starts b m r up.set reach given left outlet
            | inr junior ↦ junior_starts b m r up.set reach given left junior
          ])
        ]

    into : (target : ℕ) (ranks : HasRanks b m r target) → has ranks.set (head_of b link) ≡ true →
        node_by_link b (taking_node b r) (instream_link b r) ≡ Some target →
        ((e : ℕ) → instream_link b r ≡ Some e → tail_of b e ≡ target) → IsInto b m r target link reach ranks up
    into target ranks at_head at own = record {
      below = below;
      tail = tail;
      head = at_head;
      within = ranked_within b m r target ranks.set reach ranks.ranked (tight_closed b m r reach given l short tight)
          (cut_has_node b r target reach tight.is_cut at);
      left = left;
      one_each = tight.is_cut.one_each;
      own = own;
    }

    by_kind : (o t : Option ℕ) → instream_link b r ≡ o → taking_node b r ≡ t → (target : ℕ) →
        node_by_link b (taking_node b r) (instream_link b r) ≡ Some target → target < length b.nodes →
        ((ranks : HasRanks b m r target) → has ranks.set (head_of b link) ≡ true) →
        HelpsBy b m (raised_carry b m.month link) m.supply r
    by_kind None t none is target at inside at_head =
        let ranks = ranks_to b m r target given.valid inside in
        let takes : taking_node b r ≡ Some target = sym (ap (node_by_link b (taking_node b r)) none) ∙ at in
        let way = into target ranks (at_head ranks) at (λ e h. own_none b r e none h) in
        elim source [
          | inl own ↦ own_none b r own.link none own.is
          | inr start ↦ taking_raised b m r target link reach ranks up numbers given l short way start none takes
        ]
    by_kind (Some e) t is at_taking target at inside at_head =
        let of_link : node_by_link b (taking_node b r) (instream_link b r) ≡ Some (tail_of b e) =
        ap (node_by_link b (taking_node b r)) is in
        let same : tail_of b e ≡ target = cc in
        let ranks = ranks_to b m r (tail_of b e) given.valid (omega (arith, same, inside)) in
        let head_in : has ranks.set (head_of b link) ≡ true =
        subst (λ n. (x : HasRanks b m r n) → has x.set (head_of b link) ≡ true) (sym same) at_head ranks in
        let way = into (tail_of b e) ranks head_in (ap (node_by_link b (taking_node b r)) is)
        (λ k h. ap (tail_of b) (sym (own_is b r e k is h))) in
        let cross = crossing b r e reach tight.is_cut is in
        elim (cases_Bool (has up.set (head_of b e))) [
          | inl is_up ↦ round_raised b m r e link reach ranks up numbers given l short room way is cross.below
              cross.head
              is_up
          | inr not_up ↦ elim source [
            | inl own ↦ absurd (both_ways _ not_up
                (subst (λ k. has up.set (head_of b k) ≡ true) (sym (own_is b r e own.link is own.is)) own.inside))
            | inr start ↦ instream_raised b m r e link reach ranks up numbers given l short room way start is
                cross.below cross.head not_up
          ]
        ]
