-- One more unit of supply in the core is one more unit for the right.
use Rattle.std.proofs.Common.{◌≡◌, ℕ, ◌+◌, ◌-◌, ◌<◌, Bool, true, false, refl, sym, ◌∙◌, ap, arith, subst, List}
use Rattle.std.proofs.Common.{length}
use Rattle.std.proofs.lemmas.Bool.{and_parts, both_ways, false_from_ne_true, ltb-true, not-true, not_from_false}
use Rattle.std.specs.Prelude.{not, if◌then◌else◌, slice_index, Some, None, Option}
use Rattle.water_model.specs.Lookups.{has}
use Rattle.water_model.specs.Basin.{head_of, tail_of, instream_link, taking_node}
use Rattle.water_model.specs.Plans.{carry_of}
use Rattle.water_model.specs.Cuts.{IsTight, IsCut, separates}
use Rattle.water_model.specs.History.{IsShort}
use Rattle.water_model.specs.declared.types.Basin.{Basin}
use Rattle.water_model.specs.declared.types.MonthRecord.{MonthRecord}
use Rattle.water_model.proofs.Valid.{ends}
use Rattle.water_model.proofs.Sets.{has_below}
use Rattle.plan_residual.specs.Residual.{HasPlan}
use Rattle.plan_residual.specs.Core.{node_of, node_by_link, AreUpstream}
use Rattle.next_unit.specs.Core.{HasRoomDown, one_more}
use Rattle.next_unit.specs.Next.{HelpsRight}
use Rattle.next_unit.specs.Laws.{SupplyInCoreHelps}
use Rattle.next_unit.proofs.Least.{tight_closed, cut_has_node}
use Rattle.plan_residual.proofs.Upstream.{ranks_to, ranked_within}
use Rattle.next_unit.proofs.Pushes.{unmoved}
use Rattle.next_unit.proofs.Leads.{HasGone, go_to, go_down, numbers_of, own_is, own_none}
use Rattle.next_unit.proofs.Changed.{HelpsBy, IsSource, one_more_at, taken_there, let_out_there}

-- ranks along a way from some nodes to those of a set, from these over the right's link, and down rivers
module _ (set : List Bool) (high : ℕ → Bool) (low_rank high_rank forward : ℕ → ℕ) (most top n : ℕ) where
  pub rank_by : ℕ
  rank_by =
      if has set n then most + 1 + low_rank n else (if high n then most + 1 + top + high_rank n else most - forward n)

  pub rank_low : has set n ≡ true → rank_by ≡ most + 1 + low_rank n
  unfolding rank_by
  rank_low h = rw h refl

  pub rank_rest : has set n ≡ false → high n ≡ false → rank_by ≡ most - forward n
  unfolding rank_by
  rank_rest h i = rw (h, i) refl

  pub rank_high : has set n ≡ false → high n ≡ true → rank_by ≡ most + 1 + top + high_rank n
  unfolding rank_by
  rank_high h i = rw (h, i) refl

-- what a tight cut says of the link of an instream right
pub record IsCrossing (b : Basin) (r e : ℕ) (cut : List Bool) : Type 0 where
  pub below : e < length b.links
  pub tail : has cut (tail_of b e) ≡ true
  pub head : has cut (head_of b e) ≡ false

pub crossing : (b : Basin) (r e : ℕ) (cut : List Bool) → IsCut b r cut → instream_link b r ≡ Some e →
    IsCrossing b r e cut
crossing b r e cut is_cut is = of_link (instream_link b r) is is_cut.separates
  where
    of_link : (o : Option ℕ) → o ≡ Some e → separates b (taking_node b r) o cut ≡ true → IsCrossing b r e cut
    of_link None i h = cc
    of_link (Some link) i h =
        let same : link ≡ e = cc in
        let parts = and_parts _ _ h in
        let ends = and_parts _ _ parts.1 in
        subst (λ j. IsCrossing b r j cut) same record {
          below = ltb-true _ _ parts.0;
          tail = ends.0;
          head = not-true _ ends.1;
        }

-- the supply has the unit
supply_source : (b : Basin) (m : MonthRecord) (r node : ℕ) → HasPlan b m → node < length b.nodes →
    IsSource b m r (one_more m.supply node) m.plan.take m.plan.out node
supply_source b m r node given l = record {
  take_len = given.plan.take_len;
  out_len = given.plan.out_len;
  takes = λ s k. omega arith;
  seniors = λ s k senior. refl;
  own = refl;
  outs = λ n k. omega arith;
  sums = λ n k. omega (arith, one_more_at m.supply node n (omega (arith, l, given.fits.supply)));
}

by_supply : (b : Basin) (m : MonthRecord) (r : ℕ) (supply : List ℕ) → HelpsBy b m (carry_of b m.month) supply r →
    HelpsRight b m supply r
by_supply b m r supply h = record { plan = h.plan; is_plan = h.is_plan; serves = h.serves; more = h.more }

-- a right that takes
taking_helped : (b : Basin) (m : MonthRecord) (r node target : ℕ) (core : List Bool) → HasPlan b m →
    r < length b.rights → IsShort m r → AreUpstream b m r target core → has core node ≡ true →
    instream_link b r ≡ None → taking_node b r ≡ Some target →
    HelpsBy b m (carry_of b m.month) (one_more m.supply node) r
taking_helped b m r node target core given l short up here none at =
    let target_in : target < length b.nodes = omega (arith, has_below core target up.holds, up.one_each) in
    let node_in : node < length b.nodes = omega (arith, has_below core node here, up.one_each) in
    let ranks = ranks_to b m r target given.valid target_in in
    let gone : HasGone b m r (carry_of b m.month) 0 node target ranks.ranked.rank =
    go_to b m r target ranks.set ranks.ranked (has ranks.set) ranks.ranked.rank 0 (carry_of b m.month) 0 node
    (λ n h. h) (λ back e k room from to. to) (λ n h. omega arith) (λ e is. own_none b r e none is) (λ e. omega arith)
    node m.plan.flow (up.least ranks.set ranks.closed ranks.ranked.node node here)
    (unmoved b m r (carry_of b m.month) 0 node ranks.ranked.rank given (λ e. omega arith)
    (λ e is. own_none b r e none is)) in
    taken_there b m r (carry_of b m.month) (one_more m.supply node) m.plan.take m.plan.out 0 node target
    ranks.ranked.rank gone.flow given l short none at (supply_source b m r node given node_in) gone.moved

-- an instream right
instream_helped : (b : Basin) (m : MonthRecord) (r node e : ℕ) (core cut : List Bool) → HasPlan b m →
    r < length b.rights → IsShort m r → IsTight b m.month m.supply m.delivered r cut → HasRoomDown b m r →
    AreUpstream b m r (tail_of b e) core → has core node ≡ true → instream_link b r ≡ Some e →
    node_of b r ≡ Some (tail_of b e) → HelpsBy b m (carry_of b m.month) (one_more m.supply node) r
instream_helped b m r node e core cut given l short tight room up here is at =
    let cross = crossing b r e cut tight.is_cut is in
    let tail_in = (ends b given.valid e cross.below).0 in
    let node_in : node < length b.nodes = omega (arith, has_below core node here, up.one_each) in
    let ranks = ranks_to b m r (tail_of b e) given.valid tail_in in
    let numbers = numbers_of b given.valid in
    let set : List Bool = ranks.set in
    let carry : ℕ → ℕ = carry_of b m.month in
    let was : ℕ = slice_index m.plan.flow e in
    let rank : ℕ → ℕ = rank_by set (λ n. false) ranks.ranked.rank (λ n. 0) numbers.number numbers.most 0 in
    let low = rank_low set (λ n. false) ranks.ranked.rank (λ n. 0) numbers.number numbers.most 0 in
    let rest = rank_rest set (λ n. false) ranks.ranked.rank (λ n. 0) numbers.number numbers.most 0 in
    let head_out : has set (head_of b e) ≡ false = false_from_ne_true _ (λ h. both_ways _ cross.head
    (ranked_within b m r (tail_of b e) set cut ranks.ranked (tight_closed b m r cut given l short tight)
    (cut_has_node b r (tail_of b e) cut tight.is_cut at) (head_of b e) h)) in
    let gone : HasGone b m r carry was node (tail_of b e) rank =
    go_to b m r (tail_of b e) set ranks.ranked (has set) rank (numbers.most + 1) carry was node (λ n h. h)
    (λ back e k room from to. to) (λ n h. low n h) (λ k h j. ap (tail_of b) (sym (own_is b r e k is h)))
    (λ e. omega arith) node m.plan.flow (up.least set ranks.closed ranks.ranked.node node here)
    (unmoved b m r carry was node rank given (λ e. omega arith)
    (λ k h. ap (slice_index m.plan.flow) (sym (own_is b r e k is h)))) in
    let out =
    go_down b m r e (λ n. not (has set n)) rank numbers carry node gone.flow given room
    (λ k c rise h. not_from_false _ (false_from_ne_true _
    (λ i. both_ways _ (not-true _ h) (ranks.closed.forward k c rise i))))
    (λ n h. rest n (not-true _ h) refl) (λ e. omega arith) is cross.below
    (ap not ranks.ranked.node) (not_from_false _ head_out)
    (omega (arith, low (tail_of b e) ranks.ranked.node)) gone.moved in
    let_out_there b m r e carry (one_more m.supply node) m.plan.take m.plan.out node out.node rank out.flow given l
    short
    is out.below out.outlet (supply_source b m r node given node_in) out.moved

pub supply_in_core_helps : SupplyInCoreHelps
supply_in_core_helps b m r core cut node given l short tight room is_core here =
    by_supply b m r (one_more m.supply node) (by_kind (instream_link b r) (taking_node b r) refl refl is_core.at)
  where
    by_kind : (o t : Option ℕ) → instream_link b r ≡ o → taking_node b r ≡ t → node_by_link b t o ≡ Some is_core.node →
        HelpsBy b m (carry_of b m.month) (one_more m.supply node) r
    by_kind None t is at e = taking_helped b m r node is_core.node core given l short is_core.upstream here is (at ∙ e)
    by_kind (Some link) t is at e =
        let same : is_core.node ≡ tail_of b link = cc in
        instream_helped b m r node link core cut given l short tight room
        (subst (λ n. AreUpstream b m r n core) same is_core.upstream) here is (is_core.at ∙ ap (λ n. Some n) same)
