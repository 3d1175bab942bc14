-- The core is the least tight cut, and supply outside a tight cut does not help.
use Rattle.std.proofs.Common.{◌≡◌, ℕ, ◌+◌, ◌<◌, ◌≤◌, pos, ◌-ℤ◌, ◌≤ℤ◌, Bool, true, false, refl, sym, ◌∙◌, ap, arith}
use Rattle.std.proofs.Common.{subst, List, [], ◌∷◌, length, ap₂}
use Rattle.std.proofs.lemmas.Bool.{and_from, and_parts, both_ways, false_from_ne_true, true_from_ne_false, not-true}
use Rattle.std.proofs.lemmas.Int.{ints}
use Rattle.std.proofs.lemmas.List.{get_or-set_other}
use Rattle.std.specs.Prelude.{slice_index, not, Option, Some, None}
use Rattle.water_model.specs.Lookups.{has}
use Rattle.water_model.specs.Basin.{head_of, tail_of, taking_node, instream_link, is_senior}
use Rattle.water_model.specs.Plans.{delivery, carry_of}
use Rattle.water_model.specs.Cuts.{node_within, IsCut, IsTight, separates, cut_capacity, cut_kept, takes_within}
use Rattle.water_model.specs.History.{IsShort}
use Rattle.duality.specs.Laws.{AgreesOn}
use Rattle.water_model.specs.declared.types.Basin.{Basin}
use Rattle.water_model.specs.declared.types.MonthRecord.{MonthRecord}
use Rattle.water_model.proofs.Valid.{ends}
use Rattle.duality.proofs.Greatest.{cut_bounds}
use Rattle.water_model.proofs.Sets.{has_below}
use Rattle.plan_residual.specs.Residual.{HasPlan, IsClosed}
use Rattle.plan_residual.specs.Slack.{others}
use Rattle.plan_residual.proofs.Terms.{length-others}
use Rattle.plan_residual.proofs.Closed.{in_others, not_in_set, tight_cuts_hold_none_reached}
use Rattle.plan_residual.proofs.Closed.{closed_sets_leave_tight_cuts}
use Rattle.plan_residual.specs.Core.{node_of, node_by_link, IsClosedBackward, AreUpstream, IsCore}
use Rattle.next_unit.specs.Core.{one_more}
use Rattle.next_unit.specs.Laws.{CoreIsLeastTightCut, NothingOutsideTightCutsHelps}

-- the complement of the complement
pub others_twice : (set : List Bool) → others (others set) ≡ set
others_twice [] = refl
others_twice (x ∷ set) = ap₂ (λ y ys. y ∷ ys) (twice x) (others_twice set)
  where
    twice : (x : Bool) → not (not x) ≡ x
    twice true = refl
    twice false = refl

-- what a set holds if a closed set does not hold it
held : (set : List Bool) (n : ℕ) → n < length set → (has (others set) n ≡ true → ⊥) → has set n ≡ true
held set n l h = true_from_ne_false _ (λ none. h (in_others set n l none))

pub outside : (set : List Bool) (n : ℕ) → n < length set → (has set n ≡ true → ⊥) → has (others set) n ≡ true
outside set n l h = in_others set n l (false_from_ne_true _ h)

pub apart : (set : List Bool) (n : ℕ) → has set n ≡ true → has (others set) n ≡ true → ⊥
apart set n h out = both_ways _ (not_in_set set n out) h

-- a tight cut is closed backward
pub tight_closed : (b : Basin) (m : MonthRecord) (r : ℕ) (cut : List Bool) → HasPlan b m → r < length b.rights →
    IsShort m r → IsTight b m.month m.supply m.delivered r cut → IsClosedBackward b m r cut
tight_closed b m r cut given l short tight = record {
  forward = λ e k room to. held cut (tail_of b e) (let t = (ends b given.valid e k).0 in omega (arith, len))
      (λ out. apart cut (head_of b e) to (closed.forward e k room out));
  backward = λ e k room to. held cut (head_of b e) (let t = (ends b given.valid e k).1 in omega (arith, len))
      (λ out. apart cut (tail_of b e) to (closed.backward e k room out));
}
  where
    len : length cut ≡ length b.nodes
    len = tight.is_cut.one_each

    closed : IsClosed b m r (others cut)
    closed = tight_cuts_hold_none_reached b m r cut given l short tight

-- and holds the right's node
pub cut_has_node : (b : Basin) (r node : ℕ) (cut : List Bool) → IsCut b r cut → node_of b r ≡ Some node →
    has cut node ≡ true
cut_has_node b r node cut is_cut at = of_link (instream_link b r) (taking_node b r) is_cut.separates at
  where
    of_link : (o t : Option ℕ) → separates b t o cut ≡ true → node_by_link b t o ≡ Some node → has cut node ≡ true
    of_link None None h e = cc
    of_link None (Some v) h e = let same : v ≡ node = cc in subst (λ u. has cut u ≡ true) same h
    of_link (Some link) t h e =
        let same : tail_of b link ≡ node = cc in
        let crosses = (and_parts _ _ h).1 in
        subst (λ u. has cut u ≡ true) same (and_parts _ _
        crosses).0

-- so the core is within it
pub core_within : (b : Basin) (m : MonthRecord) (r : ℕ) (core cut : List Bool) → HasPlan b m → r < length b.rights →
    IsShort m r → IsTight b m.month m.supply m.delivered r cut → IsCore b m r core →
    (n : ℕ) → has core n ≡ true → has cut n ≡ true
core_within b m r core cut given l short tight is_core =
    is_core.upstream.least cut (tight_closed b m r cut given l short tight)
    (cut_has_node b r is_core.node cut tight.is_cut is_core.at)

-- a set without a source that is closed backward leaves a closed set
pub no_source_closed : (b : Basin) (m : MonthRecord) (r : ℕ) (set : List Bool) → HasPlan b m →
    length set ≡ length b.nodes → IsClosedBackward b m r set →
    ((n : ℕ) → n < length b.nodes → 0 < slice_index m.plan.out n → has set n ≡ true → ⊥) →
    ((s : ℕ) → s < length b.rights → is_senior b r s ≡ true → 0 < slice_index m.plan.take s →
    takes_within b (others set) s ≡ true) →
    ((e : ℕ) → e < length b.links → instream_link b r ≡ Some e → has set (head_of b e) ≡ true → ⊥) →
    IsClosed b m r (others set)
no_source_closed b m r set given len back outlets juniors own = record {
  outlets = λ n k some. outside set n (omega (arith, len, k)) (outlets n k some);
  juniors = juniors;
  own = λ e k is. outside set (head_of b e) (omega (arith, len, (ends b given.valid e k).1)) (own e k is);
  forward = λ e k room from. outside set (head_of b e) (omega (arith, len, (ends b given.valid e k).1))
      (λ to. apart set (tail_of b e) (back.forward e k room to) from);
  backward = λ e k room from. outside set (tail_of b e) (omega (arith, len, (ends b given.valid e k).0))
      (λ to. apart set (head_of b e) (back.backward e k room to) from);
}

-- a set within a tight cut that is closed backward leaves a closed set
left_closed : (b : Basin) (m : MonthRecord) (r : ℕ) (set cut : List Bool) → HasPlan b m → r < length b.rights →
    IsShort m r → IsTight b m.month m.supply m.delivered r cut → length set ≡ length b.nodes →
    IsClosedBackward b m r set → ((n : ℕ) → has set n ≡ true → has cut n ≡ true) → IsClosed b m r (others set)
left_closed b m r set cut given l short tight len back within =
    no_source_closed b m r set given len back (λ n k some h. apart cut n (within n h) (closed.outlets n k some))
    (λ s k senior takes. of_node (taking_node b s) (closed.juniors s k senior takes))
    (λ e k is h. apart cut (head_of b e) (within (head_of b e) h) (closed.own e k is))
  where
    closed : IsClosed b m r (others cut)
    closed = tight_cuts_hold_none_reached b m r cut given l short tight

    of_node : (o : Option ℕ) → node_within o (others cut) ≡ true → node_within o (others set) ≡ true
    of_node None h = h
    of_node (Some n) h = outside set n (let below = has_below (others cut) n h in let same = length-others cut in
        let one = tight.is_cut.one_each in omega arith) (λ i. apart cut n (within n i) h)

pub core_is_least_tight_cut : CoreIsLeastTightCut
core_is_least_tight_cut b m r core cut given l short tight is_core = record {
  is_tight = subst (λ s. IsTight b m.month m.supply m.delivered r s) (others_twice core)
      (closed_sets_leave_tight_cuts b m r (others core) given l short
      (left_closed b m r core cut given l short tight up.one_each up.closed inside)
      (subst (λ s. IsCut b r s) (sym (others_twice core)) is_cut));
  within = λ other is. core_within b m r core other given l short is is_core;
}
  where
    up : AreUpstream b m r is_core.node core
    up = is_core.upstream

    inside : (n : ℕ) → has core n ≡ true → has cut n ≡ true
    inside = core_within b m r core cut given l short tight is_core

    not_inside : (n : ℕ) → has cut n ≡ false → has core n ≡ false
    not_inside n h = false_from_ne_true _ (λ some. both_ways _ h (inside n some))

    of_link : (o t : Option ℕ) → separates b t o cut ≡ true → node_by_link b t o ≡ Some is_core.node →
        separates b t o core ≡ true
    of_link None None h e = h
    of_link None (Some v) h e = let same : is_core.node ≡ v = cc in subst (λ u. has core u ≡ true) same up.holds
    of_link (Some link) t h e =
        let same : is_core.node ≡ tail_of b link = cc in
        let parts = and_parts _ _ h in
        let ends = and_parts _ _ parts.1 in
        and_from _ _ parts.0 (and_from _ _ (subst (λ u. has core u ≡ true) same up.holds)
        (ap not (not_inside (head_of b link) (not-true _ ends.1))))

    is_cut : IsCut b r core
    is_cut = record {
      one_each = up.one_each;
      separates = of_link (instream_link b r) (taking_node b r) tight.is_cut.separates is_core.at;
    }

pub nothing_outside_tight_cuts_helps : NothingOutsideTightCutsHelps
nothing_outside_tight_cuts_helps b month supply delivered r cut node want q l tight out plan serves =
    at_most (delivery b want q r) (slice_index delivered r) (cut_kept b delivered r cut)
    (cut_capacity b (carry_of b month) supply cut)
    tight.tight
    (cut_bounds b month supply delivered r cut (one_more supply node) want q l tight.is_cut plan agrees serves)
  where
    at_most : (x d k c : ℕ) → c ≡ d + k → pos x ≤ℤ (pos c -ℤ pos k) → x ≤ d
    at_most x d k c e h = omega (arith, ints)

    agrees : AgreesOn cut supply (one_more supply node)
    agrees = record {
      each = λ n h. get_or-set_other supply node n (slice_index supply node + 1) 0
          (λ same. both_ways _ out (ap (has cut) (sym same) ∙ h));
    }
