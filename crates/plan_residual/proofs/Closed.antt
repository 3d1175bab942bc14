-- Closed sets and tight cuts are complements of one another.
use Rattle.std.proofs.Common.{◌≡◌, ℕ, ◌<◌, ◌≤◌, Bool, true, false, refl, sym, ◌∙◌, ap, arith, subst, List, length}
use Rattle.std.proofs.Common.{inl, inr}
use Rattle.std.proofs.lemmas.Bool.{and_from, and_parts, both_ways, cases_Bool, cases_lt, false_from_ne_true, lt-ltb}
use Rattle.std.proofs.lemmas.Bool.{ltb-true, not-true, not_from_false}
use Rattle.std.specs.Prelude.{slice_index, not, nat_lt, Option, Some, None, option_map, unwrap_or}
use Rattle.water_model.specs.Lookups.{has}
use Rattle.water_model.specs.Basin.{head_of, tail_of, taking_node, instream_link, is_on_link, node_of_reservoir}
use Rattle.water_model.specs.Basin.{taking_node_of_kind}
use Rattle.water_model.specs.Cuts.{takes_within, node_within, IsCut, IsTight, separates, leaves}
use Rattle.water_model.specs.History.{IsShort}
use Rattle.water_model.specs.Valid.{IsValidBasin, IsValidReservoir, HasValidSite}
use Rattle.water_model.specs.declared.types.Basin.{Basin}
use Rattle.water_model.specs.declared.types.MonthRecord.{MonthRecord}
use Rattle.water_model.specs.declared.types.RightKind.{RightKind}
use Rattle.water_model.specs.declared.types.RightKind.TheVariants.{Diversion, Instream, Zone}
use Rattle.water_model.proofs.Valid.{ends, entry_holds, kind_is}
use Rattle.water_model.proofs.Sets.{has_below}
use Rattle.plan_residual.specs.Residual.{HasPlan, IsClosed, AreReached}
use Rattle.plan_residual.specs.Slack.{HasNoSlack, others}
use Rattle.plan_residual.specs.Laws.{TightCutsHoldNoneReached, ClosedSetsLeaveTightCuts, NodesNotReachedAreTheReach}
use Rattle.plan_residual.proofs.Terms.{has_others, length-others}
use Rattle.plan_residual.proofs.Slack.{kept_le_flow, no_slack, tight_by_slack}

-- a node is in the complement or in the set
pub in_others : (set : List Bool) (n : ℕ) → n < length set → has set n ≡ false → has (others set) n ≡ true
in_others set n l h = has_others set n l ∙ ap not h

pub not_in_set : (set : List Bool) (n : ℕ) → has (others set) n ≡ true → has set n ≡ false
not_in_set set n h =
    let below = has_below (others set) n h in
    not-true (has set n) (sym (has_others set n (let len = length-others set in omega arith)) ∙ h)

-- where a right takes is a node
pub taking_below : (b : Basin) → IsValidBasin b → (s n : ℕ) → s < length b.rights → taking_node b s ≡ Some n →
    n < length b.nodes
taking_below b valid s n l is =
    let k = kind_is b valid s l in of_kind k.kind k.site (sym k.node ∙ is)
  where
    of_kind : (k : RightKind) → HasValidSite b k → taking_node_of_kind b k ≡ Some n → n < length b.nodes
    of_kind (Diversion node) position e = let same : node ≡ n = cc in omega (arith, position)
    of_kind (Instream link) position e = cc
    of_kind (Zone reservoir level) position e =
        let at = entry_holds (λ v. IsValidReservoir b v) b.reservoirs reservoir
        valid.reservoirs position.0 in
        let is_at : node_of_reservoir b reservoir ≡ Some at.0.node =
        ap (λ o. unwrap_or (option_map (λ x. Some x.node) o) None) at.1 in
        let same : at.0.node ≡ n = cc in
        let below = at.2.node in
        omega arith

-- a right that takes something takes within the complement of a set, or within the set
takes_outside : (b : Basin) (m : MonthRecord) (set : List Bool) (s : ℕ) → HasPlan b m → length set ≡ length b.nodes →
    s < length b.rights → 0 < slice_index m.plan.take s → takes_within b set s ≡ false → takes_within b
    (others set) s ≡ true
takes_outside b m set s given len l takes apart = of_node (taking_node b s) refl apart
  where
    of_node : (o : Option ℕ) → taking_node b s ≡ o → node_within o set ≡ false → node_within o (others set) ≡ true
    of_node None is h = let none = given.plan.instream s l is in absurd (omega arith)
    of_node (Some n) is h = let below = taking_below b given.valid s n l is in
        in_others set n (omega arith) h

-- and not within both
takes_once : (b : Basin) (set : List Bool) (s : ℕ) → takes_within b (others set) s ≡ true → takes_within b set s ≡ false
takes_once b set s h = of_node (taking_node b s) h
  where
    of_node : (o : Option ℕ) → node_within o (others set) ≡ true → node_within o set ≡ false
    of_node None h = refl
    of_node (Some n) h = not_in_set set n h

pub tight_cuts_hold_none_reached : TightCutsHoldNoneReached
tight_cuts_hold_none_reached b m r cut given l short tight = record {
  outlets = λ n k some. outside n k (λ h. let none = slack.nothing.outlets n h in omega arith);
  juniors = λ s k senior takes. takes_outside b m cut s given len k takes
      (false_from_ne_true (takes_within b cut s) (λ h. let none = slack.nothing.juniors s k h senior in omega arith));
  own = λ e k is. outside (head_of b e) (ends b given.valid e k).1
      (λ h. both_ways (has cut (head_of b e)) (apart e is) h);
  forward = λ e k room from. outside (head_of b e) (ends b given.valid e k).1 (λ h.
      let is = slack.full e k (and_from (has cut (head_of b e)) (not (has cut (tail_of b e))) h
      (ap not (not_in_set cut (tail_of b e) from))) in
      let less = ltb-true _ _ room in omega arith);
  backward = λ e k room from. outside (tail_of b e) (ends b given.valid e k).0 (λ h.
      let parts = and_parts _ _ room in
      let is = slack.held e k (and_from (leaves b cut e) (not (is_on_link b r e))
      (and_from (has cut (tail_of b e)) (not (has cut (head_of b e))) h (ap not (not_in_set cut (head_of b e) from)))
      parts.0) in
      let less = ltb-true _ _ parts.1 in omega arith);
}
  where
    len : length cut ≡ length b.nodes
    len = tight.is_cut.one_each

    slack : HasNoSlack b m r cut
    slack = no_slack b m r cut given l short tight

    outside : (n : ℕ) → n < length b.nodes → (has cut n ≡ true → ⊥) → has (others cut) n ≡ true
    outside n k h = in_others cut n (omega (arith, len)) (false_from_ne_true (has cut n) h)

    -- the right's own link ends outside
    apart : (e : ℕ) → instream_link b r ≡ Some e → has cut (head_of b e) ≡ false
    apart e is = of_link (instream_link b r) is tight.is_cut.separates
      where
        of_link : (o : Option ℕ) → o ≡ Some e → separates b (taking_node b r) o cut ≡ true → has cut (head_of b e)
            ≡ false
        of_link None q h = cc
        of_link (Some link) q h =
            let same : link ≡ e = cc in
            let crosses = (and_parts (nat_lt link (length b.links)) (leaves b cut link) h).1 in
            subst (λ j. has cut (head_of b j) ≡ false) same
            (not-true (has cut (head_of b link))
            (and_parts (has cut (tail_of b link)) (not (has cut (head_of b link))) crosses).1)

-- what a closed set leaves has no slack
closed_no_slack : (b : Basin) (m : MonthRecord) (r : ℕ) (set : List Bool) → HasPlan b m → r < length b.rights →
    IsClosed b m r set → IsCut b r (others set) → HasNoSlack b m r (others set)
closed_no_slack b m r set given l closed is_cut = record {
  full = λ e k h.
      let parts = and_parts (has (others set) (head_of b e)) (not (has (others set) (tail_of b e))) h in
      let to = not_in_set set (head_of b e) parts.0 in
      let from = inside (tail_of b e) (ends b given.valid e k).0 (not-true (has (others set) (tail_of b e)) parts.1) in
      let most = given.plan.carries e k in
      let least = no_room _ _ (λ room. both_ways (has set (head_of b e)) to (closed.forward e k room from)) in
      omega arith;
  held = λ e k h.
      let outer = and_parts (leaves b (others set) e) (not (is_on_link b r e)) h in
      let parts = and_parts (has (others set) (tail_of b e)) (not (has (others set) (head_of b e))) outer.0 in
      let to = not_in_set set (tail_of b e) parts.0 in
      let from = inside (head_of b e) (ends b given.valid e k).1 (not-true (has (others set) (head_of b e)) parts.1) in
      let least = kept_le_flow b m r e given in
      let most = no_room _ _ (λ room. both_ways (has set (tail_of b e)) to
      (closed.backward e k (and_from (not (is_on_link b r e)) _ outer.1 room) from)) in
      omega arith;
  nothing = record {
    juniors = λ s k within senior. zero_from _ (λ takes. both_ways (takes_within b set s) (takes_once b set s within)
        (closed.juniors s k senior takes));
    outlets = λ n h. zero_from _ (λ some. both_ways (has set n) (not_in_set set n h)
        (closed.outlets n (let below = has_below (others set) n h in let len = is_cut.one_each in omega arith) some));
  };
}
  where
    no_room : (x y : ℕ) → (nat_lt x y ≡ true → ⊥) → y ≤ x
    no_room x y h = elim (cases_lt x y) [ inl less ↦ absurd (h (lt-ltb x y less)) | inr more ↦ more ]

    zero_from : (x : ℕ) → (0 < x → ⊥) → x ≡ 0
    zero_from x h = elim (cases_lt 0 x) [ inl some ↦ absurd (h some) | inr none ↦ omega arith ]

    inside : (n : ℕ) → n < length b.nodes → has (others set) n ≡ false → has set n ≡ true
    inside n k h = elim (cases_Bool (has set n)) [
      | inl held ↦ held
      | inr apart ↦ absurd (both_ways (has (others set) n) h
          (in_others set n (let len = is_cut.one_each in let same = length-others set in omega arith) apart))
    ]

pub closed_sets_leave_tight_cuts : ClosedSetsLeaveTightCuts
closed_sets_leave_tight_cuts b m r set given l short closed is_cut =
    tight_by_slack b m r (others set) given l short is_cut (closed_no_slack b m r set given l closed is_cut)

-- a tight cut lies outside the nodes that are reached
pub tight_within : (b : Basin) (m : MonthRecord) (r : ℕ) (set cut : List Bool) → HasPlan b m → r < length b.rights →
    IsShort m r → AreReached b m r set → IsTight b m.month m.supply m.delivered r cut →
    (n : ℕ) → has cut n ≡ true → has (others set) n ≡ true
tight_within b m r set cut given l short reached tight n h =
    in_others set n (let below = has_below cut n h in let len = tight.is_cut.one_each in let same = reached.one_each in
    omega arith)
    (false_from_ne_true (has set n) (λ saw. both_ways (has cut n)
    (not_in_set cut n (reached.least (others cut) (tight_cuts_hold_none_reached b m r cut given l short tight) n
    saw)) h))

-- so what is not reached is a cut, where there is a tight one
left_is_cut : (b : Basin) (m : MonthRecord) (r : ℕ) (set cut : List Bool) → HasPlan b m → r < length b.rights →
    IsShort m r → AreReached b m r set → IsTight b m.month m.supply m.delivered r cut → IsCut b r (others set)
left_is_cut b m r set cut given l short reached tight = record {
  one_each = length-others set ∙ reached.one_each;
  separates = of_right (taking_node b r) (instream_link b r) refl tight.is_cut.separates;
}
  where
    grows : (n : ℕ) → has cut n ≡ true → has (others set) n ≡ true
    grows = tight_within b m r set cut given l short reached tight

    of_node : (o : Option ℕ) → node_within o cut ≡ true → node_within o (others set) ≡ true
    of_node None h = h
    of_node (Some n) h = grows n h

    of_right : (o i : Option ℕ) → instream_link b r ≡ i → separates b o i cut ≡ true → separates b o i (others set)
        ≡ true
    of_right o None is h = of_node o h
    of_right o (Some link) is h =
        let parts = and_parts (nat_lt link (length b.links)) (leaves b cut link) h in
        let crosses = and_parts (has cut (tail_of b link)) (not (has cut (head_of b link))) parts.1 in
        let below = ltb-true link (length b.links) parts.0 in
        let end = reached.closed.own link below is in
        and_from (nat_lt link (length b.links)) (leaves b (others set) link) parts.0
        (and_from (has (others set) (tail_of b link)) (not (has (others set) (head_of b link)))
        (grows (tail_of b link) crosses.0)
        (not_from_false (has (others set) (head_of b link))
        (false_from_ne_true (has (others set) (head_of b link)) (λ out.
        both_ways (has set (head_of b link)) (not_in_set set (head_of b link) out) end))))

pub nodes_not_reached_are_the_reach : NodesNotReachedAreTheReach
nodes_not_reached_are_the_reach b m r set cut given l short tight reached = record {
  is_tight = closed_sets_leave_tight_cuts b m r set given l short reached.closed
      (left_is_cut b m r set cut given l short reached tight);
  contains = λ other is n h. tight_within b m r set other given l short reached is n h;
}
