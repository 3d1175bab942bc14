-- Ways: to a node from a set with ranks, and down rivers to an outlet.
use Rattle.std.proofs.Common.{◌≡◌, ◌≢◌, ℕ, ◌+◌, ◌-◌, ◌<◌, ◌≤◌, Bool, true, false, sym, ◌∙◌, ap, arith, subst, List, suc}
use Rattle.std.proofs.Common.{length, zero, refl, inl, inr}
use Rattle.std.proofs.lemmas.Bool.{and_parts, both_ways}
use Rattle.std.proofs.lemmas.Bool.{ltb-true, not-true, cases_eq, cases_Bool}
use Rattle.std.proofs.lemmas.List.{get_or-set_same}
use Rattle.std.specs.Prelude.{not, nat_lt, slice_index, Some, None}
use Rattle.water_model.specs.Lookups.{has}
use Rattle.water_model.specs.Network.{IsForward}
use Rattle.water_model.specs.Basin.{head_of, tail_of, instream_link, is_on_link, is_outlet, is_river}
use Rattle.water_model.specs.Plans.{carry_of}
use Rattle.water_model.specs.Cuts.{kept_on}
use Rattle.water_model.specs.declared.types.Basin.{Basin}
use Rattle.water_model.specs.declared.types.MonthRecord.{MonthRecord}
use Rattle.water_model.proofs.Valid.{ends}
use Rattle.plan_residual.specs.Residual.{HasPlan, can_rise}
use Rattle.next_unit.specs.Core.{HasRoomDown, one_more}
use Rattle.plan_residual.proofs.Upstream.{AreRanked, room_by, start_by, end_by}
use Rattle.next_unit.proofs.Pushes.{IsMoved, IsMovedBy, move_forward, move_backward, off_link, one_less, own_first}
use Rattle.next_unit.proofs.Pushes.{own_stays, unmoved}
use Rattle.water_model.specs.Valid.{IsValidBasin}
use Rattle.finite_sums.specs.Sums.{greatest_where}
use Rattle.finite_sums.proofs.Totals.{term_le_greatest}
use Rattle.river_net.proofs.Ranks.{ranks}

-- numbers that rise along links
pub record HasNumbers (b : Basin) : Type 0 where
  pub number : ℕ → ℕ
  pub most : ℕ
  pub runs : IsForward b.links number
  pub bound : (n : ℕ) → n < length b.nodes → number n ≤ most

pub numbers_of : (b : Basin) → IsValidBasin b → HasNumbers b
numbers_of b valid =
    let numbers = ranks b valid in
    record {
      number = numbers.rank;
      most = greatest_where (length b.nodes) (λ n. true) numbers.rank;
      runs = numbers.forward;
      bound = λ n k. term_le_greatest (length b.nodes) (λ n. true) numbers.rank n k refl;
    }

-- the right's own link is one alone
pub own_is : (b : Basin) (r e k : ℕ) → instream_link b r ≡ Some e → instream_link b r ≡ Some k → e ≡ k
own_is b r e k is h = cc

pub own_none : {A : Type 0} (b : Basin) (r k : ℕ) → instream_link b r ≡ None → instream_link b r ≡ Some k → A
own_none b r k none h = cc

-- the unit was moved to a node
pub record HasGone (b : Basin) (m : MonthRecord) (r : ℕ) (carry : ℕ → ℕ) (own from to : ℕ) (rank : ℕ → ℕ) : Type 0
  where
    pub flow : List ℕ
    pub moved : IsMoved b m r carry own from to rank flow

-- a unit at a node of a set with ranks, of which some are kept by each step, goes to the set's node
module _ (b : Basin) (m : MonthRecord) (r target : ℕ) (set : List Bool) (ranked : AreRanked b m r target set)
    (inside : ℕ → Bool) (rank : ℕ → ℕ) (higher : ℕ) (carry : ℕ → ℕ) (own from : ℕ)
    (within : (n : ℕ) → inside n ≡ true → has set n ≡ true)
    (stays : (back : Bool) (e : ℕ) → e < length b.links → room_by b m r back e ≡ true →
    inside (start_by b back e) ≡ true → has set (end_by b back e) ≡ true → inside (end_by b back e) ≡ true)
    (same : (n : ℕ) → inside n ≡ true → rank n ≡ higher + ranked.rank n)
    (own_tail : (e : ℕ) → instream_link b r ≡ Some e → inside (tail_of b e) ≡ true → tail_of b e ≡ target)
    (wide : (e : ℕ) → carry_of b m.month e ≤ carry e) where
  over : (back : Bool) (e : ℕ) (flow : List ℕ) → e < length b.links → room_by b m r back e ≡ true →
      start_by b back e ≢ target → inside (start_by b back e) ≡ true →
      rank (end_by b back e) < rank (start_by b back e) → IsMoved b m r carry own from (start_by b back e) rank flow →
      HasGone b m r carry own from (end_by b back e) rank
  over false e flow l room ne here lower now = record {
    flow = one_more flow e;
    moved = move_forward b m (kept_on b m.delivered r) carry (λ k. instream_link b r ≡ Some k) own from e rank flow l
        own now (omega (
          arith,
          ltb-true _ _ room,
          wide e,
          now.old e l not_own (omega (arith, lower)),
        )) lower (own_stays b m (kept_on b m.delivered r) carry (λ k. instream_link b r ≡ Some k) own from
        (tail_of b e) e rank flow l now (slice_index flow e + 1) not_own);
  }
    where
      not_own : instream_link b r ≡ Some e → ⊥
      not_own is = ne (own_tail e is here)
  over true e flow l room ne here lower now = record {
    flow = one_less flow e;
    moved = move_backward b m (kept_on b m.delivered r) carry (λ k. instream_link b r ≡ Some k) own from e rank flow l
        now (omega (
          arith,
          ltb-true _ _ parts.1,
          now.old e l not_own (omega (arith, lower)),
        )) lower not_own;
  }
    where
      parts : (not (is_on_link b r e) ≡ true) × (nat_lt (kept_on b m.delivered r e) (slice_index m.plan.flow e) ≡ true)
      parts = and_parts _ _ room

      not_own : instream_link b r ≡ Some e → ⊥
      not_own is = off_link b r e e (not-true _ parts.0) is refl

  go : (fuel node : ℕ) (flow : List ℕ) → rank node < fuel → inside node ≡ true →
      IsMoved b m r carry own from node rank flow → HasGone b m r carry own from target rank
  go zero node flow bounded here now = absurd (omega arith)
  go (suc fuel) node flow bounded here now = elim (cases_eq node target) [
    | inl equal ↦ record { flow = flow; moved = subst (λ n. IsMoved b m r carry own from n rank flow) equal now }
    | inr ne ↦ (let s = ranked.step node (within node here) ne in
        let start : inside (start_by b s.back s.link) ≡ true = ap inside s.start ∙ here in
        let end : inside (end_by b s.back s.link) ≡ true = stays s.back s.link s.below s.room start s.ends in
        let at : rank (start_by b s.back s.link) ≡ rank node = ap rank s.start in
        let lower : rank (end_by b s.back s.link) < rank node = omega (
          arith,
          same (end_by b s.back s.link) end,
          same node here,
          s.lower,
        ) in
        let next = over s.back s.link flow s.below s.room (λ e. ne (sym s.start ∙ e)) start (omega (arith, at, lower))
        (subst (λ n. IsMoved b m r carry own from n rank flow) (sym s.start) now) in
        go fuel (end_by b s.back s.link) next.flow (omega (arith, lower, bounded)) end next.moved)
  ]

  pub go_to : (node : ℕ) (flow : List ℕ) → inside node ≡ true → IsMoved b m r carry own from node rank flow →
      HasGone b m r carry own from target rank
  go_to node flow here now = go (suc (rank node)) node flow (omega arith) here now

-- an outlet to which the unit was moved
pub record HasGoneOut (b : Basin) (m : MonthRecord) (least carry : ℕ → ℕ) (is_own : ℕ → Type 0) (own from : ℕ)
    (rank : ℕ → ℕ) : Type 0 where
  pub node : ℕ
  pub below : node < length b.nodes
  pub outlet : is_outlet b node ≡ true
  pub flow : List ℕ
  pub moved : IsMovedBy b m least carry is_own own from node rank flow

-- each river carries less than it can
abbrev pub RiversCanRise : Basin → MonthRecord → Type 0
RiversCanRise b m = (e : ℕ) → e < length b.links → is_river b e ≡ true → can_rise b m e ≡ true

-- rivers lead on to an outlet, among nodes that no step forward leaves
module _ (b : Basin) (m : MonthRecord) (least carry : ℕ → ℕ) (is_own : ℕ → Type 0) (own from : ℕ) (rank : ℕ → ℕ)
    (given : HasPlan b m) (rivers : RiversCanRise b m) (wide : (e : ℕ) → carry_of b m.month e ≤ carry e)
    (numbers : HasNumbers b) (out : ℕ → Bool)
    (stays : (e : ℕ) → e < length b.links → can_rise b m e ≡ true → out (tail_of b e) ≡ true → out (head_of b e) ≡ true)
    (same : (n : ℕ) → out n ≡ true → rank n ≡ numbers.most - numbers.number n)
    (off : (e : ℕ) → is_own e → out (tail_of b e) ≡ true → ⊥) where
  send : (fuel to : ℕ) (flow : List ℕ) → to < length b.nodes → out to ≡ true → rank to < fuel →
      IsMovedBy b m least carry is_own own from to rank flow → HasGoneOut b m least carry is_own own from rank
  send zero to flow l here bounded now = absurd (omega arith)
  send (suc fuel) to flow l here bounded now = elim (cases_Bool (is_outlet b to)) [
    | inl outlet ↦ record { node = to; below = l; outlet = outlet; flow = flow; moved = now }
    | inr inner ↦ (let river = given.valid.network.rivers to l inner in
        let e : ℕ = river.link in
        let k : e < length b.links = river.in_range in
        let rise : can_rise b m e ≡ true = rivers e k river.river in
        let at : out (tail_of b e) ≡ true = ap out river.tail ∙ here in
        let head : out (head_of b e) ≡ true = stays e k rise at in
        let head_in : head_of b e < length b.nodes = (ends b given.valid e k).1 in
        let lower : rank (head_of b e) < rank (tail_of b e) = omega (
          arith,
          same (head_of b e) head,
          same (tail_of b e) at,
          numbers.runs.runs e k,
          numbers.bound (head_of b e) head_in,
        ) in
        let there = subst (λ n. IsMovedBy b m least carry is_own own from n rank flow) (sym river.tail) now in
        let level : rank (tail_of b e) ≡ rank to = ap rank river.tail in
        send fuel (head_of b e) (one_more flow e) head_in head (omega (arith, level, lower, bounded))
        (move_forward b m least carry is_own own from e rank flow k own there
        (omega (
          arith,
          ltb-true _ _ rise,
          wide e,
          there.old e k (λ is. off e is at) (omega (arith, lower)),
        )) lower (own_stays b m least carry is_own own from (tail_of b e) e rank flow k there (slice_index flow e + 1)
        (λ is. off e is at))))
  ]

  pub send_down : (to : ℕ) (flow : List ℕ) → to < length b.nodes → out to ≡ true →
      IsMovedBy b m least carry is_own own from to rank flow → HasGoneOut b m least carry is_own own from rank
  send_down to flow l here now = send (suc (rank to)) to flow l here (omega arith) now

-- the first step over the right's own link, to any node
pub first_over : (b : Basin) (m : MonthRecord) (r e : ℕ) (carry : ℕ → ℕ) (rank : ℕ → ℕ) → HasPlan b m →
    e < length b.links → instream_link b r ≡ Some e → slice_index m.plan.flow e < carry e →
    ((k : ℕ) → carry_of b m.month k ≤ carry k) →
    IsMoved b m r carry (slice_index m.plan.flow e + 1) (tail_of b e) (head_of b e) rank (one_more m.plan.flow e)
first_over b m r e carry rank given l is room wide =
    own_first b m (kept_on b m.delivered r) carry (λ k. instream_link b r ≡ Some k) (slice_index m.plan.flow e)
    (tail_of b e) e rank m.plan.flow l (unmoved b m r carry (slice_index m.plan.flow e) (tail_of b e) rank given wide
    (λ k h. ap (slice_index m.plan.flow) (sym (own_is b r e k is h)))) (λ k. refl) is (λ k h. own_is b r e k is h) room

-- a unit at the tail of an instream right's link goes over it and down
pub go_down : (b : Basin) (m : MonthRecord) (r e : ℕ) (out : ℕ → Bool) (rank : ℕ → ℕ) (numbers : HasNumbers b)
    (carry : ℕ → ℕ) (from : ℕ) (flow : List ℕ) → HasPlan b m → HasRoomDown b m r →
    ((e : ℕ) → e < length b.links → can_rise b m e ≡ true → out (tail_of b e) ≡ true → out (head_of b e) ≡ true) →
    ((n : ℕ) → out n ≡ true → rank n ≡ numbers.most - numbers.number n) →
    ((e : ℕ) → carry_of b m.month e ≤ carry e) → instream_link b r ≡ Some e → e < length b.links →
    out (tail_of b e) ≡ false → out (head_of b e) ≡ true → numbers.most < rank (tail_of b e) →
    IsMoved b m r carry (slice_index m.plan.flow e) from (tail_of b e) rank flow →
    HasGoneOut b m (kept_on b m.delivered r) carry (λ k. instream_link b r ≡ Some k) (slice_index m.plan.flow e + 1)
    from rank
go_down b m r e out rank numbers carry from flow given room stays same wide is l not_out head_out high now =
    let mine : ℕ → Type 0 = λ k. instream_link b r ≡ Some k in
    let least : ℕ → ℕ = kept_on b m.delivered r in
    let was : ℕ = slice_index m.plan.flow e in
    send_down b m least carry mine (was + 1) from rank given room.rivers wide numbers out stays same
    (λ k h at. both_ways _ not_out (ap (λ j. out (tail_of b j)) (own_is b r e k is h) ∙ at))
    (head_of b e) (one_more flow e) (ends b given.valid e l).1 head_out
    (move_forward b m least carry mine was from e rank flow l (was + 1) now
    (omega (arith, ltb-true _ _ (room.own e is), wide e, now.own e is))
    (omega (arith, same (head_of b e) head_out, high))
    (λ k h. subst (λ j. slice_index (one_more flow e) j ≡ was + 1) (own_is b r e k is h)
    (omega (arith, get_or-set_same flow e (slice_index flow e + 1) 0 (omega (arith, now.size, l)), now.own e is))))
