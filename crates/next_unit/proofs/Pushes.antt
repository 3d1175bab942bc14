-- One unit is moved along steps to nodes of lesser and lesser rank. So no link is used twice: a link with an end of
-- lesser rank than the node where the unit is has still its old flow.
use Rattle.std.proofs.Common.{◌≡◌, ◌≢◌, ℕ, ◌+◌, ◌-◌, ◌<◌, ◌≤◌, Bool, true, false, refl, sym, ◌∙◌, ap, arith}
use Rattle.std.proofs.Common.{subst, List, length, inl, inr, min}
use Rattle.std.proofs.lemmas.Bool.{both_ways, cases_eq, eq-eqb}
use Rattle.std.proofs.lemmas.List.{get_or-set_same, get_or-set_other, length-set}
use Rattle.std.specs.Prelude.{◌==◌, if◌then◌else◌, slice_index, slice_index_or, slice_set, Some, ◌↔◌}
use Rattle.finite_sums.specs.Sums.{total, when}
use Rattle.finite_sums.proofs.Totals.{total_change}
use Rattle.water_model.specs.Basin.{head_of, tail_of, instream_link, is_on_link, is_at}
use Rattle.water_model.specs.Plans.{carry_of, inflow_to, outflow_from}
use Rattle.water_model.specs.Cuts.{kept_on}
use Rattle.water_model.specs.declared.types.Basin.{Basin}
use Rattle.water_model.specs.declared.types.MonthRecord.{MonthRecord}
use Rattle.plan_residual.specs.Residual.{HasPlan}
use Rattle.plan_residual.proofs.Slack.{kept_le_flow}
use Rattle.next_unit.specs.Core.{one_more}

-- the flow with one less on a link
abbrev pub one_less : List ℕ → ℕ → List ℕ
one_less flow e = slice_set flow e (slice_index flow e - 1)

-- an own link is no other one
pub off_link : (b : Basin) (r e k : ℕ) → is_on_link b r e ≡ false → instream_link b r ≡ Some k → k ≢ e
off_link b r e k off is same = both_ways _ off (ap (λ o. is_at o e) is ∙ eq-eqb k e same)

-- what holds of the new number at its index, and of the others at theirs, holds of each
pub set_each : {A : Type 0} (P : ℕ → A → Type 0) (xs : List A) (e : ℕ) (y d : A) → e < length xs → P e y →
    ((k : ℕ) → k ≢ e → P k (slice_index_or xs k d)) → (k : ℕ) → P k (slice_index_or (slice_set xs e y) k d)
set_each P xs e y d l here other k = elim (cases_eq k e) [
  | inl same ↦ subst (λ j. P j (slice_index_or (slice_set xs e y) j d)) (sym same)
      (subst (P e) (sym (get_or-set_same xs e y d l)) here)
  | inr ne ↦ subst (P k) (sym (get_or-set_other xs e k y d ne)) (other k ne)
]

-- the sums at a node, by whether it is the tail and whether it is the head of the link
rises : (t u : Bool) (x y o o' i i' a fo fi : ℕ) → y ≡ x + 1 → o + (if t then y else 0) ≡ o' + (if t then x else 0) →
    i + (if u then y else 0) ≡ i' + (if u then x else 0) →
    (fo + i + a ≡ fi + o + when t 1) ↔ (fo + i' + a ≡ fi + o' + when u 1)
rises true true x y o o' i i' a fo fi s p q = omega arith
rises true false x y o o' i i' a fo fi s p q = omega arith
rises false true x y o o' i i' a fo fi s p q = omega arith
rises false false x y o o' i i' a fo fi s p q = omega arith

-- a sum over the links of which one changes
changed : {links : ℕ} (p : ℕ → Bool) (flow : List ℕ) (e y : ℕ) → e < links → length flow ≡ links →
    total links (λ k. if p k then slice_index flow k else 0) + (if p e then y else 0)
    ≡ total links (λ k. if p k then slice_index (slice_set flow e y) k else 0) + (if p e then slice_index flow e else 0)
changed {links = links} p flow e y l len =
    let change = total_change links e (λ k. if p k then slice_index flow k else 0)
    (λ k. if p k then slice_index (slice_set flow e y) k else 0) l
    (λ k c ne. ap (λ x. if p k then x else 0) (sym (get_or-set_other flow e k y 0 ne))) in
    let here : (if p e then slice_index (slice_set flow e y) e else 0) ≡ (if p e then y else 0) =
    ap (λ x. if p e then x else 0) (get_or-set_same flow e y 0 (omega (arith, l, len))) in
    omega (arith, change, here)

-- where the flow on each link is to be within bounds, and on each own link what is given
module _ (b : Basin) (m : MonthRecord) (least carry : ℕ → ℕ) (is_own : ℕ → Type 0) where
  -- a month's flow from which the unit was moved from a node to another
  pub record IsMovedBy (own_flow from to : ℕ) (rank : ℕ → ℕ) (flow : List ℕ) : Type 0 where
    pub size : length flow ≡ length b.links
    pub carries : (e : ℕ) → e < length b.links → slice_index flow e ≤ carry e
    pub kept : (e : ℕ) → least e ≤ slice_index flow e
    pub own : (e : ℕ) → is_own e → slice_index flow e ≡ own_flow
    pub moved : (n : ℕ) → outflow_from b m.plan.flow n + inflow_to b flow n + when (from == n) 1
        ≡ inflow_to b m.plan.flow n + outflow_from b flow n + when (to == n) 1
    pub old : (e : ℕ) → e < length b.links → (is_own e → ⊥) →
        min (rank (tail_of b e)) (rank (head_of b e)) < rank to → slice_index flow e ≡ slice_index m.plan.flow e

  -- before the first step
  pub not_moved : (own node : ℕ) (rank : ℕ → ℕ) → HasPlan b m → ((e : ℕ) → least e ≤ slice_index m.plan.flow e) →
      ((e : ℕ) → carry_of b m.month e ≤ carry e) → ((e : ℕ) → is_own e → slice_index m.plan.flow e ≡ own) →
      IsMovedBy own node node rank m.plan.flow
  not_moved own node rank given some wide is = record {
    size = given.plan.flow_len;
    carries = λ e l. omega (arith, given.plan.carries e l, wide e);
    kept = some;
    own = is;
    moved = λ n. swap (outflow_from b m.plan.flow n) (inflow_to b m.plan.flow n) (when (node == n) 1);
    old = λ e l off h. refl;
  }
    where
      swap : (x y z : ℕ) → x + y + z ≡ y + x + z
      swap x y z = omega arith

  -- a step over a link to one of its ends
  module _ (own from to e : ℕ) (rank : ℕ → ℕ) (flow : List ℕ) (l : e < length b.links)
      (now : IsMovedBy own from to rank flow) where
    over_link : (after next y : ℕ) → y ≤ carry e → least e ≤ y →
        ((k : ℕ) → is_own k → slice_index (slice_set flow e y) k ≡ after) →
        ((n : ℕ) → outflow_from b m.plan.flow n + inflow_to b (slice_set flow e y) n + when (from == n) 1
        ≡ inflow_to b m.plan.flow n + outflow_from b (slice_set flow e y) n + when (next == n) 1) →
        ((k : ℕ) → k < length b.links → (is_own k → ⊥) → min (rank (tail_of b k)) (rank (head_of b k)) < rank next →
        (k ≢ e) × (slice_index flow k ≡ slice_index m.plan.flow k)) →
        IsMovedBy after from next rank (slice_set flow e y)
    over_link after next y most some own moved apart = record {
      size = length-set flow e y ∙ now.size;
      carries = set_each (λ k x. k < length b.links → x ≤ carry k) flow e y 0 below (λ c. most) (λ k ne. now.carries k);
      kept = set_each (λ k x. least k ≤ x) flow e y 0 below some (λ k ne. now.kept k);
      own = own;
      moved = moved;
      old = λ k c off h. (let other = apart k c off h in get_or-set_other flow e k y 0 other.0 ∙ other.1);
    }
      where
        below : e < length flow
        below = omega (arith, l, now.size)

    -- to one of lesser rank
    lower_end : (next : ℕ) → rank next < rank to → rank next ≤ min (rank (tail_of b e)) (rank (head_of b e)) →
        (k : ℕ) → k < length b.links → (is_own k → ⊥) → min (rank (tail_of b k)) (rank (head_of b k)) < rank next →
        (k ≢ e) × (slice_index flow k ≡ slice_index m.plan.flow k)
    lower_end next lower ends k c off h = (
      λ same. (let at = ap (λ j. min (rank (tail_of b j)) (rank (head_of b j))) same in omega (arith, at, h, ends)),
      now.old k c off (omega (arith, h, lower)),
    )

    -- over a link that is not an own one
    pub own_stays : (y : ℕ) → (is_own e → ⊥) → (k : ℕ) → is_own k → slice_index (slice_set flow e y) k ≡ own
    own_stays y off k is = get_or-set_other flow e k y 0 (λ same. off (subst is_own same is)) ∙ now.own k is

  module _ (own from e : ℕ) (rank : ℕ → ℕ) (flow : List ℕ) (l : e < length b.links) where
    -- with one more unit, from the tail
    rise : (now : IsMovedBy own from (tail_of b e) rank flow) (n : ℕ) →
        outflow_from b m.plan.flow n + inflow_to b (one_more flow e) n + when (from == n) 1
        ≡ inflow_to b m.plan.flow n + outflow_from b (one_more flow e) n + when (head_of b e == n) 1
    rise now n = (rises (tail_of b e == n) (head_of b e == n) (slice_index flow e) (slice_index flow e + 1)
        (outflow_from b flow n) (outflow_from b (one_more flow e) n) (inflow_to b flow n)
        (inflow_to b (one_more flow e) n) (when (from == n) 1) (outflow_from b m.plan.flow n)
        (inflow_to b m.plan.flow n) refl (changed (λ k. tail_of b k == n) flow e (slice_index flow e + 1) l now.size)
        (changed (λ k. head_of b k == n) flow e (slice_index flow e + 1) l now.size)).0 (now.moved n)

    -- a step forward over a link with its old flow
    pub move_forward : (after : ℕ) (now : IsMovedBy own from (tail_of b e) rank flow) →
        slice_index flow e < carry e → rank (head_of b e) < rank (tail_of b e) →
        ((k : ℕ) → is_own k → slice_index (one_more flow e) k ≡ after) →
        IsMovedBy after from (head_of b e) rank (one_more flow e)
    move_forward after now room lower stays =
        over_link own from (tail_of b e) e rank flow l now after (head_of b e) (slice_index flow e + 1)
        (omega (arith, room)) (omega (arith, now.kept e)) stays (rise now)
        (lower_end own from (tail_of b e) e rank flow l now (head_of b e) lower (omega (arith, lower)))

    -- a step backward
    pub move_backward : (now : IsMovedBy own from (head_of b e) rank flow) → least e < slice_index flow e →
        rank (tail_of b e) < rank (head_of b e) → (is_own e → ⊥) →
        IsMovedBy own from (tail_of b e) rank (one_less flow e)
    move_backward now room lower off =
        over_link own from (head_of b e) e rank flow l now own (tail_of b e) (slice_index flow e - 1)
        (omega (arith, now.carries e l)) (omega (arith, room))
        (own_stays own from (head_of b e) e rank flow l now (slice_index flow e - 1) off)
        (λ n. (rises (tail_of b e == n) (head_of b e == n) (slice_index flow e - 1) (slice_index flow e)
        (outflow_from b (one_less flow e) n) (outflow_from b flow n) (inflow_to b (one_less flow e) n)
        (inflow_to b flow n) (when (from == n) 1) (outflow_from b m.plan.flow n) (inflow_to b m.plan.flow n)
        (omega (arith, room)) (sym (changed (λ k. tail_of b k == n) flow e (slice_index flow e - 1) l now.size))
        (sym (changed (λ k. head_of b k == n) flow e (slice_index flow e - 1) l now.size))).1 (now.moved n))
        (lower_end own from (head_of b e) e rank flow l now (tail_of b e) lower (omega (arith, lower)))

    -- the first step over an own link, to any node
    pub own_first : (now : IsMovedBy own from (tail_of b e) rank flow) →
        ((k : ℕ) → slice_index flow k ≡ slice_index m.plan.flow k) → is_own e → ((k : ℕ) → is_own k → e ≡ k) →
        slice_index flow e < carry e → IsMovedBy (slice_index flow e + 1) from (head_of b e) rank (one_more flow e)
    own_first now same is one room =
        over_link own from (tail_of b e) e rank flow l now (slice_index flow e + 1) (head_of b e)
        (slice_index flow e + 1) (omega (arith, room)) (omega (arith, now.kept e))
        (λ k h. subst (λ j. slice_index (one_more flow e) j ≡ slice_index flow e + 1) (one k h)
        (get_or-set_same flow e (slice_index flow e + 1) 0 (omega (arith, l, now.size)))) (rise now)
        (λ k c off h. (λ k_is. off (subst is_own (sym k_is) is), same k))

-- a unit that is moved for a right: its link is its own, and each carries at least what is kept for its seniors
abbrev pub IsMoved : Basin → MonthRecord → ℕ → (ℕ → ℕ) → ℕ → ℕ → ℕ → (ℕ → ℕ) → List ℕ → Type 0
IsMoved b m r carry = IsMovedBy b m (kept_on b m.delivered r) carry (λ e. instream_link b r ≡ Some e)

-- before the first step
pub unmoved : (b : Basin) (m : MonthRecord) (r : ℕ) (carry : ℕ → ℕ) (own node : ℕ) (rank : ℕ → ℕ) → HasPlan b m →
    ((e : ℕ) → carry_of b m.month e ≤ carry e) →
    ((e : ℕ) → instream_link b r ≡ Some e → slice_index m.plan.flow e ≡ own) →
    IsMoved b m r carry own node node rank m.plan.flow
unmoved b m r carry own node rank given wide is =
    not_moved b m (kept_on b m.delivered r) carry (λ e. instream_link b r ≡ Some e) own node rank given
    (λ e. kept_le_flow b m r e given) wide is
